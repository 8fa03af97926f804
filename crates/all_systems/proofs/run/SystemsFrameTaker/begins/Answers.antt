use Rattle.all_systems.proofs.Taking.{text_grows, told_grows}
use Rattle.all_systems.proofs.run.SystemsFrameTaker.begins.Goals as goal

pub returns-clause-grows : goal.returns-clause-grows
returns-clause-grows c = λ some more. text_grows c.args.self.now.kinds c.args.self.now.to c.args.self.now.week more some

pub returns-clause-more : goal.returns-clause-more
returns-clause-more c = λ some more. told_grows c.args.self.now.kinds c.args.self.now.week more some
