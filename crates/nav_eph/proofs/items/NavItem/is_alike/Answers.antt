use Rattle.std.proofs.lemmas.Bool.Decides.{same_from_decides}
use Rattle.nav_eph.proofs.RankLemmas.{is_alike-decides}
use Rattle.nav_eph.proofs.items.NavItem.is_alike.Goals as goal

pub returns-clause-answer : goal.returns-clause-answer
returns-clause-answer c = same_from_decides _ _ c.equals_unsent.ensures (is_alike-decides c.args.self.now c.args.other.now)
