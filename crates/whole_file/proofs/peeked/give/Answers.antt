use Rattle.std.proofs.Common.{arith}
use Rattle.std.proofs.lemmas.Grind.{common_steps}
use Rattle.whole_file.proofs.peeked.give.Goals as goal

pub returns-clause-end : goal.returns-clause-end
returns-clause-end g c = grind (arith, common_steps)
