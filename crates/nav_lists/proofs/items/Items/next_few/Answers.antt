use Rattle.std.proofs.Common.{arith, length-take}
use Rattle.nav_lists.proofs.items.Items.next_few.Goals as goal

pub returns-clause-some : goal.returns-clause-some
returns-clause-some c = simp length-take (omega arith)
