use Rattle.std.proofs.Common.{arith}
use Rattle.lnav_subframe.proofs.Places.{puts_nothing}
use Rattle.lnav_subframe.proofs.words.put_source.Goals as goal

pub returns-else-last-eq1 : goal.returns-else-last-eq1
returns-else-last-eq1 c = puts_nothing c.args.source.now c.args.at c.args.value (c.requires.upright (omega (arith, c.if-last-eq1.false)))
