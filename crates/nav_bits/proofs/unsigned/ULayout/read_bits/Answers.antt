use Rattle.std.proofs.Common.{lit<, arith}
use Rattle.nav_bits.specs.Laws.{number_at-lt}
use Rattle.nav_bits.proofs.unsigned.ULayout.read_bits.Goals as goal

pub from_bits-requires : goal.from_bits-requires
from_bits-requires g c = (lit< tt, omega (arith, number_at-lt c.args.from.now c.args.at g.row.W))
