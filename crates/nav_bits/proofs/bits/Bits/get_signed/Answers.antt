use Rattle.std.proofs.Common.{arith}
use Rattle.nav_bits.specs.Laws.{number_at-lt}
use Rattle.nav_bits.proofs.bits.Bits.get_signed.Goals as goal

pub sign_extended-requires-clause-fits : goal.sign_extended-requires-clause-fits
sign_extended-requires-clause-fits g c = omega (arith, number_at-lt c.args.self.now c.args.at c.args.width)
