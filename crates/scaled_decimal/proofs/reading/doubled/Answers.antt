use Rattle.std.proofs.Common.{◌%◌, arith}
use Rattle.scaled_decimal.proofs.QuotientLemmas.{too_wide}
use Rattle.scaled_decimal.proofs.reading.doubled.Goals as goal

pub returns-then-number-bits : goal.returns-then-number-bits
returns-then-number-bits c = too_wide c.args.number c.args.bits (c.args.bits % 64) (omega (arith, c.requires)) c.if-number-bits.true
