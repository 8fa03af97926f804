use Rattle.std.proofs.Common.{arith}
use Rattle.scaled_decimal.proofs.QuotientLemmas.{too_large}
use Rattle.scaled_decimal.proofs.reading.tenfold.Goals as goal

pub returns-then-tens-gt38 : goal.returns-then-tens-gt38
returns-then-tens-gt38 c h = let large = too_large c.args.number c.args.tens (omega arith) c.if-tens-gt38.true in omega arith
