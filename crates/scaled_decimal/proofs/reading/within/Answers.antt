use Rattle.std.proofs.Common.{sym, arith}
use Rattle.std.proofs.lemmas.Int.{ints}
use Rattle.scaled_decimal.proofs.ReadLemmas.{read_low, read_high}
use Rattle.scaled_decimal.proofs.reading.within.Goals as goal

pub returns-then-nearest-low : goal.returns-then-nearest-low
returns-then-nearest-low c = sym (read_low c.args.low c.args.high c.args.nearest (omega (arith, ints)))

pub returns-then-nearest-high : goal.returns-then-nearest-high
returns-then-nearest-high c = sym (read_high c.args.low c.args.high c.args.nearest (omega (arith, ints)))
