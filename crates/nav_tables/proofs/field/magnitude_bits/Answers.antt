use Rattle.std.proofs.Common.{◌≡◌, w64, of_z, to_z, pos, ◌≤ℤ◌, arith}
use Rattle.std.proofs.lemmas.Int.{ints, to_z-of_z}
use Rattle.nav_tables.proofs.FieldLemmas.{abs-lt}
use Rattle.nav_tables.proofs.field.magnitude_bits.Goals as goal

pub returns-else-number-lt0-clause-fits : goal.returns-else-number-lt0-clause-fits
returns-else-number-lt0-clause-fits c =
    let z = c.args.number in
    let same : to_z w64 (of_z w64 z) ≡ z = to_z-of_z w64 z c.ranges.number in
    let low : pos 0 ≤ℤ z = omega (arith, ints) in
    rw same (abs-lt c.args.width z c.requires.some c.requires.high low)
