use Rattle.std.proofs.Common.{◌≡◌, ◌+ℤ◌, ℤ, pos, arith, w32, to_z, of_z}
use Rattle.std.proofs.lemmas.Int.{ints}
use Rattle.scaled_decimal.specs.ScaleValue.{size_of}
use Rattle.scaled_decimal.specs.NumberReading.{Reading}
use Rattle.scaled_decimal.proofs.FarLemmas.{is_scale}
use Rattle.scaled_decimal.proofs.GuessLemmas.{number_near}
use Rattle.scaled_decimal.proofs.reading.value_at.Goals as goal

pub returns-in-Some : goal.returns-in-Some
returns-in-Some c =
    let d = c.args.decimal.now in
    let r : Reading = record { digits = d.digits; exponent = d.exponent } in
    let shift = c.shifts-up in
    let x : ℤ = to_z w32 (of_z w32 (to_z w32 (of_z w32 d.exponent) +ℤ pos 20)) in
    let is : x ≡ d.exponent +ℤ pos 20 = omega (arith, ints, c.requires.decimal.from, c.requires.decimal.to) in
    number_near (size_of c.args.scale.now) r x shift.result.0 shift.result.1 c.in-Some.number (is_scale c.args.scale.now c.requires.scale).some
    is shift.ensures.over shift.ensures.under c.in-Some.ensures
