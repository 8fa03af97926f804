use Rattle.std.proofs.Common.{◌≡◌, ◌^◌, ◌+ℤ◌, ℤ, pos, arith, w32, to_z, of_z}
use Rattle.std.proofs.lemmas.Nat.{pow_pos}
use Rattle.std.proofs.lemmas.Int.{ints}
use Rattle.scaled_decimal.specs.ScaleValue.{size_of}
use Rattle.scaled_decimal.specs.NumberReading.{Reading}
use Rattle.scaled_decimal.proofs.FarLemmas.{is_scale}
use Rattle.scaled_decimal.proofs.ReadLemmas.{value_cases}
use Rattle.scaled_decimal.proofs.reading.value_by_division.Goals as goal

pub returns : goal.returns
returns c =
    let d = c.args.decimal.now in
    let r : Reading = record { digits = d.digits; exponent = d.exponent } in
    let size = c.ratio_of-size in
    let shift = c.shifts-up in
    let x : ℤ = to_z w32 (of_z w32 (to_z w32 (of_z w32 d.exponent) +ℤ pos 20)) in
    let is : x ≡ d.exponent +ℤ pos 20 = omega (arith, ints, c.requires.decimal.from, c.requires.decimal.to) in
    value_cases (size_of c.args.scale.now) r x shift.result.0 shift.result.1 size.result.over (2 ^ size.result.bits) c.nearest_at.result
    (record {
      some = (is_scale c.args.scale.now c.requires.scale).some;
      pos_o = let some = pow_pos size.result.bits in omega (arith, size.ensures.least);
      size = size.ensures.same;
      shift = is;
      over_is = shift.ensures.over;
      under_is = shift.ensures.under;
    })
    c.nearest_at.ensures
