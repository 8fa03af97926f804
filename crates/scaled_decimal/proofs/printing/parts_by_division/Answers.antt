use Rattle.std.proofs.Common.{◌≡◌, ◌^◌, ◌∙◌, ap, pos, ◌-ℤ◌, w32, to_z, of_z, arith}
use Rattle.std.proofs.lemmas.Nat.{pow_pos}
use Rattle.std.proofs.lemmas.Int.{ints}
use Rattle.scaled_decimal.specs.ScaleValue.{size_of}
use Rattle.scaled_decimal.specs.NumberText.{carried}
use Rattle.scaled_decimal.proofs.FarLemmas.{is_scale}
use Rattle.scaled_decimal.proofs.PrintLemmas.{printed_at}
use Rattle.scaled_decimal.proofs.printing.parts_by_division.Goals as goal

pub returns : goal.returns
returns c =
    let size = c.ratio_of-size in
    let place = c.place_of-place in
    let d = c.digits_at-digits.ensures in
    let are_parts = printed_at (size_of c.args.scale.now) c.args.number c.from.result size.result.over (2 ^ size.result.bits) place.result
    d.over' d.under' c.digits_at-digits.result
    (is_scale c.args.scale.now c.requires.scale) c.requires.some c.requires.small (pow_pos size.result.bits) size.ensures.same c.from.ensures
    place.ensures.at_most place.ensures.below d.moved d.nearest in
    let exponent : to_z w32 (of_z w32 (to_z w32 place.result -ℤ pos 20)) ≡ pos place.result -ℤ pos 20 = omega (arith, ints, place.ensures.limit) in
    c.carried.ensures ∙ ap (carried c.digits_at-digits.result) exponent ∙ are_parts
