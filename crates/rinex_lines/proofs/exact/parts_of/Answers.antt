use Rattle.std.proofs.Common.{◌≡◌, pos, ◌+ℤ◌, MatchOption, None, Some, Option, subst, arith, w32, to_z, of_z}
use Rattle.std.proofs.lemmas.Int.{ints}
use Rattle.scaled_decimal.specs.NumberText.{Parts}
use Rattle.rinex_lines.specs.Mirrors.{ArePrinted}
use Rattle.rinex_lines.proofs.Places.{first_at, parts_by, place_below}
use Rattle.rinex_lines.proofs.exact.parts_of.Goals as goal

pub thirteen-requires-clause-place : goal.thirteen-requires-clause-place
thirteen-requires-clause-place c =
    omega (arith, place_below c.args.digits c.ilog10-place.result 18 c.ilog10-place.ensures.power_le c.requires.below)

pub returns : goal.returns
returns c =
    let n = c.args.digits in
    let k = c.ilog10-place.result in
    let few = place_below n k 18 c.ilog10-place.ensures.power_le c.requires.below in
    let first = first_at n k c.ilog10-place.ensures.power_le c.ilog10-place.ensures.next_power_gt in
    let exponent : to_z w32 (of_z w32 (to_z w32 (of_z w32 c.args.exponent) +ℤ to_z w32 k)) ≡ c.args.exponent +ℤ pos k
    = omega (arith, ints, few, c.requires.from, c.requires.to) in
    let same = parts_by n k c.args.exponent _ c.thirteen.result first c.requires.below exponent c.thirteen.ensures.digits in
    subst (λ (o : Option Parts). MatchOption c.parts_with.result (o ≡ None)
    (λ p. (o ≡ Some (record { digits = p.digits; exponent = p.exponent })) × ArePrinted p.digits p.exponent)) same c.parts_with.ensures
