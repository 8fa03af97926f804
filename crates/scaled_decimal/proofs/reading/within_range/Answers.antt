use Rattle.std.proofs.Common.{◌≡◌, ◌∙◌, ap, rules, w64, to_z, of_z, to_z-of_z, FitsSigned}
use Rattle.scaled_decimal.specs.ScaleValue.{size_of}
use Rattle.scaled_decimal.specs.NumberReading.{Reading, number, signed, read_of, at_size}
use Rattle.scaled_decimal.specs.Fractions.{nearest_to}
use Rattle.scaled_decimal.proofs.reading.within_range.Goals as goal

pub returns : goal.returns
returns c =
    let d = c.args.decimal.now in
    let r : Reading = record { digits = d.digits; exponent = d.exponent } in
    let near = c.in-Some.ensures in
    let low : to_z w64 (of_z w64 c.args.low) ≡ c.args.low = to_z-of_z c.ranges.low in
    let high : to_z w64 (of_z w64 c.args.high) ≡ c.args.high = to_z-of_z c.ranges.high in
    let fits : FitsSigned w64 c.signed.result = search rules in
    let size : to_z w64 (of_z w64 c.signed.result) ≡ signed d.minus (nearest_to (at_size (size_of c.args.scale.now) r))
    = to_z-of_z fits ∙ c.signed.ensures ∙ ap (signed d.minus) near.0 in
    c.within.ensures ∙ ap (λ z. read_of z (to_z w64 (of_z w64 c.args.high)) (number (to_z w64 (of_z w64 c.signed.result)))) low
    ∙ ap (λ z. read_of c.args.low z (number (to_z w64 (of_z w64 c.signed.result)))) high
    ∙ ap (λ z. read_of c.args.low c.args.high (number z)) size
