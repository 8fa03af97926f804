use Rattle.std.proofs.Common.{◌≡◌, ◌∙◌, sym, ap, rules, w64, to_z, of_z, to_z-of_z}
use Rattle.scaled_decimal.specs.ScaleValue.{size_of}
use Rattle.scaled_decimal.specs.NumberReading.{Decimal, number, signed, read_of, at_size}
use Rattle.scaled_decimal.specs.Fractions.{nearest_to}
use Rattle.scaled_decimal.specs.declared.grammar.Decimal.{Decimal as Told}
use Rattle.scaled_decimal.proofs.ReadLemmas.{seen_nothing, seen_none, seen_some}
use Rattle.scaled_decimal.proofs.reading.read_any.Goals as goal

pub returns-then-is_empty : goal.returns-then-is_empty
returns-then-is_empty c =
    sym (ap (read_of c.args.low c.args.high) (seen_nothing (size_of c.args.scale.now) c.args.text.now c.trimmed-text.result.now c.trimmed-text.ensures.value (search rules)))

pub returns-in_default : goal.returns-in_default
returns-in_default c =
    sym (ap (read_of c.args.low c.args.high) (seen_none (size_of c.args.scale.now) c.args.text.now c.trimmed-text.result.now c.trimmed-text.ensures.value (search rules) (search rules)))

abbrev decimal_read : (d : Told) → Decimal
decimal_read d = record { minus = d.minus; value = record { digits = d.digits; exponent = d.exponent } }

pub returns : goal.returns
returns c =
    let s = size_of c.args.scale.now in
    let d = decimal_read c.in-Some.decimal in
    let read = c.in-Some.ensures in
    let n = number (signed d.minus (nearest_to (at_size s d.value))) in
    let low : to_z w64 (of_z w64 c.args.low) ≡ c.args.low = to_z-of_z c.ranges.low in
    let high : to_z w64 (of_z w64 c.args.high) ≡ c.args.high = to_z-of_z c.ranges.high in
    c.within_range.ensures ∙ ap (λ z. read_of z (to_z w64 (of_z w64 c.args.high)) n) low ∙ ap (λ z. read_of c.args.low z n) high
    ∙ sym (ap (read_of c.args.low c.args.high) (seen_some s c.args.text.now c.trimmed-text.result.now d c.trimmed-text.ensures.value read.0))
