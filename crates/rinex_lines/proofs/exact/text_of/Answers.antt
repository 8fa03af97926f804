use Rattle.std.proofs.Common.{◌≡◌, ◌∙◌, ◌/◌, ◌%◌, ◌^◌, ◌∷◌, ◌++◌, unsigned_abs, ap, ap₂, rules, w32, FitsSigned, to_z-of_z}
use Rattle.scaled_decimal.specs.NumberText.{digits, exponent_sign}
use Rattle.rinex_lines.proofs.Digits.{assembled}
use Rattle.rinex_lines.proofs.exact.text_of.Goals as goal

pub returns : goal.returns
returns c =
    let p = c.args.parts.now in
    let fits : FitsSigned w32 p.exponent = search rules in
    let sign : c.exponent_sign.result ≡ exponent_sign p.exponent = c.exponent_sign.ensures ∙ ap exponent_sign (to_z-of_z fits) in
    let size : c.from-exponent.result ≡ unsigned_abs p.exponent = c.from-exponent.ensures ∙ c.unsigned_abs.ensures.value ∙ ap unsigned_abs (to_z-of_z fits) in
    assembled c.sign_column.result c.exponent_sign.result (p.digits / 10 ^ 12) (p.digits % 10 ^ 12) c.from-exponent.result
    _ _ _ c.twelve_digits.result c.digit.ensures c.twelve_digits.ensures c.digit-2.ensures c.digit-3.ensures
    ∙ ap₂ (λ x y. c.sign_column.result ∷ (digits 1 (p.digits / 10 ^ 12) ++ 46 ∷ (digits 12 (p.digits % 10 ^ 12) ++ 68 ∷ x ∷ digits 2 y))) sign size
    ∙ ap (λ x. x ∷ (digits 1 (p.digits / 10 ^ 12) ++ 46 ∷ (digits 12 (p.digits % 10 ^ 12) ++ 68 ∷ exponent_sign p.exponent ∷ digits 2 (unsigned_abs p.exponent)))) c.sign_column.ensures
