use Rattle.std.proofs.Common.{◌≡◌, ◌∙◌, ◌/◌, ◌%◌, ◌^◌, ◌∷◌, ◌++◌, unsigned_abs, ap, ap₂, arith, rules, w32, FitsSigned, to_z-of_z}
use Rattle.scaled_decimal.specs.NumberText.{digits, exponent_sign}
use Rattle.scaled_decimal.proofs.DigitLemmas.{assembled, pair_first, pair_second}
use Rattle.scaled_decimal.proofs.printing.text_of.Goals as goal

pub returns : goal.returns
returns c =
    let p = c.args.parts.now in
    let fits : FitsSigned w32 p.exponent = search rules in
    let sign : c.exponent_sign.result ≡ exponent_sign p.exponent = c.exponent_sign.ensures ∙ ap exponent_sign (to_z-of_z fits) in
    let size : c.unsigned_abs.result ≡ unsigned_abs p.exponent = c.unsigned_abs.ensures.value ∙ ap unsigned_abs (to_z-of_z fits) in
    assembled c.args.sign c.exponent_sign.result (p.digits / 10 ^ 12) (p.digits % 10 ^ 12) c.unsigned_abs.result
    _ _ _ c.six_digits.result c.six_digits-2.result
    (omega (arith, c.requires.digits)) c.six_digits.ensures c.six_digits-2.ensures
    (pair_first c.unsigned_abs.result c.two_digits.result c.two_digits.ensures) (pair_second c.unsigned_abs.result c.two_digits.result c.two_digits.ensures)
    ∙ ap₂ (λ x y. c.args.sign ∷ (digits 1 (p.digits / 10 ^ 12) ++ 46 ∷ (digits 12 (p.digits % 10 ^ 12) ++ 68 ∷ x ∷ digits 2 y))) sign size
