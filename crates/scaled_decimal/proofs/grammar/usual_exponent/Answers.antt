use Rattle.std.proofs.Common.{◌≡◌, ◌∙◌, true, get_or, rules, w32, FitsSigned, to_z-of_z}
use Rattle.scaled_decimal.specs.Values.{is_letter}
use Rattle.scaled_decimal.proofs.UsualLemmas.{usual_exponent_is}
use Rattle.scaled_decimal.proofs.grammar.usual_exponent.Goals as goal

pub returns : goal.returns
returns c =
    let text = c.args.text.now in
    let letter : is_letter (get_or text 15 0) ≡ true = search rules in
    let digits = c.in_ok-number.ensures in
    let fits : FitsSigned w32 c.signed.result = search rules in
    usual_exponent_is text c.in_ok-minus.minus c.in_ok-number.number _ c.requires letter c.in_ok-minus.ensures
    digits.0 digits.1 digits.2 (to_z-of_z fits ∙ c.signed.ensures)
