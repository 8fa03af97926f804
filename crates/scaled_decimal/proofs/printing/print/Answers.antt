use Rattle.std.proofs.Common.{◌≡◌, ◌≤◌, ◌∙◌, ◌∷◌, ap, ap₂, sym, subst, unsigned_abs, w64, to_z-of_z}
use Rattle.scaled_decimal.specs.ScaleValue.{size_of}
use Rattle.scaled_decimal.specs.NumberText.{Parts, parts_at, sign_column, body, number_text}
use Rattle.scaled_decimal.proofs.FarLemmas.{is_scale}
use Rattle.scaled_decimal.proofs.InReachLemmas.{IsPrintable}
use Rattle.scaled_decimal.proofs.TextLemmas.{parts_at_printable}
use Rattle.scaled_decimal.proofs.printing.print.Goals as goal
use Rattle.scaled_decimal.proofs.printing.print.Goals.{After-text_of-arg-1}

printable : (c : After-text_of-arg-1) → IsPrintable (record { digits = c.parts_at.result.digits; exponent = c.parts_at.result.exponent })
printable c =
    let size : c.unsigned_abs.result ≡ unsigned_abs c.args.n = c.unsigned_abs.ensures.value ∙ ap unsigned_abs (to_z-of_z {w = w64} c.ranges.n) in
    subst (λ (p : Parts). IsPrintable p) (sym c.parts_at.ensures)
    (parts_at_printable (size_of c.args.scale.now) c.unsigned_abs.result (is_scale c.args.scale.now c.requires.scale)
    (subst (λ n. n ≤ 4294967295) (sym size) c.requires.number))

pub text_of-requires-clause-digits : goal.text_of-requires-clause-digits
text_of-requires-clause-digits c = (printable c).digits

pub text_of-requires-clause-from : goal.text_of-requires-clause-from
text_of-requires-clause-from c = (printable c).from

pub text_of-requires-clause-to : goal.text_of-requires-clause-to
text_of-requires-clause-to c = (printable c).to

pub returns : goal.returns
unfolding number_text
returns c =
    let s = size_of c.args.scale.now in
    let same = to_z-of_z {w = w64} c.ranges.n in
    let size : c.unsigned_abs.result ≡ unsigned_abs c.args.n = c.unsigned_abs.ensures.value ∙ ap unsigned_abs same in
    let sign : c.sign_column.result ≡ sign_column c.args.n = c.sign_column.ensures ∙ ap sign_column same in
    c.text_of.ensures ∙ ap₂ (λ x p. x ∷ body p) sign (c.parts_at.ensures ∙ ap (parts_at s) size)
