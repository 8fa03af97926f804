-- The rest of a form, where the text is at its end.
use Rattle.std.proofs.Common.{◌≡◌, ◌∙◌, ℕ, Bool, List, [], ◌∷◌, length, refl, sym, ap, arith}
use Rattle.std.specs.Prelude.{◌==◌}
use Rattle.file_conversion.specs.Fits.{fits}

none_left : (form : List ℕ) → (length form == 0) ≡ fits form []
none_left [] = refl
none_left (class ∷ form) = grind (arith)

pub at_end : (whole form text rest : List ℕ) (r : Bool) → r ≡ (length form == 0) → rest ≡ [] → fits whole text ≡ fits form rest → r ≡ fits whole text
at_end whole form text rest r is none same = is ∙ none_left form ∙ sym (same ∙ ap (fits form) none)
