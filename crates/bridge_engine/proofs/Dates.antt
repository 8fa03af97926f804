-- The form of a date.
use Rattle.std.proofs.Common.{◌≡◌, ℕ, Bool, true, List, codes, take, drop, length, slice_index, ◌-◌, refl, sym, ap, ◌∙◌}
use Rattle.std.proofs.lemmas.List.{length-drop}
use Rattle.std.proofs.Math.Seq.{take-length}
use Rattle.std.specs.List.{list_all}
use Rattle.std.specs.Char.{is_ascii_digit}
use Rattle.bridge_engine.specs.Job.{IsDateText}

take_rest : (text : List ℕ) (i : ℕ) → take (length text - i) (drop i text) ≡ drop i text
take_rest text i = ap (λ (n : ℕ). take n (drop i text)) (sym (length-drop i text)) ∙ take-length (drop i text)

pub date_form : (text : List ℕ) (b : Bool) → length text ≡ 19 → slice_index text 8 ≡ 32 → take (length text - 15) (drop 15 text) ≡ codes " UTC"
    → list_all is_ascii_digit (take 8 text) ≡ true → b ≡ list_all is_ascii_digit (take 6 (drop 9 text))
    → (b ≡ true → IsDateText text text) × (IsDateText text text → b ≡ true)
date_form text b size space zone day time = (
  λ yes. record { same = refl; size = size; day = day; space = space; time = sym time ∙ yes; zone = sym (take_rest text 15) ∙ zone },
  λ is. time ∙ is.time,
)
