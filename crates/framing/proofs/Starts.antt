-- No frame begins with a byte other than D3.
use Rattle.std.proofs.Common.{◌≡◌, ℕ, ◌+◌, ◌<◌, nat_eq, Bool, false, List, [], ◌∷◌, length, get_or, drop, refl, ap, ◌∙◌, sym, add-zero}
use Rattle.std.proofs.lemmas.Bool.{ne_eqb, and_right}
use Rattle.std.proofs.lemmas.List.{get_or-drop}
use Rattle.framing.specs.Frames.{frame_size, is_open}
use Rattle.framing.specs.Mirrors.{from_first}
use Rattle.framing.proofs.Takes.{first_passed}

other_open : (xs : List ℕ) → (get_or xs 0 0 ≡ 211 → ⊥) → is_open xs ≡ false
unfolding is_open
other_open [] other = refl
other_open (x ∷ []) other = ne_eqb _ _ other
other_open (x ∷ y ∷ []) other = ne_eqb _ _ other
other_open (x ∷ y ∷ z ∷ zs) other = let e : nat_eq x 211 ≡ false = ne_eqb _ _ other in rw e refl

other_size : (xs : List ℕ) → (get_or xs 0 0 ≡ 211 → ⊥) → frame_size xs ≡ 0
unfolding frame_size
other_size [] other = refl
other_size (x ∷ []) other = refl
other_size (x ∷ y ∷ []) other = refl
other_size (x ∷ y ∷ z ∷ zs) other = let e : nat_eq x 211 ≡ false = ne_eqb _ _ other in rw e refl

-- a byte other than D3 is passed
pub other_passed : (more : Bool) (b : List ℕ) (i : ℕ) → i < length b → (get_or b i 0 ≡ 211 → ⊥) → from_first more (drop i b) ≡ from_first more (drop (i + 1) b)
other_passed more b i h other =
    let at : get_or (drop i b) 0 0 ≡ get_or b i 0 = get_or-drop i b 0 0 ∙ ap (λ n. get_or b n 0) (add-zero i) in
    let begins : get_or (drop i b) 0 0 ≡ 211 → ⊥ = λ e. other (sym at ∙ e) in
    first_passed more b i h (and_right more _ (other_open (drop i b) begins)) (other_size (drop i b) begins)
