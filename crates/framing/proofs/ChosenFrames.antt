-- The frames by recursion are those at the chosen offsets.
use Rattle.std.proofs.Common.{◌≡◌, ℕ, zero, suc, ◌+◌, ◌-◌, ◌<◌, ◌≤◌, nat_lt, Bool, true, false, List, [], ◌∷◌, take, drop, refl, sym, ap, arith}
use Rattle.std.proofs.lemmas.Bool.{ltb-true, ltb-false}
use Rattle.framing.specs.Frames.{frame_size, frames_past}
use Rattle.framing.specs.Places.{AreChosen, size_at, frames_from}
use Rattle.framing.proofs.Reaching.{Reaches, inside_is_passed, none_is_passed, outside_is_chosen, next_inside, next_outside, next_begun, behind}

-- from offset p on, the first k bytes being inside the last chosen frame
abbrev Agree : List ℕ → (ℕ → Bool) → List ℕ → ℕ → ℕ → Type 0
Agree bytes chosen rest p k = rest ≡ drop p bytes → Reaches bytes chosen p k → frames_from chosen p rest ≡ frames_past false rest k

agree_inside : (bytes : List ℕ) (chosen : ℕ → Bool) → AreChosen bytes chosen → (x : ℕ) (xs : List ℕ) (p k : ℕ)
    → Agree bytes chosen xs (p + 1) k → Agree bytes chosen (x ∷ xs) p (suc k)
agree_inside bytes chosen set x xs p k go e r =
    let closed = inside_is_passed bytes chosen set p k r in
    rw closed (go (behind bytes p x xs e) (next_inside bytes chosen p k closed r))

agree_at : (bytes : List ℕ) (chosen : ℕ → Bool) → AreChosen bytes chosen → (x : ℕ) (xs : List ℕ) (p : ℕ)
    → ((k : ℕ) → Agree bytes chosen xs (p + 1) k) → (found : Bool) → nat_lt 0 (frame_size (x ∷ xs)) ≡ found → Agree bytes chosen (x ∷ xs) p 0
agree_at bytes chosen set x xs p go true f e r =
    let size : size_at bytes p ≡ frame_size (x ∷ xs) = ap frame_size (sym e) in
    let some : 0 < frame_size (x ∷ xs) = ltb-true _ _ f in
    let here = outside_is_chosen bytes chosen set p (omega arith) r in
    let next : Reaches bytes chosen (p + 1) (frame_size (x ∷ xs) - 1) = rw size at (next_begun bytes chosen p here (omega arith) r) in
    rw (here, f) (ap (λ rest. take (frame_size (x ∷ xs)) (x ∷ xs) ∷ rest) (go (frame_size (x ∷ xs) - 1) (behind bytes p x xs e) next))
agree_at bytes chosen set x xs p go false f e r =
    let size : size_at bytes p ≡ frame_size (x ∷ xs) = ap frame_size (sym e) in
    let none : frame_size (x ∷ xs) ≤ 0 = ltb-false _ _ f in
    let closed = none_is_passed bytes chosen set p (omega arith) in
    rw (closed, f) (go 0 (behind bytes p x xs e) (next_outside bytes chosen p closed r))

pub chosen_frames : (bytes : List ℕ) (chosen : ℕ → Bool) → AreChosen bytes chosen → (rest : List ℕ) (p k : ℕ) → Agree bytes chosen rest p k
chosen_frames bytes chosen set [] p k = λ e r. refl
chosen_frames bytes chosen set (x ∷ xs) p zero = agree_at bytes chosen set x xs p (chosen_frames bytes chosen set xs (p + 1)) _ refl
chosen_frames bytes chosen set (x ∷ xs) p (suc k) = agree_inside bytes chosen set x xs p k (chosen_frames bytes chosen set xs (p + 1) k)
