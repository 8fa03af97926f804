-- The messages found in order are those at the chosen offsets.
use Rattle.std.proofs.Common.{◌≡◌, ℕ, zero, suc, ◌+◌, ◌-◌, ◌<◌, ◌≤◌, nat_lt, Bool, true, false}
use Rattle.std.proofs.Common.{List, [], ◌∷◌, take, drop, refl, sym, ap, arith}
use Rattle.std.proofs.lemmas.Bool.{ltb-true, ltb-false}
use Rattle.framing.specs.Messages.{Format, messages_past}
use Rattle.framing.specs.MessagePlaces.{AreChosen, size_at, messages_from}
use Rattle.framing.proofs.MessageReaching.{Reaches, inside_is_passed, none_is_passed, outside_is_chosen}
use Rattle.framing.proofs.MessageReaching.{next_inside, next_outside, next_begun, behind}

-- from offset p on, of which the first k bytes are in the last chosen message
abbrev Agree : Format → List ℕ → (ℕ → Bool) → List ℕ → ℕ → ℕ → Type 0
Agree format bytes chosen rest p k =
    rest ≡ drop p bytes → Reaches format bytes chosen p k
    → messages_from format chosen p rest ≡ messages_past format false rest k

agree_inside : (format : Format) → (bytes : List ℕ) (chosen : ℕ → Bool)
    → AreChosen format bytes chosen → (x : ℕ) (xs : List ℕ) (p k : ℕ)
    → Agree format bytes chosen xs (p + 1) k → Agree format bytes chosen (x ∷ xs) p (suc k)
agree_inside format bytes chosen set x xs p k go e r =
    let closed = inside_is_passed format bytes chosen set p k r in
    rw closed (go (behind bytes p x xs e) (next_inside format bytes chosen p k closed r))

agree_at : (format : Format) → (bytes : List ℕ) (chosen : ℕ → Bool) → AreChosen format bytes chosen
    → (x : ℕ) (xs : List ℕ) (p : ℕ)
    → ((k : ℕ) → Agree format bytes chosen xs (p + 1) k) → (found : Bool)
    → nat_lt 0 (format.size (x ∷ xs)) ≡ found → Agree format bytes chosen (x ∷ xs) p 0
agree_at format bytes chosen set x xs p go true f e r =
    let size : size_at format bytes p ≡ format.size (x ∷ xs) = ap format.size (sym e) in
    let some : 0 < format.size (x ∷ xs) = ltb-true _ _ f in
    let here = outside_is_chosen format bytes chosen set p (omega arith) r in
    let next : Reaches format bytes chosen (p + 1) (format.size (x ∷ xs) - 1) =
    rw size at (next_begun format bytes chosen p here (omega arith) r) in
    rw (here, f) (ap (λ rest. take (format.size (x ∷ xs)) (x ∷ xs) ∷ rest)
    (go (format.size (x ∷ xs) - 1) (behind bytes p x xs e) next))
agree_at format bytes chosen set x xs p go false f e r =
    let size : size_at format bytes p ≡ format.size (x ∷ xs) = ap format.size (sym e) in
    let none : format.size (x ∷ xs) ≤ 0 = ltb-false _ _ f in
    let closed = none_is_passed format bytes chosen set p (omega arith) in
    rw (closed, f) (go 0 (behind bytes p x xs e) (next_outside format bytes chosen p closed r))

pub chosen_messages : (format : Format) → (bytes : List ℕ) (chosen : ℕ → Bool)
    → AreChosen format bytes chosen → (rest : List ℕ) (p k : ℕ) → Agree format bytes chosen rest p k
chosen_messages format bytes chosen set [] p k = λ e r. refl
chosen_messages format bytes chosen set (x ∷ xs) p zero =
    agree_at format bytes chosen set x xs p
    (chosen_messages format bytes chosen set xs (p + 1)) _ refl
chosen_messages format bytes chosen set (x ∷ xs) p (suc k) =
    agree_inside format bytes chosen set x xs p k
    (chosen_messages format bytes chosen set xs (p + 1) k)
