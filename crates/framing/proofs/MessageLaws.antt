-- Laws of the messages found in order.
use Rattle.std.proofs.Common.{◌≡◌, ℕ, zero, suc, ◌-◌, ◌<◌, ◌≤◌, nat_lt, Bool, true, false, List, []}
use Rattle.std.proofs.Common.{◌∷◌, ◌++◌, length, take, drop, refl, sym, ap, arith}
use Rattle.std.proofs.lemmas.List.{take-append-le}
use Rattle.std.proofs.lemmas.Bool.{ltb-true}
use Rattle.framing.specs.Messages.{Format, IsFormat, messages_past, messages, open_past}
use Rattle.framing.specs.Messages.{after_first}

-- the decided messages stay, after the first k bytes
abbrev Stay : Format → List ℕ → List ℕ → ℕ → Type 0
Stay format bytes more k = messages_past format false (bytes ++ more) k
    ≡ messages_past format true bytes k
    ++ messages_past format false (open_past format bytes k ++ more) 0

stay_at : (format : Format) → IsFormat format → (x : ℕ) (xs more : List ℕ)
    → ((k : ℕ) → k ≤ length xs → Stay format xs more k)
    → (held : Bool) → format.is_open (x ∷ xs) ≡ held → (found : Bool)
    → nat_lt 0 (format.size (x ∷ xs)) ≡ found → Stay format (x ∷ xs) more 0
stay_at format laws x xs more go true o found f = rw o refl
stay_at format laws x xs more go false o true f =
    let size = laws.size_le (x ∷ xs) in
    let same : take (format.size (x ∷ xs)) (x ∷ (xs ++ more))
    ≡ take (format.size (x ∷ xs)) (x ∷ xs) =
    take-append-le (format.size (x ∷ xs)) (x ∷ xs) more size in
    rw (laws.size_append x xs more o, o, f, same)
    (ap (λ rest. take (format.size (x ∷ xs)) (x ∷ xs) ∷ rest)
    (go (format.size (x ∷ xs) - 1) (omega arith)))
stay_at format laws x xs more go false o false f =
    rw (laws.size_append x xs more o, o, f) (go 0 (omega arith))

pub messages_stay : (format : Format) → IsFormat format → (bytes more : List ℕ) (k : ℕ)
    → k ≤ length bytes → Stay format bytes more k
messages_stay format laws [] more zero h = refl
messages_stay format laws [] more (suc k) h = absurd (omega arith)
messages_stay format laws (x ∷ xs) more zero h =
    stay_at format laws x xs more (messages_stay format laws xs more) _ refl _ refl
messages_stay format laws (x ∷ xs) more (suc k) h =
    messages_stay format laws xs more k (omega arith)

-- passing bytes leaves the messages of the rest
pub messages_past-drop : (format : Format) → (more : Bool) (xs : List ℕ) (k : ℕ)
    → messages_past format more xs k ≡ messages_past format more (drop k xs) 0
messages_past-drop format more [] zero = refl
messages_past-drop format more [] (suc k) = refl
messages_past-drop format more (x ∷ xs) zero = refl
messages_past-drop format more (x ∷ xs) (suc k) = messages_past-drop format more xs k

pub open_past-drop : (format : Format) → (xs : List ℕ) (k : ℕ)
    → open_past format xs k ≡ open_past format (drop k xs) 0
open_past-drop format [] zero = refl
open_past-drop format [] (suc k) = refl
open_past-drop format (x ∷ xs) zero = refl
open_past-drop format (x ∷ xs) (suc k) = open_past-drop format xs k

-- the first byte dropped of a list that begins with x
pub drop_first : {A : Type 0} (x : A) (xs : List A) (n : ℕ) → 0 < n
    → drop n (x ∷ xs) ≡ drop (n - 1) xs
drop_first x xs zero h = absurd (omega arith)
drop_first x xs (suc n) h = let same : suc n - 1 ≡ n = omega arith in rw same refl

abbrev pub After : Format → List ℕ → Type 0
After format bytes = messages format (after_first format bytes) ≡ drop 1 (messages format bytes)

after_at : (format : Format) → (x : ℕ) (xs : List ℕ) → After format xs → (found : Bool)
    → nat_lt 0 (format.size (x ∷ xs)) ≡ found → After format (x ∷ xs)
after_at format x xs go true f =
    let passed : drop (format.size (x ∷ xs)) (x ∷ xs) ≡ drop (format.size (x ∷ xs) - 1) xs =
    drop_first x xs (format.size (x ∷ xs)) (ltb-true _ _ f) in
    rw (f, passed) (sym (messages_past-drop format false xs (format.size (x ∷ xs) - 1)))
after_at format x xs go false f = rw f go

pub messages_after : (format : Format) → (bytes : List ℕ) → After format bytes
messages_after format [] = refl
messages_after format (x ∷ xs) = after_at format x xs (messages_after format xs) _ refl
