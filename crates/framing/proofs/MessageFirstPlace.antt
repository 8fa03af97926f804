-- The first offset where a message or an incomplete one begins, and what depends on the bytes from there.
use Rattle.std.proofs.Common.{◌≡◌, ℕ, ◌≤◌, ◌&&◌, ◌⊎◌, nat_lt, Bool, true, false, List, [], ◌∷◌}
use Rattle.std.proofs.Common.{◌++◌, length, refl, ◌∙◌, inl, inr, arith, append-nil}
use Rattle.std.proofs.lemmas.Bool.{ltb-true, and_parts}
use Rattle.framing.specs.Messages.{Format, IsFormat, messages_past, messages, undecided}
use Rattle.framing.specs.Messages.{after_first}
use Rattle.framing.specs.MessageMirrors.{from_first}

-- nothing begins at the first byte
record Passed (format : Format) (more : Bool) (x : ℕ) (xs : List ℕ) : Type 0 where
  pub closed : (more && format.is_open (x ∷ xs)) ≡ false
  pub none : nat_lt 0 (format.size (x ∷ xs)) ≡ false

pass_at : (format : Format) → {A : Type 0} (F : List ℕ → A) (more : Bool) (x : ℕ) (xs : List ℕ)
    → (Passed format more x xs → F (x ∷ xs) ≡ F xs) → F xs ≡ F (from_first format more xs)
    → (held : Bool) → (more && format.is_open (x ∷ xs)) ≡ held → (found : Bool)
    → nat_lt 0 (format.size (x ∷ xs)) ≡ found → F (x ∷ xs) ≡ F (from_first format more (x ∷ xs))
pass_at format F more x xs same go true o found f = rw o refl
pass_at format F more x xs same go false o true f = rw (o, f) refl
pass_at format F more x xs same go false o false f =
    rw (o, f) (same (record { closed = o; none = f }) ∙ go)

-- what ignores a byte where nothing begins ignores all bytes before the first offset
pass_prefix : (format : Format) → {A : Type 0} (F : List ℕ → A) (more : Bool)
    → ((x : ℕ) (xs : List ℕ) → Passed format more x xs → F (x ∷ xs) ≡ F xs)
    → (b : List ℕ) → F b ≡ F (from_first format more b)
pass_prefix format F more same [] = refl
pass_prefix format F more same (x ∷ xs) =
    pass_at format F more x xs (same x xs) (pass_prefix format F more same xs) _ refl _ refl

shorter_at : (format : Format) → (more : Bool) (x : ℕ) (xs : List ℕ)
    → length (from_first format more xs) ≤ length xs
    → (held : Bool) → (more && format.is_open (x ∷ xs)) ≡ held → (found : Bool)
    → nat_lt 0 (format.size (x ∷ xs)) ≡ found
    → length (from_first format more (x ∷ xs)) ≤ length (x ∷ xs)
shorter_at format more x xs go true o found f = rw o (omega arith)
shorter_at format more x xs go false o true f = rw (o, f) (omega arith)
shorter_at format more x xs go false o false f = rw (o, f) (omega arith)

pub length-from_first : (format : Format) → (more : Bool) (b : List ℕ)
    → length (from_first format more b) ≤ length b
length-from_first format more [] = omega arith
length-from_first format more (x ∷ xs) =
    shorter_at format more x xs (length-from_first format more xs) _ refl _ refl

-- nothing is left, or an incomplete message is and more bytes may come
abbrev pub IsHeld : Format → Bool → List ℕ → Type 0
IsHeld format more rest = (rest ≡ []) ⊎ ((more ≡ true) × (format.is_open rest ≡ true))

held_at : (format : Format) → (more : Bool) (x : ℕ) (xs : List ℕ)
    → (format.size (from_first format more xs) ≡ 0 → IsHeld format more (from_first format more xs))
    → (held : Bool) → (more && format.is_open (x ∷ xs)) ≡ held → (found : Bool)
    → nat_lt 0 (format.size (x ∷ xs)) ≡ found
    → format.size (from_first format more (x ∷ xs)) ≡ 0
    → IsHeld format more (from_first format more (x ∷ xs))
held_at format more x xs go true o found f =
    rw o (λ none. inr (and_parts more (format.is_open (x ∷ xs)) o))
held_at format more x xs go false o true f =
    rw (o, f) (λ none. absurd (omega (arith, ltb-true 0 (format.size (x ∷ xs)) f)))
held_at format more x xs go false o false f = rw (o, f) go

-- where no message begins at the first offset, what is there is held
pub first_is_held : (format : Format) → (more : Bool) (b : List ℕ)
    → format.size (from_first format more b) ≡ 0 → IsHeld format more (from_first format more b)
first_is_held format more [] none = inl refl
first_is_held format more (x ∷ xs) none =
    held_at format more x xs (first_is_held format more xs) _ refl _ refl none

-- the messages with bytes following, none after `finish`, do not depend on a byte where nothing begins
abbrev Follows : Bool → List ℕ → Type 0
Follows more following = more ≡ false → following ≡ []

same_size : (format : Format) → IsFormat format → (more : Bool) (x : ℕ) (xs following : List ℕ)
    → Follows more following → Passed format more x xs
    → format.size (x ∷ (xs ++ following)) ≡ format.size (x ∷ xs)
same_size format laws true x xs following last passed =
    laws.size_append x xs following passed.closed
same_size format laws false x xs following last passed =
    let nothing : following ≡ [] = last refl in rw (nothing, append-nil xs) refl

messages_passed : (format : Format) → IsFormat format → (more : Bool) (following : List ℕ)
    → Follows more following → (x : ℕ) (xs : List ℕ) → Passed format more x xs
    → messages format (x ∷ (xs ++ following)) ≡ messages format (xs ++ following)
messages_passed format laws more following last x xs passed =
    rw (same_size format laws more x xs following last passed, passed.none) refl

past_passed : (format : Format) → (more : Bool) (x : ℕ) (xs : List ℕ) → Passed format more x xs
    → messages_past format more (x ∷ xs) 0 ≡ messages_past format more xs 0
past_passed format more x xs passed = rw (passed.closed, passed.none) refl

after_passed : (format : Format) → (more : Bool) (x : ℕ) (xs : List ℕ) → Passed format more x xs
    → after_first format (x ∷ xs) ≡ after_first format xs
after_passed format more x xs passed = rw passed.none refl

open_passed : (format : Format) → (x : ℕ) (xs : List ℕ) → Passed format true x xs
    → undecided format (x ∷ xs) ≡ undecided format xs
open_passed format x xs passed = let closed : format.is_open (x ∷ xs) ≡ false = passed.closed in
    rw (closed, passed.none) refl

pub messages_from_first : (format : Format) → IsFormat format → (more : Bool) (following : List ℕ)
    → (more ≡ false → following ≡ []) → (b : List ℕ)
    → messages format (b ++ following) ≡ messages format (from_first format more b ++ following)
messages_from_first format laws more following last b =
    pass_prefix format (λ v. messages format (v ++ following)) more
    (messages_passed format laws more following last) b

pub past_from_first : (format : Format) → (more : Bool) (b : List ℕ)
    → messages_past format more b 0 ≡ messages_past format more (from_first format more b) 0
past_from_first format more b = pass_prefix format (λ v. messages_past format more v 0) more
    (past_passed format more) b

pub after_from_first : (format : Format) → (more : Bool) (b : List ℕ)
    → after_first format b ≡ after_first format (from_first format more b)
after_from_first format more b = pass_prefix format (after_first format) more
    (after_passed format more) b

pub open_from_first : (format : Format) → (b : List ℕ)
    → undecided format b ≡ undecided format (from_first format true b)
open_from_first format b = pass_prefix format (undecided format) true (open_passed format) b
