-- The first offset where a frame begins or is incomplete, and functions that look only from there on.
use Rattle.std.proofs.Common.{◌≡◌, ℕ, ◌≤◌, ◌&&◌, ◌⊎◌, nat_lt, Bool, true, false, List, [], ◌∷◌, ◌++◌, length, refl, ◌∙◌, inl, inr, arith, append-nil}
use Rattle.std.proofs.lemmas.Bool.{ltb-true, and_parts}
use Rattle.framing.specs.Frames.{frame_size, is_open, frames_past, frames, undecided, after_first}
use Rattle.framing.specs.Mirrors.{from_first}
use Rattle.framing.proofs.FormLaws.{size-append}

-- no frame begins at the first byte
record Passed (more : Bool) (x : ℕ) (xs : List ℕ) : Type 0 where
  pub closed : (more && is_open (x ∷ xs)) ≡ false
  pub none : nat_lt 0 (frame_size (x ∷ xs)) ≡ false

pass_at : {A : Type 0} (F : List ℕ → A) (more : Bool) (x : ℕ) (xs : List ℕ) → (Passed more x xs → F (x ∷ xs) ≡ F xs) → F xs ≡ F (from_first more xs)
    → (held : Bool) → (more && is_open (x ∷ xs)) ≡ held → (found : Bool) → nat_lt 0 (frame_size (x ∷ xs)) ≡ found → F (x ∷ xs) ≡ F (from_first more (x ∷ xs))
pass_at F more x xs same go true o found f = rw o refl
pass_at F more x xs same go false o true f = rw (o, f) refl
pass_at F more x xs same go false o false f = rw (o, f) (same (record { closed = o; none = f }) ∙ go)

-- a function that ignores a byte where no frame begins ignores all before the first offset
pass_prefix : {A : Type 0} (F : List ℕ → A) (more : Bool) → ((x : ℕ) (xs : List ℕ) → Passed more x xs → F (x ∷ xs) ≡ F xs)
    → (b : List ℕ) → F b ≡ F (from_first more b)
pass_prefix F more same [] = refl
pass_prefix F more same (x ∷ xs) = pass_at F more x xs (same x xs) (pass_prefix F more same xs) _ refl _ refl

shorter_at : (more : Bool) (x : ℕ) (xs : List ℕ) → length (from_first more xs) ≤ length xs
    → (held : Bool) → (more && is_open (x ∷ xs)) ≡ held → (found : Bool) → nat_lt 0 (frame_size (x ∷ xs)) ≡ found → length (from_first more (x ∷ xs)) ≤ length (x ∷ xs)
shorter_at more x xs go true o found f = rw o (omega arith)
shorter_at more x xs go false o true f = rw (o, f) (omega arith)
shorter_at more x xs go false o false f = rw (o, f) (omega arith)

pub length-from_first : (more : Bool) (b : List ℕ) → length (from_first more b) ≤ length b
length-from_first more [] = omega arith
length-from_first more (x ∷ xs) = shorter_at more x xs (length-from_first more xs) _ refl _ refl

-- nothing is left, or an incomplete frame while more bytes may come
abbrev pub IsHeld : Bool → List ℕ → Type 0
IsHeld more rest = (rest ≡ []) ⊎ ((more ≡ true) × (is_open rest ≡ true))

held_at : (more : Bool) (x : ℕ) (xs : List ℕ) → (frame_size (from_first more xs) ≡ 0 → IsHeld more (from_first more xs))
    → (held : Bool) → (more && is_open (x ∷ xs)) ≡ held → (found : Bool) → nat_lt 0 (frame_size (x ∷ xs)) ≡ found
    → frame_size (from_first more (x ∷ xs)) ≡ 0 → IsHeld more (from_first more (x ∷ xs))
held_at more x xs go true o found f = rw o (λ none. inr (and_parts more (is_open (x ∷ xs)) o))
held_at more x xs go false o true f = rw (o, f) (λ none. absurd (omega (arith, ltb-true 0 (frame_size (x ∷ xs)) f)))
held_at more x xs go false o false f = rw (o, f) go

-- where no frame begins at the first offset, what is there is held
pub first_is_held : (more : Bool) (b : List ℕ) → frame_size (from_first more b) ≡ 0 → IsHeld more (from_first more b)
first_is_held more [] none = inl refl
first_is_held more (x ∷ xs) none = held_at more x xs (first_is_held more xs) _ refl _ refl none

-- the frames with bytes appended ignore a byte where no frame begins
abbrev Follows : Bool → List ℕ → Type 0
Follows more following = more ≡ false → following ≡ []

same_size : (more : Bool) (x : ℕ) (xs following : List ℕ) → Follows more following → Passed more x xs → frame_size (x ∷ (xs ++ following)) ≡ frame_size (x ∷ xs)
same_size true x xs following last passed = size-append x xs following passed.closed
same_size false x xs following last passed =
    let nothing : following ≡ [] = last refl in rw (nothing, append-nil xs) refl

frames_passed : (more : Bool) (following : List ℕ) → Follows more following → (x : ℕ) (xs : List ℕ) → Passed more x xs → frames (x ∷ (xs ++ following)) ≡ frames (xs ++ following)
frames_passed more following last x xs passed = rw (same_size more x xs following last passed, passed.none) refl

past_passed : (more : Bool) (x : ℕ) (xs : List ℕ) → Passed more x xs → frames_past more (x ∷ xs) 0 ≡ frames_past more xs 0
past_passed more x xs passed = rw (passed.closed, passed.none) refl

after_passed : (more : Bool) (x : ℕ) (xs : List ℕ) → Passed more x xs → after_first (x ∷ xs) ≡ after_first xs
after_passed more x xs passed = rw passed.none refl

open_passed : (x : ℕ) (xs : List ℕ) → Passed true x xs → undecided (x ∷ xs) ≡ undecided xs
open_passed x xs passed = let closed : is_open (x ∷ xs) ≡ false = passed.closed in rw (closed, passed.none) refl

pub frames_from_first : (more : Bool) (following : List ℕ) → (more ≡ false → following ≡ []) → (b : List ℕ) → frames (b ++ following) ≡ frames (from_first more b ++ following)
frames_from_first more following last b = pass_prefix (λ v. frames (v ++ following)) more (frames_passed more following last) b

pub past_from_first : (more : Bool) (b : List ℕ) → frames_past more b 0 ≡ frames_past more (from_first more b) 0
past_from_first more b = pass_prefix (λ v. frames_past more v 0) more (past_passed more) b

pub after_from_first : (more : Bool) (b : List ℕ) → after_first b ≡ after_first (from_first more b)
after_from_first more b = pass_prefix after_first more (after_passed more) b

pub open_from_first : (b : List ℕ) → undecided b ≡ undecided (from_first true b)
open_from_first b = pass_prefix undecided true open_passed b
