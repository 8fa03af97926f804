-- The decided frames of bytes, when more bytes are appended.
use Rattle.std.proofs.Common.{◌≡◌, ℕ, zero, suc, ◌+◌, ◌-◌, ◌<◌, ◌≤◌, ◌&&◌, nat_lt, nat_le, nat_eq, Bool, true, false, cond, List, [], ◌∷◌, ◌++◌, length, take, drop, refl, sym, ap, ◌∙◌, inl, inr, arith, length-append}
use Rattle.std.proofs.lemmas.Bool.{and_left, and_right, and_cases, and_parts, ltb-true, ltb-false, leb-true, le-ltb, le-leb, cond_both}
use Rattle.std.proofs.lemmas.List.{take-append-le}
use Rattle.framing.specs.Frames.{announced, frame_size, is_open, is_right, frames_past, decided, open_past, undecided, after_first}
use Rattle.framing.specs.State.{IsWaiting, TakesFrame, TakesNone}

-- ---- the form of one frame

-- bytes that don't begin with D3 are not open
not_started : (x : ℕ) (ys : List ℕ) → nat_eq x 211 ≡ false → is_open (x ∷ ys) ≡ false
unfolding is_open
not_started x [] h = h
not_started x (y ∷ []) h = h
not_started x (y ∷ z ∷ zs) h = and_left (nat_eq x 211) _ h

-- what ends by some place ends by a later one
ends_later : (size m n : ℕ) → nat_lt (m + 3) size ≡ false → m ≤ n → nat_lt (n + 3) size ≡ false
ends_later size m n e h = let ends : size ≤ m + 3 = ltb-false _ _ e in le-ltb _ _ (omega arith)

-- appended bytes don't open what isn't open
open-append : (x : ℕ) (xs ys : List ℕ) → is_open (x ∷ xs) ≡ false → is_open (x ∷ (xs ++ ys)) ≡ false
unfolding is_open
open-append x [] ys h = not_started x ys h
open-append x (y ∷ []) ys h = not_started x (y ∷ ys) h
open-append x (y ∷ z ∷ zs) ys h =
    elim (and_cases (nat_eq x 211) (nat_lt (length zs + 3) (announced y z)) h) [
      | inl e ↦ and_left (nat_eq x 211) _ e
      | inr e ↦ and_right (nat_eq x 211) _ (ends_later (announced y z) (length zs) (length (zs ++ ys)) e (omega (arith, length-append zs ys)))
    ]

-- bytes that don't begin with D3 begin no frame
no_start : (x : ℕ) (ys : List ℕ) → nat_eq x 211 ≡ false → frame_size (x ∷ ys) ≡ 0
unfolding frame_size
no_start x [] h = refl
no_start x (y ∷ []) h = refl
no_start x (y ∷ z ∷ zs) h = rw h refl

-- appended bytes don't change the frame that begins where it isn't open
size-append : (x : ℕ) (xs ys : List ℕ) → is_open (x ∷ xs) ≡ false → frame_size (x ∷ (xs ++ ys)) ≡ frame_size (x ∷ xs)
unfolding is_open frame_size
size-append x [] ys h = no_start x ys h
size-append x (y ∷ []) ys h = no_start x (y ∷ ys) h
size-append x (y ∷ z ∷ zs) ys h =
    elim (and_cases (nat_eq x 211) (nat_lt (length zs + 3) (announced y z)) h) [
      | inl e ↦ no_start x (y ∷ z ∷ (zs ++ ys)) e ∙ sym (no_start x (y ∷ z ∷ zs) e)
      | inr e ↦
          let ends : announced y z ≤ length zs + 3 = ltb-false _ _ e in
          let long : nat_le (announced y z) (length (zs ++ ys) + 3) ≡ true = le-leb _ _ (omega (arith, length-append zs ys)) in
          let short : nat_le (announced y z) (length zs + 3) ≡ true = le-leb _ _ ends in
          let same : take (announced y z) (x ∷ y ∷ z ∷ (zs ++ ys)) ≡ take (announced y z) (x ∷ y ∷ z ∷ zs) = take-append-le (announced y z) (x ∷ y ∷ z ∷ zs) ys (omega arith) in
          rw (long, short, same) refl
    ]

sized_le : (size n : ℕ) (start right : Bool) → cond (start && nat_le size (n + 3) && right) size 0 ≤ n + 3
sized_le size n start right =
    cond_both (start && nat_le size (n + 3) && right) size 0 (λ v. v ≤ n + 3)
    (λ e. let p = and_parts (start && nat_le size (n + 3)) right e in let q = and_parts start (nat_le size (n + 3)) p.0 in leb-true _ _ q.1)
    (λ _. omega arith)

-- the frame that begins the bytes stands in them
size_le : (xs : List ℕ) → frame_size xs ≤ length xs
unfolding frame_size
size_le [] = omega arith
size_le (x ∷ []) = omega arith
size_le (x ∷ y ∷ []) = omega arith
size_le (x ∷ y ∷ z ∷ zs) =
    omega (arith, sized_le (announced y z) (length zs) (nat_eq x 211) (is_right (take (announced y z) (x ∷ y ∷ z ∷ zs))))

-- ---- bytes appended

-- the decided frames with bytes appended, past the first k bytes
abbrev Decide : List ℕ → List ℕ → ℕ → Type 0
Decide bytes more k = frames_past true (bytes ++ more) k ≡ frames_past true bytes k ++ frames_past true (open_past bytes k ++ more) 0

decide_at : (x : ℕ) (xs more : List ℕ) → ((k : ℕ) → k ≤ length xs → Decide xs more k)
    → (held : Bool) → is_open (x ∷ xs) ≡ held → (found : Bool) → nat_lt 0 (frame_size (x ∷ xs)) ≡ found → Decide (x ∷ xs) more 0
decide_at x xs more go true o found f = rw o refl
decide_at x xs more go false o true f =
    let size = size_le (x ∷ xs) in
    let same : take (frame_size (x ∷ xs)) (x ∷ (xs ++ more)) ≡ take (frame_size (x ∷ xs)) (x ∷ xs) = take-append-le (frame_size (x ∷ xs)) (x ∷ xs) more size in
    rw (size-append x xs more o, open-append x xs more o, o, f, same)
    (ap (λ rest. take (frame_size (x ∷ xs)) (x ∷ xs) ∷ rest) (go (frame_size (x ∷ xs) - 1) (omega arith)))
decide_at x xs more go false o false f = rw (size-append x xs more o, open-append x xs more o, o, f) (go 0 (omega arith))

decide_past : (bytes more : List ℕ) (k : ℕ) → k ≤ length bytes → Decide bytes more k
decide_past [] more zero h = refl
decide_past [] more (suc k) h = absurd (omega arith)
decide_past (x ∷ xs) more zero h = decide_at x xs more (decide_past xs more) _ refl _ refl
decide_past (x ∷ xs) more (suc k) h = decide_past xs more k (omega arith)

-- the frames that are decided stay, and the others are those of what is undecided with these bytes
pub decided_behind : (bytes more : List ℕ) → decided (bytes ++ more) ≡ decided bytes ++ decided (undecided bytes ++ more)
decided_behind bytes more = decide_past bytes more 0 (omega arith)

-- ---- what a frame that is taken leaves undecided

open_past-drop : (xs : List ℕ) (k : ℕ) → open_past xs k ≡ open_past (drop k xs) 0
open_past-drop [] zero = refl
open_past-drop [] (suc k) = refl
open_past-drop (x ∷ xs) zero = refl
open_past-drop (x ∷ xs) (suc k) = open_past-drop xs k

drop_first : (x : ℕ) (xs : List ℕ) (n : ℕ) → 0 < n → drop n (x ∷ xs) ≡ drop (n - 1) xs
drop_first x xs zero h = absurd (omega arith)
drop_first x xs (suc n) h = let same : suc n - 1 ≡ n = omega arith in rw same refl

-- where a frame is decided, the bytes after the first leave the same undecided
abbrev Leaves : List ℕ → Type 0
Leaves bytes = (frame : List ℕ) (them : List (List ℕ)) → decided bytes ≡ frame ∷ them → undecided bytes ≡ undecided (after_first bytes)

leaves_at : (x : ℕ) (xs : List ℕ) → Leaves xs → (held : Bool) → is_open (x ∷ xs) ≡ held → (found : Bool) → nat_lt 0 (frame_size (x ∷ xs)) ≡ found → Leaves (x ∷ xs)
leaves_at x xs go true o found f frame them is = absurd (omega (arith, ap length (rw o at is)))
leaves_at x xs go false o true f frame them is =
    let passed : drop (frame_size (x ∷ xs)) (x ∷ xs) ≡ drop (frame_size (x ∷ xs) - 1) xs = drop_first x xs (frame_size (x ∷ xs)) (ltb-true _ _ f) in
    rw (o, f, passed) (open_past-drop xs (frame_size (x ∷ xs) - 1))
leaves_at x xs go false o false f frame them is = rw (o, f) (go frame them (rw (o, f) at is))

leaves : (bytes : List ℕ) → Leaves bytes
leaves [] frame them is = absurd (omega (arith, ap length is))
leaves (x ∷ xs) frame them is = leaves_at x xs (leaves xs) _ refl _ refl frame them is

-- ---- the steps of a deframer

-- a frame that is taken is the first that is decided, whatever bytes follow
pub decided_frame : (old frame new : List ℕ) → TakesFrame true old frame new → (following : List ℕ) → decided (old ++ following) ≡ frame ∷ decided (new ++ following)
decided_frame old frame new takes following =
    let same : undecided old ≡ undecided new = leaves old frame (decided new) takes.first ∙ ap undecided (sym takes.rest) in
    decided_behind old following ∙ ap (λ (l : List (List ℕ)). l ++ decided (undecided old ++ following)) takes.first
    ∙ ap (λ (l : List ℕ). frame ∷ (decided new ++ decided (l ++ following))) same
    ∙ ap (λ (l : List (List ℕ)). frame ∷ l) (sym (decided_behind new following))

-- where none is taken, none is decided before what is kept, whatever bytes follow
pub decided_none : (old new : List ℕ) → TakesNone true old new → (following : List ℕ) → decided (old ++ following) ≡ decided (new ++ following)
decided_none old new none following =
    decided_behind old following ∙ ap (λ (l : List (List ℕ)). l ++ decided (undecided old ++ following)) none.none
    ∙ ap (λ (l : List ℕ). decided (l ++ following)) (sym none.rest)

-- no frame is decided of what waits
pub decided_waiting : (rest : List ℕ) → IsWaiting rest → decided rest ≡ []
decided_waiting [] w = refl
decided_waiting (x ∷ xs) w = elim w [ inl e ↦ cc | inr o ↦ rw o refl ]
