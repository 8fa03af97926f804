-- Laws of a single frame. Nothing above unfolds `frame_size` and `is_open`.
use Rattle.std.proofs.Common.{◌≡◌, ℕ, ◌+◌, ◌<◌, ◌≤◌, ◌&&◌, nat_lt, nat_le, nat_eq, Bool, true, false, cond, List, [], ◌∷◌, ◌++◌, length, take, refl, sym, ◌∙◌, inl, inr, arith, length-append}
use Rattle.std.proofs.lemmas.Bool.{and_left, and_right, and_cases, and_parts, ltb-true, ltb-false, leb-true, le-ltb, le-leb, lt-leb, false≢true, cond_both}
use Rattle.std.proofs.lemmas.List.{take-append-le}
use Rattle.framing.specs.Frames.{announced, frame_size, is_open, is_right}

-- an empty list is not incomplete
pub none_open : is_open [] ≡ true → ⊥
unfolding is_open
none_open h = false≢true h

-- bytes that don't begin with D3 are not incomplete
not_started : (x : ℕ) (ys : List ℕ) → nat_eq x 211 ≡ false → is_open (x ∷ ys) ≡ false
unfolding is_open
not_started x [] h = h
not_started x (y ∷ []) h = h
not_started x (y ∷ z ∷ zs) h = and_left (nat_eq x 211) _ h

-- what ends by an offset ends by a later one
ends_later : (size m n : ℕ) → nat_lt (m + 3) size ≡ false → m ≤ n → nat_lt (n + 3) size ≡ false
ends_later size m n e h = let ends : size ≤ m + 3 = ltb-false _ _ e in le-ltb _ _ (omega arith)

-- more bytes make nothing incomplete that isn't
pub open-append : (x : ℕ) (xs ys : List ℕ) → is_open (x ∷ xs) ≡ false → is_open (x ∷ (xs ++ ys)) ≡ false
unfolding is_open
open-append x [] ys h = not_started x ys h
open-append x (y ∷ []) ys h = not_started x (y ∷ ys) h
open-append x (y ∷ z ∷ zs) ys h =
    elim (and_cases (nat_eq x 211) (nat_lt (length zs + 3) (announced y z)) h) [
      | inl e ↦ and_left (nat_eq x 211) _ e
      | inr e ↦ and_right (nat_eq x 211) _ (ends_later (announced y z) (length zs) (length (zs ++ ys)) e (omega (arith, length-append zs ys)))
    ]

-- bytes that don't begin with D3 begin no frame
no_start : (x : ℕ) (ys : List ℕ) → nat_eq x 211 ≡ false → frame_size (x ∷ ys) ≡ 0
unfolding frame_size
no_start x [] h = refl
no_start x (y ∷ []) h = refl
no_start x (y ∷ z ∷ zs) h = rw h refl

-- more bytes don't change the frame of bytes that aren't incomplete
pub size-append : (x : ℕ) (xs ys : List ℕ) → is_open (x ∷ xs) ≡ false → frame_size (x ∷ (xs ++ ys)) ≡ frame_size (x ∷ xs)
unfolding is_open frame_size
size-append x [] ys h = no_start x ys h
size-append x (y ∷ []) ys h = no_start x (y ∷ ys) h
size-append x (y ∷ z ∷ zs) ys h =
    elim (and_cases (nat_eq x 211) (nat_lt (length zs + 3) (announced y z)) h) [
      | inl e ↦ no_start x (y ∷ z ∷ (zs ++ ys)) e ∙ sym (no_start x (y ∷ z ∷ zs) e)
      | inr e ↦
          let ends : announced y z ≤ length zs + 3 = ltb-false _ _ e in
          let long : nat_le (announced y z) (length (zs ++ ys) + 3) ≡ true = le-leb _ _ (omega (arith, length-append zs ys)) in
          let short : nat_le (announced y z) (length zs + 3) ≡ true = le-leb _ _ ends in
          let same : take (announced y z) (x ∷ y ∷ z ∷ (zs ++ ys)) ≡ take (announced y z) (x ∷ y ∷ z ∷ zs) = take-append-le (announced y z) (x ∷ y ∷ z ∷ zs) ys (omega arith) in
          rw (long, short, same) refl
    ]

sized_le : (size n : ℕ) (start right : Bool) → cond (start && nat_le size (n + 3) && right) size 0 ≤ n + 3
sized_le size n start right =
    cond_both (start && nat_le size (n + 3) && right) size 0 (λ v. v ≤ n + 3)
    (λ e. let p = and_parts (start && nat_le size (n + 3)) right e in let q = and_parts start (nat_le size (n + 3)) p.0 in leb-true _ _ q.1)
    (λ _. omega arith)

-- the frame at the start of the bytes is inside them
pub size_le : (xs : List ℕ) → frame_size xs ≤ length xs
unfolding frame_size
size_le [] = omega arith
size_le (x ∷ []) = omega arith
size_le (x ∷ y ∷ []) = omega arith
size_le (x ∷ y ∷ z ∷ zs) =
    omega (arith, sized_le (announced y z) (length zs) (nat_eq x 211) (is_right (take (announced y z) (x ∷ y ∷ z ∷ zs))))

-- an incomplete frame is no whole one
pub size_of_open : (xs : List ℕ) → is_open xs ≡ true → frame_size xs ≡ 0
unfolding is_open frame_size
size_of_open [] h = refl
size_of_open (x ∷ []) h = refl
size_of_open (x ∷ y ∷ []) h = refl
size_of_open (x ∷ y ∷ z ∷ zs) h =
    let p = and_parts (nat_eq x 211) (nat_lt (length zs + 3) (announced y z)) h in
    let start : nat_eq x 211 ≡ true = p.0 in
    let ends : length zs + 3 < announced y z = ltb-true _ _ p.1 in
    let short : nat_le (announced y z) (length zs + 3) ≡ false = lt-leb _ _ ends in
    rw (start, short) refl

-- no frame is announced that is longer than the longest
announced_le : (y z : ℕ) → announced y z ≤ 1029
announced_le y z = omega arith

-- an incomplete frame is shorter than the longest one
pub open_is_short : (xs : List ℕ) → is_open xs ≡ true → length xs < 1029
unfolding is_open
open_is_short [] h = absurd (false≢true h)
open_is_short (x ∷ []) h = omega arith
open_is_short (x ∷ y ∷ []) h = omega arith
open_is_short (x ∷ y ∷ z ∷ zs) h =
    let p = and_parts (nat_eq x 211) (nat_lt (length zs + 3) (announced y z)) h in
    let ends : length zs + 3 < announced y z = ltb-true _ _ p.1 in
    omega (arith, announced_le y z)

sized_least : (b : Bool) (n : ℕ) → 0 < cond b (n + 6) 0 → 6 ≤ cond b (n + 6) 0
sized_least b n = cond_both b (n + 6) 0 (λ v. 0 < v → 6 ≤ v) (λ _ _. omega arith) (λ _ h. omega arith)

-- the shortest frame has six bytes
pub size_least : (xs : List ℕ) → 0 < frame_size xs → 6 ≤ frame_size xs
unfolding frame_size
size_least [] h = omega arith
size_least (x ∷ []) h = omega arith
size_least (x ∷ y ∷ []) h = omega arith
size_least (x ∷ y ∷ z ∷ zs) h = sized_least _ _ h

-- the longest frame has 1029 bytes
pub size_most : (xs : List ℕ) → frame_size xs ≤ 1029
unfolding frame_size
size_most [] = omega arith
size_most (x ∷ []) = omega arith
size_most (x ∷ y ∷ []) = omega arith
size_most (x ∷ y ∷ z ∷ zs) =
    cond_both _ (announced y z) 0 (λ v. v ≤ 1029) (λ _. announced_le y z) (λ _. omega arith)
