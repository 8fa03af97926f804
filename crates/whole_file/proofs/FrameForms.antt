-- The form of one frame by the index of the bytes, as the code reads it.
use Rattle.std.proofs.Common.{◌≡◌, ◌⊎◌, ℕ, ◌+◌, ◌<◌, ◌≤◌, ◌&&◌, nat_lt, nat_le, nat_eq, Bool, true, false, cond, List, [], ◌∷◌, ◌++◌, length, slice_index, take, drop, refl, sym, ap, ◌∙◌, inl, inr, arith, length-append}
use Rattle.std.proofs.lemmas.Bool.{and_cases, and_right, ltb-false, le-leb, le-ltb, lt-leb, lt-ltb, eq-eqb, ne_eqb}
use Rattle.std.proofs.lemmas.Bool.Decides.{nat_tests}
use Rattle.std.proofs.lemmas.List.{get_or-take, length-take-le, take-append-drop, take-append-le}
use Rattle.framing.specs.Frames.{announced, frame_size, is_open, is_right}

-- the size that the header of these bytes announces
abbrev announced_by : List ℕ → ℕ
announced_by xs = announced (slice_index xs 1) (slice_index xs 2)

pub open_none : (xs : List ℕ) → length xs ≡ 0 → is_open xs ≡ false
unfolding is_open
open_none [] h = refl
open_none (x ∷ xs) h = absurd (omega arith)

pub open_few : (xs : List ℕ) → 1 ≤ length xs → length xs < 3 → is_open xs ≡ nat_eq (slice_index xs 0) 211
unfolding is_open
open_few [] h l = absurd (omega arith)
open_few (x ∷ []) h l = refl
open_few (x ∷ y ∷ []) h l = refl
open_few (x ∷ y ∷ z ∷ zs) h l = absurd (omega arith)

pub open_many : (xs : List ℕ) → 3 ≤ length xs → is_open xs ≡ (nat_eq (slice_index xs 0) 211 && nat_lt (length xs) (announced_by xs))
unfolding is_open
open_many [] h = absurd (omega arith)
open_many (x ∷ []) h = absurd (omega arith)
open_many (x ∷ y ∷ []) h = absurd (omega arith)
open_many (x ∷ y ∷ z ∷ zs) h =
    let same : length zs + 3 ≡ length (x ∷ y ∷ z ∷ zs) = omega arith in
    ap (λ n. nat_eq x 211 && nat_lt n (announced y z)) same

pub size_few : (xs : List ℕ) → length xs < 3 → frame_size xs ≡ 0
unfolding frame_size
size_few [] h = refl
size_few (x ∷ []) h = refl
size_few (x ∷ y ∷ []) h = refl
size_few (x ∷ y ∷ z ∷ zs) h = absurd (omega arith)

size_many : (xs : List ℕ) → 3 ≤ length xs → frame_size xs ≡ cond (nat_eq (slice_index xs 0) 211 && nat_le (announced_by xs) (length xs) && is_right (take (announced_by xs) xs)) (announced_by xs) 0
unfolding frame_size
size_many [] h = absurd (omega arith)
size_many (x ∷ []) h = absurd (omega arith)
size_many (x ∷ y ∷ []) h = absurd (omega arith)
size_many (x ∷ y ∷ z ∷ zs) h =
    let same : length zs + 3 ≡ length (x ∷ y ∷ z ∷ zs) = omega arith in
    ap (λ n. cond (nat_eq x 211 && nat_le (announced y z) n && is_right (take (announced y z) (x ∷ y ∷ z ∷ zs))) (announced y z) 0) same

pub size_other : (xs : List ℕ) → 3 ≤ length xs → (slice_index xs 0 ≡ 211 → ⊥) → frame_size xs ≡ 0
size_other xs h other = let e : nat_eq (slice_index xs 0) 211 ≡ false = ne_eqb _ _ other in rw (size_many xs h, e) refl

pub size_long : (xs : List ℕ) → 3 ≤ length xs → slice_index xs 0 ≡ 211 → length xs < announced_by xs → frame_size xs ≡ 0
size_long xs h start long =
    let e : nat_eq (slice_index xs 0) 211 ≡ true = eq-eqb _ _ start in
    let f : nat_le (announced_by xs) (length xs) ≡ false = lt-leb _ _ long in
    rw (size_many xs h, e, f) refl

size_within : (xs : List ℕ) → 3 ≤ length xs → slice_index xs 0 ≡ 211 → announced_by xs ≤ length xs → frame_size xs ≡ cond (is_right (take (announced_by xs) xs)) (announced_by xs) 0
size_within xs h start within =
    let e : nat_eq (slice_index xs 0) 211 ≡ true = eq-eqb _ _ start in
    let f : nat_le (announced_by xs) (length xs) ≡ true = le-leb _ _ within in
    rw (size_many xs h, e, f) refl

-- ---- more bytes don't change the frame of bytes that begin no incomplete one

no_start : (x : ℕ) (ys : List ℕ) → nat_eq x 211 ≡ false → frame_size (x ∷ ys) ≡ 0
unfolding frame_size
no_start x [] h = refl
no_start x (y ∷ []) h = refl
no_start x (y ∷ z ∷ zs) h = rw h refl

pub frame-append : (x : ℕ) (xs ys : List ℕ) → is_open (x ∷ xs) ≡ false → frame_size (x ∷ (xs ++ ys)) ≡ frame_size (x ∷ xs)
unfolding is_open frame_size
frame-append x [] ys h = no_start x ys h
frame-append x (y ∷ []) ys h = no_start x (y ∷ ys) h
frame-append x (y ∷ z ∷ zs) ys h =
    elim (and_cases (nat_eq x 211) (nat_lt (length zs + 3) (announced y z)) h) [
      | inl e ↦ no_start x (y ∷ z ∷ (zs ++ ys)) e ∙ sym (no_start x (y ∷ z ∷ zs) e)
      | inr e ↦
          let ends : announced y z ≤ length zs + 3 = ltb-false _ _ e in
          let long : nat_le (announced y z) (length (zs ++ ys) + 3) ≡ true = le-leb _ _ (omega (arith, length-append zs ys)) in
          let short : nat_le (announced y z) (length zs + 3) ≡ true = le-leb _ _ ends in
          let same : take (announced y z) (x ∷ y ∷ z ∷ (zs ++ ys)) ≡ take (announced y z) (x ∷ y ∷ z ∷ zs) = take-append-le (announced y z) (x ∷ y ∷ z ∷ zs) ys (omega arith) in
          rw (long, short, same) refl
    ]

closed-append : (xs ys : List ℕ) → 0 < length xs → is_open xs ≡ false → frame_size (xs ++ ys) ≡ frame_size xs
closed-append [] ys some closed = absurd (omega arith)
closed-append (x ∷ xs) ys some closed = frame-append x xs ys closed

-- ---- a frame that the bytes hold

-- what the bytes of the announced size are
record IsHeld (xs : List ℕ) (n : ℕ) : Type 0 where
  pub some : 0 < length (take n xs)
  pub same : frame_size xs ≡ frame_size (take n xs)
  pub whole : (frame_size (take n xs) ≡ 0) ⊎ (frame_size (take n xs) ≡ length (take n xs))

held : (xs : List ℕ) (n : ℕ) → 3 ≤ length xs → slice_index xs 0 ≡ 211 → n ≡ announced_by xs → n ≤ length xs → IsHeld xs n
held xs n some start is within =
    let part = take n xs in
    let six : 6 ≤ n = omega (arith, is) in
    let size : length part ≡ n = length-take-le n xs within in
    let high : slice_index part 1 ≡ slice_index xs 1 = get_or-take n xs 1 0 (omega (arith, six)) in
    let low : slice_index part 2 ≡ slice_index xs 2 = get_or-take n xs 2 0 (omega (arith, six)) in
    let first : slice_index part 0 ≡ 211 = get_or-take n xs 0 0 (omega (arith, six)) ∙ start in
    let told : announced_by part ≡ n = ap (λ h. announced h (slice_index part 2)) high ∙ ap (announced (slice_index xs 1)) low ∙ sym is in
    let many : 3 ≤ length part = omega (arith, size, six) in
    let enough : nat_lt (length part) (announced_by part) ≡ false = le-ltb _ _ (omega (arith, told, size)) in
    let closed : is_open part ≡ false = open_many part many ∙ and_right (nat_eq (slice_index part 0) 211) _ enough in
    record {
      some = omega (arith, many);
      same = ap frame_size (sym (take-append-drop n xs)) ∙ closed-append part (drop n xs) (omega (arith, many)) closed;
      whole = by_right (is_right (take (announced_by part) part)) (size_within part many first (omega (arith, told, size))) (told ∙ sym size);
    } where
      by_right : (right : Bool) → frame_size (take n xs) ≡ cond right (announced_by (take n xs)) 0 → announced_by (take n xs) ≡ length (take n xs)
          → (frame_size (take n xs) ≡ 0) ⊎ (frame_size (take n xs) ≡ length (take n xs))
      by_right true e same = inr (e ∙ same)
      by_right false e same = inl e

-- it is whole where those bytes are one frame
pub held_whole : (xs : List ℕ) (n : ℕ) → 3 ≤ length xs → slice_index xs 0 ≡ 211 → n ≡ announced_by xs → n ≤ length xs
    → (0 < length (take n xs)) × (frame_size (take n xs) ≡ length (take n xs)) → nat_lt 0 (frame_size xs) ≡ true
held_whole xs n some start is within frame =
    let h = held xs n some start is within in
    lt-ltb _ _ (omega (arith, h.same, frame.0, frame.1))

pub held_none : (xs : List ℕ) (n : ℕ) → 3 ≤ length xs → slice_index xs 0 ≡ 211 → n ≡ announced_by xs → n ≤ length xs
    → ((0 < length (take n xs)) × (frame_size (take n xs) ≡ length (take n xs)) → ⊥) → nat_lt 0 (frame_size xs) ≡ false
held_none xs n some start is within none =
    let h = held xs n some start is within in
    elim h.whole [
      | inl e ↦ ap (nat_lt 0) (h.same ∙ e)
      | inr e ↦ absurd (none (h.some, e))
    ]

pub ruleset frame_forms = (open_none, open_few, open_many, nat_tests)
