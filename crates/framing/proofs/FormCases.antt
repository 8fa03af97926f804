-- The form of one frame by the index of the bytes, as the code reads it.
use Rattle.std.proofs.Common.{◌≡◌, ℕ, ◌+◌, ◌<◌, ◌≤◌, ◌&&◌, nat_lt, nat_le, nat_eq, true, false, cond, List, [], ◌∷◌, length, slice_index, take, refl, ap, arith}
use Rattle.std.proofs.lemmas.Bool.{le-leb, lt-leb, eq-eqb, ne_eqb}
use Rattle.std.proofs.lemmas.Bool.Decides.{nat_tests}
use Rattle.framing.specs.Frames.{announced, frame_size, is_open, is_right}

-- the size that the header of these bytes announces
abbrev pub announced_by : List ℕ → ℕ
announced_by xs = announced (slice_index xs 1) (slice_index xs 2)

pub open_none : (xs : List ℕ) → length xs ≡ 0 → is_open xs ≡ false
unfolding is_open
open_none [] h = refl
open_none (x ∷ xs) h = absurd (omega arith)

pub open_few : (xs : List ℕ) → 1 ≤ length xs → length xs < 3 → is_open xs ≡ nat_eq (slice_index xs 0) 211
unfolding is_open
open_few [] h l = absurd (omega arith)
open_few (x ∷ []) h l = refl
open_few (x ∷ y ∷ []) h l = refl
open_few (x ∷ y ∷ z ∷ zs) h l = absurd (omega arith)

pub open_many : (xs : List ℕ) → 3 ≤ length xs → is_open xs ≡ (nat_eq (slice_index xs 0) 211 && nat_lt (length xs) (announced_by xs))
unfolding is_open
open_many [] h = absurd (omega arith)
open_many (x ∷ []) h = absurd (omega arith)
open_many (x ∷ y ∷ []) h = absurd (omega arith)
open_many (x ∷ y ∷ z ∷ zs) h =
    let same : length zs + 3 ≡ length (x ∷ y ∷ z ∷ zs) = omega arith in
    ap (λ n. nat_eq x 211 && nat_lt n (announced y z)) same

pub size_few : (xs : List ℕ) → length xs < 3 → frame_size xs ≡ 0
unfolding frame_size
size_few [] h = refl
size_few (x ∷ []) h = refl
size_few (x ∷ y ∷ []) h = refl
size_few (x ∷ y ∷ z ∷ zs) h = absurd (omega arith)

pub size_many : (xs : List ℕ) → 3 ≤ length xs → frame_size xs ≡ cond (nat_eq (slice_index xs 0) 211 && nat_le (announced_by xs) (length xs) && is_right (take (announced_by xs) xs)) (announced_by xs) 0
unfolding frame_size
size_many [] h = absurd (omega arith)
size_many (x ∷ []) h = absurd (omega arith)
size_many (x ∷ y ∷ []) h = absurd (omega arith)
size_many (x ∷ y ∷ z ∷ zs) h =
    let same : length zs + 3 ≡ length (x ∷ y ∷ z ∷ zs) = omega arith in
    ap (λ n. cond (nat_eq x 211 && nat_le (announced y z) n && is_right (take (announced y z) (x ∷ y ∷ z ∷ zs))) (announced y z) 0) same

-- bytes that don't begin with D3 begin no frame
pub size_other : (xs : List ℕ) → 3 ≤ length xs → (slice_index xs 0 ≡ 211 → ⊥) → frame_size xs ≡ 0
size_other xs h other = let e : nat_eq (slice_index xs 0) 211 ≡ false = ne_eqb _ _ other in rw (size_many xs h, e) refl

-- no whole frame begins where the announced one is longer than the bytes
pub size_long : (xs : List ℕ) → 3 ≤ length xs → slice_index xs 0 ≡ 211 → length xs < announced_by xs → frame_size xs ≡ 0
size_long xs h start long =
    let e : nat_eq (slice_index xs 0) 211 ≡ true = eq-eqb _ _ start in
    let f : nat_le (announced_by xs) (length xs) ≡ false = lt-leb _ _ long in
    rw (size_many xs h, e, f) refl

-- a frame that the bytes hold is whole where its checksum is right
pub size_within : (xs : List ℕ) → 3 ≤ length xs → slice_index xs 0 ≡ 211 → announced_by xs ≤ length xs → frame_size xs ≡ cond (is_right (take (announced_by xs) xs)) (announced_by xs) 0
size_within xs h start within =
    let e : nat_eq (slice_index xs 0) 211 ≡ true = eq-eqb _ _ start in
    let f : nat_le (announced_by xs) (length xs) ≡ true = le-leb _ _ within in
    rw (size_many xs h, e, f) refl

pub ruleset form_cases = (open_none, open_few, open_many, size_few, size_other, size_long, size_within, nat_tests)
