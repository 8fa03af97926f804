-- The allocated page parts, too old or not: one second in each slot, and no more than were taken.
use Rattle.std.proofs.Common.{◌≡◌, ℕ, zero, suc, ◌+◌, ◌%◌, ◌≤◌, ◌⊎◌, List, [], ◌∷◌, ◌++◌, Some, length, map, inl, inr, refl, sym, ap, subst, ◌∙◌, ⊎_elim, arith}
use Rattle.std.proofs.lemmas.Bool.{cases_eq}
use Rattle.std.proofs.lemmas.List.{length-append}
use Rattle.std.specs.Prelude.{Contains, Result, Ok, Err, OnErr}
use Rattle.std.specs.List.{slice_get, slice_set}
use Rattle.inav.specs.declared.second.Second.{Second}
use Rattle.inav.specs.declared.seconds.Seconds.{Seconds}
use Rattle.inav.specs.Received.{StampedHalf}
use Rattle.inav.specs.Mirrors.{half_of}
use Rattle.inav.specs.Kept.{keys_held, keys_of, AreSeconds}
use Rattle.inav.proofs.Membership.{In, contains_from_In, In-from_contains, in_map, map_in}
use Rattle.inav.proofs.Placing.{HasPut, append_in, in_left, in_right, of_other, of_same, of_to, some_is}

-- one more second without keys adds none
pub held_empty : (seconds : List Second) (empty : Second) → empty.keys ≡ [] → keys_held (seconds ++ empty ∷ []) ≡ keys_held seconds
held_empty [] empty none = ap (λ keys. keys ++ []) none
held_empty (s ∷ ss) empty none = ap (λ keys. s.keys ++ keys) (held_empty ss empty none)

-- an allocated key is in a second
held_to : (seconds : List Second) (q : ℕ × ℕ) → In (keys_held seconds) q
    → (i : ℕ) × (second : Second) × (slice_get seconds i ≡ Some second) × In second.keys q
held_to [] q h = absurd h
held_to (x ∷ xs) q h =
    ⊎_elim
    (λ (here : In x.keys q). (0, x, refl, here))
    (λ (later : In (keys_held xs) q). let is = held_to xs q later in (suc is.0, is.1, is.2, is.3))
    (append_in x.keys (keys_held xs) q h)

held_from : (seconds : List Second) (q : ℕ × ℕ) (i : ℕ) (second : Second) → slice_get seconds i ≡ Some second → In second.keys q
    → In (keys_held seconds) q
held_from [] q i second at there = absurd (cc at)
held_from (x ∷ xs) q zero second at there =
    let P : Second → Type 0 = λ s. In s.keys q in
    in_left x.keys (keys_held xs) q (subst P (sym (some_is x second at)) there)
held_from (x ∷ xs) q (suc i) second at there = in_right x.keys (keys_held xs) q (held_from xs q i second at there)

-- after a second is stored, an allocated key was allocated before or is in it
set_held : (seconds : List Second) (i : ℕ) (second : Second) (q : ℕ × ℕ) → In (keys_held (slice_set seconds i second)) q
    → In (keys_held seconds) q ⊎ In second.keys q
set_held [] i second q h = absurd h
set_held (x ∷ xs) zero second q h =
    ⊎_elim (λ (new : In second.keys q). inr new) (λ (later : In (keys_held xs) q). inl (in_right x.keys (keys_held xs) q later))
    (append_in second.keys (keys_held xs) q h)
set_held (x ∷ xs) (suc i) second q h =
    ⊎_elim
    (λ (here : In x.keys q). inl (in_left x.keys (keys_held xs) q here))
    (λ (later : In (keys_held (slice_set xs i second)) q).
    ⊎_elim (λ (was : In (keys_held xs) q). inl (in_right x.keys (keys_held xs) q was)) (λ (new : In second.keys q). inr new)
    (set_held xs i second q later))
    (append_in x.keys (keys_held (slice_set xs i second)) q h)

set_room : (seconds : List Second) (i : ℕ) (was second : Second) → slice_get seconds i ≡ Some was
    → length second.keys ≤ length was.keys + 1 → length (keys_held (slice_set seconds i second)) ≤ length (keys_held seconds) + 1
set_room [] i was second at room = absurd (cc at)
set_room (x ∷ xs) zero was second at room =
    let same : length x.keys ≡ length was.keys = ap (λ (s : Second). length s.keys) (some_is x was at) in
    omega (arith, same, room, length-append second.keys (keys_held xs), length-append x.keys (keys_held xs))
set_room (x ∷ xs) (suc i) was second at room =
    let rest = set_room xs i was second at room in
    omega (arith, rest, length-append x.keys (keys_held (slice_set xs i second)), length-append x.keys (keys_held xs))

fewer_of : (stamp : ℕ) (was : Second) → length (keys_of stamp was) ≤ length was.keys
fewer_of stamp was =
    ⊎_elim
    (λ (same : was.stamp ≡ stamp). let is = ap length (of_same stamp was same) in omega (arith, is))
    (λ (other : was.stamp ≡ stamp → ⊥). let is = ap length (of_other stamp was other) in omega (arith, is))
    (cases_eq was.stamp stamp)

-- a key is inserted into the second at a slot
pub put_held : (stamp place : ℕ) (old : List Second) (was second : Second) (key : ℕ × ℕ) → slice_get old place ≡ Some was
    → HasPut stamp was key second
    → ((q : ℕ × ℕ) → Contains (keys_held (slice_set old place second)) q → Contains (keys_held old) q ⊎ (key ≡ q))
    × (length (keys_held (slice_set old place second)) ≤ length (keys_held old) + 1)
put_held stamp place old was second key at put = (
  λ q h. ⊎_elim
      (λ (before : In (keys_held old) q). inl (contains_from_In (keys_held old) q before))
      (λ (new : In second.keys q).
      ⊎_elim
      (λ (kept : Contains (keys_of stamp was) q).
      inl (contains_from_In (keys_held old) q
      (held_from old q place was at (In-from_contains was.keys q (of_to stamp was q kept).1))))
      (λ (same : key ≡ q). inr same)
      ((put.keys q).0 (contains_from_In second.keys q new)))
      (set_held old place second q (In-from_contains (keys_held (slice_set old place second)) q h)),
  let room = put.room in
      let fewer = fewer_of stamp was in
      set_room old place was second at (omega (arith, room, fewer)),
)

-- ---- page parts

-- two allocated page parts whose stamps have the same slot have equal stamps
pub one_second : (seconds : Seconds) → AreSeconds seconds → (one other : StampedHalf)
    → Contains (map half_of (keys_held seconds.places.items)) one → Contains (map half_of (keys_held seconds.places.items)) other
    → one.stamp % (seconds.window + 2) ≡ other.stamp % (seconds.window + 2) → one.stamp ≡ other.stamp
one_second seconds are one other first second same =
    let keys = keys_held seconds.places.items in
    let a = map_in half_of keys one (In-from_contains (map half_of keys) one first) in
    let b = map_in half_of keys other (In-from_contains (map half_of keys) other second) in
    let p = held_to seconds.places.items a.0 a.1 in
    let q = held_to seconds.places.items b.0 b.1 in
    let its = are.placed p.0 p.1 p.2 a.0 (contains_from_In p.1.keys a.0 p.3) in
    let those = are.placed q.0 q.1 q.2 b.0 (contains_from_In q.1.keys b.0 q.3) in
    let stamp_a : one.stamp ≡ p.1.stamp = ap (λ (h : StampedHalf). h.stamp) (sym a.2) ∙ its.stamp_is in
    let stamp_b : other.stamp ≡ q.1.stamp = ap (λ (h : StampedHalf). h.stamp) (sym b.2) ∙ those.stamp_is in
    let rest : ℕ → ℕ = λ n. n % (seconds.window + 2) in
    let place : p.0 ≡ q.0 = its.place_is ∙ ap rest (sym stamp_a) ∙ same ∙ ap rest stamp_b ∙ sym those.place_is in
    let P : ℕ → Type 0 = λ i. slice_get seconds.places.items i ≡ Some p.1 in
    let is : p.1 ≡ q.1 = some_is p.1 q.1 (sym (subst P place p.2) ∙ q.2) in
    stamp_a ∙ ap (λ (s : Second). s.stamp) is ∙ sym stamp_b

-- the allocated page parts afterwards: those allocated before and the new one
pub held_after : (old new : List (ℕ × ℕ)) (key : ℕ × ℕ) (taken : StampedHalf) → half_of key ≡ taken
    → ((q : ℕ × ℕ) → Contains new q → Contains old q ⊎ (key ≡ q)) → (other : StampedHalf)
    → Contains (map half_of new) other → Contains (map half_of old) other ⊎ (taken ≡ other)
held_after old new key taken is holds other h =
    let q = map_in half_of new other (In-from_contains (map half_of new) other h) in
    let Q : StampedHalf → Type 0 = λ half. Contains (map half_of old) half ⊎ (taken ≡ half) in
    let there : Q (half_of q.0) =
    ⊎_elim
    (λ (was : Contains old q.0).
    inl (contains_from_In (map half_of old) (half_of q.0) (in_map half_of old q.0 (In-from_contains old q.0 was))))
    (λ (same : key ≡ q.0). inr (sym is ∙ ap half_of same))
    (holds q.0 (contains_from_In new q.0 q.1)) in
    subst Q q.2 there

-- there are as many keys as page parts
as_many : (keys : List (ℕ × ℕ)) → length (map half_of keys) ≡ length keys
as_many [] = refl
as_many (key ∷ keys) = ap suc (as_many keys)

pub fewer_halves : (old new : List (ℕ × ℕ)) → length new ≤ length old + 1 → length (map half_of new) ≤ length (map half_of old) + 1
fewer_halves old new fewer =
    let a = as_many new in
    let b = as_many old in
    omega (arith, fewer, a, b)

-- what holds for every result of a call
pub on_err : {A E : Type 0} (r : Result A E) (P : Type 0) → P → OnErr r P
on_err (Ok a) P h = tt
on_err (Err e) P h = h
