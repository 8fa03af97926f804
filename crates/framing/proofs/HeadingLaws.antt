-- A heading makes a format.
use Rattle.std.proofs.Common.{◌≡◌, ℕ, ◌+◌, ◌<◌, ◌≤◌, ◌&&◌, nat_lt, nat_le, Bool, true, false}
use Rattle.std.proofs.Common.{List, [], ◌∷◌, ◌++◌, length, get_or, take, drop, refl, sym, ap, ◌∙◌}
use Rattle.std.proofs.Common.{inl, inr, arith, length-append, length-drop, add-zero}
use Rattle.std.proofs.lemmas.Bool.{and_right, and_parts, and_from, ltb-true}
use Rattle.std.proofs.lemmas.Bool.{ltb-false, leb-true, lt-ltb, le-leb, lt-leb, false≢true}
use Rattle.std.proofs.lemmas.Bool.{cond_both}
use Rattle.std.proofs.lemmas.List.{take-append-le, get_or-drop}
use Rattle.framing.specs.Messages.{IsFormat}
use Rattle.framing.specs.Headings.{Heading, IsHeading, size_by, opens_by, format_of}
use Rattle.framing.specs.MessageState.{IsWaiting}
use Rattle.framing.specs.MessageMirrors.{from_first, Promises}
use Rattle.framing.proofs.MessageTakes.{first_passed}

sized_le : (h : Heading) (xs : List ℕ) → size_by h xs ≤ length xs
sized_le h xs =
    cond_both (h.begins xs && nat_le (h.wanted xs) (length xs)
    && h.is_right (take (h.wanted xs) xs)) (h.wanted xs) 0 (λ v. v ≤ length xs)
    (λ e.
    let p = and_parts (h.begins xs && nat_le (h.wanted xs) (length xs))
    (h.is_right (take (h.wanted xs) xs)) e in
    let q = and_parts (h.begins xs) (nat_le (h.wanted xs) (length xs)) p.0 in
    leb-true _ _ q.1)
    (λ _. omega arith)

-- bytes that do not agree with a message's start begin none
unbegun_size : (h : Heading) (xs : List ℕ) → h.begins xs ≡ false → size_by h xs ≡ 0
unbegun_size h xs e = rw e refl

-- the bytes begin no incomplete message: they do not agree with a start, or they are enough
closed_cases : (h : Heading) (x : ℕ) (xs ys : List ℕ) → IsHeading h → (begun : Bool)
    → h.begins (x ∷ xs) ≡ begun
    → (h.begins (x ∷ xs) && nat_lt (length (x ∷ xs)) (h.wanted (x ∷ xs))) ≡ false
    → size_by h (x ∷ (xs ++ ys)) ≡ size_by h (x ∷ xs)
closed_cases h x xs ys laws false e closed =
    unbegun_size h (x ∷ (xs ++ ys)) (laws.refused (x ∷ xs) ys e) ∙ sym (unbegun_size h (x ∷ xs) e)
closed_cases h x xs ys laws true e closed =
    let enough : nat_lt (length (x ∷ xs)) (h.wanted (x ∷ xs)) ≡ false = rw e at closed in
    let ends : h.wanted (x ∷ xs) ≤ length (x ∷ xs) = ltb-false _ _ enough in
    let same = laws.whole (x ∷ xs) ys e ends in
    let begun : h.begins (x ∷ (xs ++ ys)) ≡ true = same.0 in
    let size : h.wanted (x ∷ (xs ++ ys)) ≡ h.wanted (x ∷ xs) = same.1 in
    let short : nat_le (h.wanted (x ∷ xs)) (length (x ∷ xs)) ≡ true = le-leb _ _ ends in
    let long : nat_le (h.wanted (x ∷ xs)) (length (x ∷ (xs ++ ys))) ≡ true =
    le-leb _ _ (omega (arith, length-append xs ys)) in
    let prefix : take (h.wanted (x ∷ xs)) (x ∷ (xs ++ ys)) ≡ take (h.wanted (x ∷ xs)) (x ∷ xs) =
    take-append-le (h.wanted (x ∷ xs)) (x ∷ xs) ys ends in
    rw (begun, size, e, short, long, prefix) refl

open_size : (h : Heading) (xs : List ℕ) → opens_by h xs ≡ true → size_by h xs ≡ 0
open_size h [] e = absurd (false≢true e)
open_size h (x ∷ xs) e =
    let p = and_parts (h.begins (x ∷ xs)) (nat_lt (length (x ∷ xs)) (h.wanted (x ∷ xs))) e in
    let begun : h.begins (x ∷ xs) ≡ true = p.0 in
    let ends : length (x ∷ xs) < h.wanted (x ∷ xs) = ltb-true _ _ p.1 in
    let short : nat_le (h.wanted (x ∷ xs)) (length (x ∷ xs)) ≡ false = lt-leb _ _ ends in
    rw (begun, short) refl

pub heading_is_format : (h : Heading) → IsHeading h → IsFormat (format_of h)
heading_is_format h laws = record {
  size_le = λ xs. sized_le h xs;
  none_open = λ e. false≢true e;
  size_of_open = λ xs e. open_size h xs e;
  size_append = λ x xs ys closed. closed_cases h x xs ys laws _ refl closed;
}

-- whether the bytes begin an incomplete message, by their number
pub opens_none : (h : Heading) (xs : List ℕ) → length xs ≡ 0 → opens_by h xs ≡ false
opens_none h [] e = refl
opens_none h (x ∷ xs) e = absurd (omega arith)

pub opens_some : (h : Heading) (xs : List ℕ) → 0 < length xs
    → opens_by h xs ≡ (h.begins xs && nat_lt (length xs) (h.wanted xs))
opens_some h [] e = absurd (omega arith)
opens_some h (x ∷ xs) e = refl

-- an incomplete message is shorter than the longest one
pub waiting_is_short : (h : Heading) → IsHeading h → (rest : List ℕ) → IsWaiting (format_of h) rest
    → length rest < h.longest
waiting_is_short h laws [] w = omega (arith, laws.some [], laws.most [])
waiting_is_short h laws (x ∷ xs) w =
    elim w [
      | inl e ↦ cc
      | inr o ↦
          let p = and_parts (h.begins (x ∷ xs)) (nat_lt (length (x ∷ xs)) (h.wanted (x ∷ xs))) o in
          let ends : length (x ∷ xs) < h.wanted (x ∷ xs) = ltb-true _ _ p.1 in
          omega (arith, laws.most (x ∷ xs))
    ]

-- with fewer bytes than wanted no message is decided
pub promises_wanted : (h : Heading) → IsHeading h → (rest : List ℕ) → 0 < length rest
    → IsWaiting (format_of h) rest → Promises (format_of h) rest (h.wanted rest)
promises_wanted h laws [] some w = absurd (omega arith)
promises_wanted h laws (x ∷ xs) some w = λ following short.
    elim w [
      | inl e ↦ cc
      | inr o ↦
          let p = and_parts (h.begins (x ∷ xs)) (nat_lt (length (x ∷ xs)) (h.wanted (x ∷ xs))) o in
          let same = laws.waits (x ∷ xs) following p.0 short in
          let begun : h.begins (x ∷ (xs ++ following)) ≡ true = same.0 in
          let size : h.wanted (x ∷ (xs ++ following)) ≡ h.wanted (x ∷ xs) = same.1 in
          let ends : nat_lt (length (x ∷ (xs ++ following))) (h.wanted (x ∷ (xs ++ following)))
          ≡ true = lt-ltb _ _ (omega (arith, length-append xs following)) in
          inr (and_from (h.begins (x ∷ (xs ++ following))) _ begun ends)
    ]

other_begins : (h : Heading) → IsHeading h → (xs : List ℕ) → 0 < length xs
    → (get_or xs 0 0 ≡ h.first → ⊥) → h.begins xs ≡ false
other_begins h laws [] some other = absurd (omega arith)
other_begins h laws (x ∷ xs) some other = laws.starts x xs other

other_open : (h : Heading) → IsHeading h → (xs : List ℕ) → (get_or xs 0 0 ≡ h.first → ⊥)
    → opens_by h xs ≡ false
other_open h laws [] other = refl
other_open h laws (x ∷ xs) other = let e : h.begins (x ∷ xs) ≡ false = laws.starts x xs other in
    rw e refl

-- a byte that is not the first of a message is passed
pub other_passed : (h : Heading) → IsHeading h → (more : Bool) (b : List ℕ) (i : ℕ) → i < length b
    → (get_or b i 0 ≡ h.first → ⊥)
    → from_first (format_of h) more (drop i b) ≡ from_first (format_of h) more (drop (i + 1) b)
other_passed h laws more b i lt other =
    let at : get_or (drop i b) 0 0 ≡ get_or b i 0 =
    get_or-drop i b 0 0 ∙ ap (λ n. get_or b n 0) (add-zero i) in
    let differs : get_or (drop i b) 0 0 ≡ h.first → ⊥ = λ e. other (sym at ∙ e) in
    let some : 0 < length (drop i b) = omega (arith, length-drop i b) in
    first_passed (format_of h) more b i lt
    (and_right more _ (other_open h laws (drop i b) differs))
    (unbegun_size h (drop i b) (other_begins h laws (drop i b) some differs))
