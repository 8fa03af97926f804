-- Sums of lists, and lists with the same members, each once.
use Rattle.std.proofs.Common.{◌≡◌, ℕ, ◌+◌, List, [], ◌∷◌, ◌++◌, map, length, ◌⊎◌, inl, inr, refl, sym, ap, subst, ◌∙◌}
use Rattle.std.proofs.Common.{arith}
use Rattle.std.specs.Prelude.{sum}
use Rattle.std.proofs.lemmas.List.{map-append}
use Rattle.std.proofs.lemmas.List.Sums.{sum_by-cons, sum_by-append}
use Rattle.capture_log.proofs.Surface.{In, in_from_contains, contains_from_in, in_left, in_right, in_append, place_of}
use Rattle.job_laws.specs.Counted.{IsOnce}

pub sum_first : (x : ℕ) (xs : List ℕ) → sum (x ∷ xs) ≡ x + sum xs
sum_first x xs = sum_by-cons (λ n. n) x xs

pub sum_joined : (xs ys : List ℕ) → sum (xs ++ ys) ≡ sum xs + sum ys
sum_joined xs ys = sum_by-append (λ n. n) xs ys

pub sum_mapped : {X : Type 0} (f : X → ℕ) (xs ys : List X) → sum (map f (xs ++ ys)) ≡ sum (map f xs) + sum (map f ys)
sum_mapped f xs ys = ap sum (map-append f xs ys) ∙ sum_joined (map f xs) (map f ys)

-- ---- in the middle

sum_middle : {X : Type 0} (f : X → ℕ) (x : X) (before after : List X)
    → sum (map f (before ++ x ∷ after)) ≡ f x + sum (map f (before ++ after))
sum_middle f x before after =
    let a = sum_mapped f before (x ∷ after) in
    let b = sum_first (f x) (map f after) in
    let c = sum_mapped f before after in
    omega arith

-- an element of a list stands before an index, at it, or after it
module _ {X : Type 0} (x : X) (before after : List X) where
  middle_cases : (y : X) → In (before ++ x ∷ after) y → (x ≡ y) ⊎ In (before ++ after) y
  middle_cases y h = elim (in_append before (x ∷ after) y h) [
    | inl a ↦ inr (in_left before after y a)
    | inr (inl e) ↦ inl e
    | inr (inr b) ↦ inr (in_right before after y b)
  ]

  middle_in : (y : X) → In (before ++ after) y → In (before ++ x ∷ after) y
  middle_in y h = elim (in_append before after y h) [
    | inl a ↦ in_left before (x ∷ after) y a
    | inr b ↦ in_right before (x ∷ after) y (inr b)
  ]

-- ---- once

pub once_first : {X : Type 0} (x : X) (xs : List X) → (In xs x → ⊥) → IsOnce xs → IsOnce (x ∷ xs)
once_first x xs new once = (λ h. new (in_from_contains xs x h), once)

once_new : {X : Type 0} (x : X) (xs : List X) → IsOnce (x ∷ xs) → In xs x → ⊥
once_new x xs once h = once.0 (contains_from_in xs x h)

pub once_joined : {X : Type 0} (xs ys : List X) → IsOnce xs → IsOnce ys → ((x : X) → In xs x → In ys x → ⊥) → IsOnce (xs ++ ys)
once_joined [] ys a b apart = b
once_joined (x ∷ xs) ys a b apart =
    once_first x (xs ++ ys)
    (λ h. elim (in_append xs ys x h) [ inl own ↦ once_new x xs a own | inr other ↦ apart x (inl refl) other ])
    (once_joined xs ys a.1 b (λ y h k. apart y (inr h) k))

-- the list without one of its elements
once_middle : {X : Type 0} (x : X) (before after : List X) → IsOnce (before ++ x ∷ after) → IsOnce (before ++ after)
once_middle x [] after h = h.1
once_middle x (b ∷ before) after h =
    once_first b (before ++ after) (λ k. once_new b (before ++ x ∷ after) h (middle_in x before after b k))
    (once_middle x before after h.1)

once_apart : {X : Type 0} (x : X) (before after : List X) → IsOnce (before ++ x ∷ after) → In (before ++ after) x → ⊥
once_apart x [] after once h = once_new x after once h
once_apart x (b ∷ before) after once (inl e) =
    once_new b (before ++ x ∷ after) once (in_right before (x ∷ after) b (inl (sym e)))
once_apart x (b ∷ before) after once (inr h) = once_apart x before after once.1 h

-- ---- the same members

no_members : {X : Type 0} (ys : List X) → ((y : X) → In ys y → ⊥) → ys ≡ []
no_members [] none = refl
no_members (y ∷ ys) none = absurd (none y (inl refl))

pub same_sums : {X : Type 0} (f : X → ℕ) (xs ys : List X) → IsOnce xs → IsOnce ys
    → ((x : X) → In xs x → In ys x) → ((x : X) → In ys x → In xs x) → sum (map f xs) ≡ sum (map f ys)
same_sums f [] ys a b to back = ap (λ l. sum (map f l)) (sym (no_members ys back))
same_sums {X} f (x ∷ xs) ys a b to back =
    let at = place_of ys x (to x (inl refl)) in
    let once : IsOnce (at.0 ++ x ∷ at.1) = subst IsOnce at.2 b in
    let forth : (y : X) → In xs y → In (at.0 ++ at.1) y =
    λ y h. elim (middle_cases x at.0 at.1 y (subst (λ l. In l y) at.2 (to y (inr h)))) [
      | inl e ↦ absurd (once_new x xs a (subst (In xs) (sym e) h))
      | inr k ↦ k
    ] in
    let home : (y : X) → In (at.0 ++ at.1) y → In xs y =
    λ y h. elim (back y (subst (λ l. In l y) (sym at.2) (middle_in x at.0 at.1 y h))) [
      | inl e ↦ absurd (once_apart x at.0 at.1 once (subst (In (at.0 ++ at.1)) (sym e) h))
      | inr k ↦ k
    ] in
    sum_first (f x) (map f xs)
    ∙ ap (λ n. f x + n) (same_sums f xs (at.0 ++ at.1) a.1 (once_middle x at.0 at.1 once) forth home)
    ∙ sym (sum_middle f x at.0 at.1)
    ∙ ap (λ l. sum (map f l)) (sym at.2)

-- a length is a sum
pub length_sum : {X : Type 0} (xs : List X) → length xs ≡ sum (map (λ x. 1) xs)
length_sum [] = refl
length_sum (x ∷ xs) = let rest = length_sum xs in let e = sum_first 1 (map (λ x. 1) xs) in omega arith
