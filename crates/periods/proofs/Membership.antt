-- Being in a list, by recursion over it, against `Contains`.
use Rattle.std.proofs.Common.{◌≡◌, zero, suc, ◌⊎◌, inl, inr, List, [], ◌∷◌, Contains, arith}

-- x is an element of the list
abbrev pub In : {X : Type 0} → List X → X → Type 0
In [] x = ⊥
In (y ∷ ys) x = (y ≡ x) ⊎ In ys x

pub In-from_contains : {X : Type 0} (xs : List X) (x : X) → Contains xs x → In xs x
In-from_contains [] x h = absurd (omega (arith, h.1))
In-from_contains (y ∷ ys) x (zero, l, e) = inl e
In-from_contains (y ∷ ys) x (suc k, l, e) = inr (In-from_contains ys x (k, omega arith, e))

pub contains_from_In : {X : Type 0} (xs : List X) (x : X) → In xs x → Contains xs x
contains_from_In [] x h = absurd h
contains_from_In (y ∷ ys) x (inl e) = (0, omega arith, e)
contains_from_In (y ∷ ys) x (inr h) = let r = contains_from_In ys x h in (suc r.0, omega (arith, r.1), r.2)
