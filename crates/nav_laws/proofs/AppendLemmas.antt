-- What is in two lists, concatenated.
use Rattle.std.proofs.Common.{◌⊎◌, inl, inr, List, [], ◌∷◌, ◌++◌}
use Rattle.periods.proofs.Surface.{In}

pub In-append_left : {X : Type 0} (xs ys : List X) (x : X) → In xs x → In (xs ++ ys) x
In-append_left [] ys x h = absurd h
In-append_left (z ∷ zs) ys x (inl e) = inl e
In-append_left (z ∷ zs) ys x (inr h) = inr (In-append_left zs ys x h)

pub In-append_right : {X : Type 0} (xs ys : List X) (x : X) → In ys x → In (xs ++ ys) x
In-append_right [] ys x h = h
In-append_right (z ∷ zs) ys x h = inr (In-append_right zs ys x h)

pub In-append_cases : {X : Type 0} (xs ys : List X) (x : X) → In (xs ++ ys) x → In xs x ⊎ In ys x
In-append_cases [] ys x h = inr h
In-append_cases (z ∷ zs) ys x (inl e) = inl (inl e)
In-append_cases (z ∷ zs) ys x (inr h) = elim (In-append_cases zs ys x h) [ inl a ↦ inl (inr a) | inr b ↦ inr b ]
