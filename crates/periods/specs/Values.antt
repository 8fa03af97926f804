-- Values of a set: the only one, and the first in an order.
use Rattle.std.specs.Prelude.{◌≡◌, ◌≢◌, ℕ, ◌<◌, ◌⊎◌, List, [], ◌∷◌, Option, None, Some}

-- the set has no value
abbrev pub IsEmpty : {X : Type 0} → (X → Type 0) → Type 0
IsEmpty {X} values = (v : X) → values v → ⊥

-- two of the values differ
pub record Differ {X : Type 0} (values : X → Type 0) : Type 0 where
  pub one : X
  pub other : X
  pub one_here : values one
  pub other_here : values other
  pub differ : one ≢ other

-- v is the one value there is
pub record IsOnly {X : Type 0} (values : X → Type 0) (v : X) : Type 0 where
  pub here : values v
  pub only : (w : X) → values w → w ≡ v

-- v is one of the values, and none is before it
pub record IsFirstBy {X : Type 0} (R : X → X → Type 0) (values : X → Type 0) (v : X) : Type 0 where
  pub here : values v
  pub first : (w : X) → values w → R w v → ⊥

-- the first of one set or, if that is empty, the first of another
abbrev pub IsFirstOrElse : {X : Type 0} → (X → X → Type 0) → (X → X → Type 0) → (X → Type 0) → (X → Type 0) → X → Type 0
IsFirstOrElse R S values others v = IsFirstBy R values v ⊎ (IsEmpty values × IsFirstBy S others v)

-- the first of the values, or that there is none
abbrev pub IsBest : {X : Type 0} → (X → X → Type 0) → (X → Type 0) → Option X → Type 0
IsBest R values None = IsEmpty values
IsBest R values (Some v) = IsFirstBy R values v

-- lexicographic order
abbrev pub IsBelow : List ℕ → List ℕ → Type 0
IsBelow [] [] = ⊥
IsBelow [] (y ∷ ys) = Unit {0}
IsBelow (x ∷ xs) [] = ⊥
IsBelow (x ∷ xs) (y ∷ ys) = (x < y) ⊎ ((x ≡ y) × IsBelow xs ys)

-- one value comes before another by its numbers
abbrev pub IsEarlier : {X : Type 0} → (X → List ℕ) → X → X → Type 0
IsEarlier numbers a b = IsBelow (numbers a) (numbers b)

-- one value comes after another by its numbers
abbrev pub IsLater : {X : Type 0} → (X → List ℕ) → X → X → Type 0
IsLater numbers a b = IsBelow (numbers b) (numbers a)
