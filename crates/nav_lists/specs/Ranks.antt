-- A ranked list of values: in the order of rank, of those of one rank the first of choice.
use Rattle.std.specs.Prelude.{◌≡◌, Bool, false, cond, List, [], ◌∷◌}
use Rattle.std.specs.List.{Contains, fold}
use Rattle.std.specs.List.Sorted.{IsStrictlySortedBy}
use Rattle.std.specs.Ordering.{is_lt, match_ordering}
use Rattle.std.specs.declared.cmp.Ordering.{Ordering}
use Rattle.std.specs.declared.cmp.Ordering.TheVariants.{Equal}

module _ {X : Type 0} (by choice : X → X → Ordering) where
  -- the value is in the set, and no value of its rank comes before it by choice
  pub record IsFirst (values : X → Type 0) (x : X) : Type 0 where
    pub here : values x
    pub first : (other : X) → values other → by other x ≡ Equal → is_lt (choice other x) ≡ false

  -- the list ascends in rank, each of its values is the first of its rank, and each value of the set has the rank of
  -- one in the list
  pub record IsRankedList (values : X → Type 0) (list : List X) : Type 0 where
    pub ascending : IsStrictlySortedBy by list
    pub each : (m : X) → Contains list m → IsFirst values m
    pub every : (x : X) → values x → (m : X) × Contains list m × (by x m ≡ Equal)

  -- values that are equal in rank and choice are equal
  abbrev pub AreTold : (X → Type 0) → Type 0
  AreTold values = (x y : X) → values x → values y → by x y ≡ Equal → choice x y ≡ Equal → x ≡ y

  -- of two values of one rank the first by choice; `y` if neither is
  abbrev pub first_of : X → X → X
  first_of x y = cond (is_lt (choice x y)) x y

  -- a ranked list with one more value inserted
  abbrev pub with_value : List X → X → List X
  with_value [] x = x ∷ []
  with_value (y ∷ ys) x = match_ordering (by x y) (x ∷ y ∷ ys) (first_of x y ∷ ys) (y ∷ with_value ys x)

  -- the ranked list of the values
  unfoldable pub ranked_of : List X → List X
  ranked_of values = fold with_value [] values
