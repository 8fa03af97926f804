-- Values of equal sets of parts, and of the union of two sets.
use Rattle.std.proofs.Common.{◌⊎◌, inl, inr, List, [], ◌∷◌, sym, ◌∙◌}
use Rattle.std.specs.List.{AllByRecursion}
use Rattle.nav_eph.specs.declared.part.Part.{Part}
use Rattle.periods.proofs.EndFacts.{Same}
use Rattle.periods.specs.Values.{IsEmpty, IsOnly, Differ, IsFirstBy, IsFirstOrElse}
use Rattle.periods.specs.Parts.{Kind, Value, HasValue, AnyOf}
use Rattle.periods.proofs.Folds.{Grows}

-- a set that is the union of two others
pub record IsUnion (a b c : Part → Type 0) : Type 0 where
  pub left : (p : Part) → a p → c p
  pub right : (p : Part) → b p → c p
  pub cases : (p : Part) → c p → a p ⊎ b p

-- the values of a set are values of one that has all its parts
pub HasValue-to : (k : Kind) (a b : Part → Type 0) (v : Value k) → ((p : Part) → a p → b p) → HasValue k a v → HasValue k b v
HasValue-to k a b v to h = record { part = h.part; here = to h.part h.here; says = h.says }

-- the same set has the same values
pub same_values : (k : Kind) (a b : Part → Type 0) → Same a b → Same (HasValue k a) (HasValue k b)
same_values k a b s = record { to = λ v h. HasValue-to k a b v s.to h; from = λ v h. HasValue-to k b a v s.from h }

-- the values of the union of two sets
pub union_values : (k : Kind) (a b c : Part → Type 0) → IsUnion a b c → Grows (HasValue k a) (HasValue k c) (HasValue k b)
union_values k a b c u = record {
  keeps = λ v h. HasValue-to k a c v u.left h;
  has = λ v h. HasValue-to k b c v u.right h;
  only = λ v h. elim (u.cases h.part h.here) [
    | inl i ↦ inl (record { part = h.part; here = i; says = h.says })
    | inr i ↦ inr (record { part = h.part; here = i; says = h.says })
  ];
}

pub IsEmpty-same : {X : Type 0} (a b : X → Type 0) → Same a b → IsEmpty a → IsEmpty b
IsEmpty-same a b s h = λ v hv. h v (s.from v hv)

pub IsOnly-same : {X : Type 0} (a b : X → Type 0) (v : X) → Same a b → IsOnly a v → IsOnly b v
IsOnly-same a b v s h = record { here = s.to v h.here; only = λ w hw. h.only w (s.from w hw) }

pub only_same : (k : Kind) (a b : Part → Type 0) (v : Value k) → Same a b → IsOnly (HasValue k a) v → IsOnly (HasValue k b) v
only_same k a b v s h = IsOnly-same (HasValue k a) (HasValue k b) v (same_values k a b s) h

pub Differ-same : {X : Type 0} (a b : X → Type 0) → Same a b → Differ a → Differ b
Differ-same a b s h = record { one = h.one; other = h.other; one_here = s.to h.one h.one_here; other_here = s.to h.other h.other_here; differ = h.differ }

pub IsFirstBy-same : {X : Type 0} (R : X → X → Type 0) (a b : X → Type 0) (v : X) → Same a b → IsFirstBy R a v → IsFirstBy R b v
IsFirstBy-same R a b v s h = record { here = s.to v h.here; first = λ w hw r. h.first w (s.from w hw) r }

pub first_same : (k : Kind) (R : Value k → Value k → Type 0) (a b : Part → Type 0) (v : Value k) → Same a b → IsFirstBy R (HasValue k a) v → IsFirstBy R (HasValue k b) v
first_same k R a b v s h = IsFirstBy-same R (HasValue k a) (HasValue k b) v (same_values k a b s) h

pub IsFirstOrElse-same : {X : Type 0} (R S : X → X → Type 0) (a b c d : X → Type 0) (v : X) → Same a b → Same c d → IsFirstOrElse R S a c v → IsFirstOrElse R S b d v
IsFirstOrElse-same R S a b c d v s t h = elim h [
  | inl k ↦ inl (IsFirstBy-same R a b v s k)
  | inr k ↦ inr (IsEmpty-same a b s k.0, IsFirstBy-same S c d v t k.1)
]

-- where all values are equal, no two differ
pub only_agrees : {X : Type 0} (values : X → Type 0) (v : X) → IsOnly values v → Differ values → ⊥
only_agrees values v h d = d.differ (h.only d.one d.one_here ∙ sym (h.only d.other d.other_here))

pub only_there : {X : Type 0} (values : X → Type 0) (v : X) → IsOnly values v → IsEmpty values → ⊥
only_there values v h none = none v h.here

-- what holds of one of some kinds, where it follows of each, and where it holds of none
pub any_same : (P Q : Kind → Type 0) (ks : List Kind) → ((k : Kind) → P k → Q k) → AnyOf P ks → AnyOf Q ks
any_same P Q [] to h = h
any_same P Q (k ∷ []) to h = to k h
any_same P Q (k ∷ l ∷ ks) to (inl h) = inl (to k h)
any_same P Q (k ∷ l ∷ ks) to (inr h) = inr (any_same P Q (l ∷ ks) to h)

pub none_any : (P Q : Kind → Type 0) (ks : List Kind) → ((k : Kind) → P k → Q k → ⊥) → AllByRecursion P ks → AnyOf Q ks → ⊥
none_any P Q [] not all h = h
none_any P Q (k ∷ []) not all h = not k all.0 h
none_any P Q (k ∷ l ∷ ks) not all (inl h) = not k all.0 h
none_any P Q (k ∷ l ∷ ks) not all (inr h) = none_any P Q (l ∷ ks) not all.1 h
