-- The stored values with one more are the ranked list.
use Rattle.std.proofs.Common.{◌≡◌, Bool, true, false, cond, List, [], ◌∷◌, ◌++◌, Option, Some, None, refl, sym, ap, ◌∙◌}
use Rattle.std.specs.BTreeMap.{is_at}
use Rattle.std.specs.BTreeSet.{insert_key, replace_key}
use Rattle.std.specs.Cmp.{IsTotalOrder}
use Rattle.std.specs.List.{AllByRecursion, find}
use Rattle.std.specs.List.Sorted.{IsStrictlySortedBy}
use Rattle.std.specs.Ordering.{is_eq, is_lt, match_ordering}
use Rattle.std.specs.declared.cmp.Ordering.{Ordering}
use Rattle.std.specs.declared.cmp.Ordering.TheVariants.{Less, Equal, Greater}
use Rattle.nav_lists.specs.Ranks as ranks
use Rattle.nav_lists.proofs.RankedLemmas.{ascends, ranked_pushed}

module _ {X : Type 0} (by choice : X → X → Ordering) (order : IsTotalOrder by) (total : IsTotalOrder choice) where
  abbrev first_of : X → X → X
  first_of = ranks.first_of by choice

  abbrev with_value : List X → X → List X
  with_value = ranks.with_value by choice

  abbrev ranked_of : List X → List X
  ranked_of = ranks.ranked_of by choice

  -- ---- the stored values

  -- the stored value of its rank
  abbrev tied_in : X → List X → Option X
  tied_in x held = find (is_at (by x)) held

  some_not : {P : Type 0} (y : X) → Some y ≡ None → P
  some_not {P} y e = absurd (no e)
    where
      no : Some y ≡ None → ⊥
      no h = cc

  one_some : (y z : X) → Some y ≡ Some z → y ≡ z
  one_some y z h = cc

  -- where none has its rank, the value is inserted
  inserted : (x : X) (held : List X) → tied_in x held ≡ None → insert_key by held x ≡ with_value held x
  inserted x [] n = refl
  inserted x (y ∷ ys) n = at (inserted x ys) (by x y) n
    where
      at : (tied_in x ys ≡ None → insert_key by ys x ≡ with_value ys x) → (o : Ordering) → cond (is_eq o) (Some y) (tied_in x ys) ≡ None
          → match_ordering o (x ∷ y ∷ ys) (y ∷ ys) (y ∷ insert_key by ys x) ≡ match_ordering o (x ∷ y ∷ ys) (first_of x y ∷ ys) (y ∷ with_value ys x)
      at f Less k = refl
      at f Equal k = some_not y k
      at f Greater k = λ i. y ∷ f k i

  -- where one has its rank and comes later by choice, the value replaces it
  replaced : (x y : X) (held : List X) → tied_in x held ≡ Some y → is_lt (choice x y) ≡ true → replace_key by held x ≡ with_value held x
  replaced x y [] n s = some_not y (sym n)
  replaced x y (z ∷ zs) n s = at (replaced x y zs) (by x z) n
    where
      at : (tied_in x zs ≡ Some y → is_lt (choice x y) ≡ true → replace_key by zs x ≡ with_value zs x) → (o : Ordering) → cond (is_eq o) (Some z) (tied_in x zs) ≡ Some y
          → match_ordering o (x ∷ z ∷ zs) (x ∷ zs) (z ∷ replace_key by zs x) ≡ match_ordering o (x ∷ z ∷ zs) (first_of x z ∷ zs) (z ∷ with_value zs x)
      at f Less k = refl
      at f Equal k = ap (λ b. cond b x z ∷ zs) (sym (ap (λ w. is_lt (choice x w)) (one_some z y k) ∙ s))
      at f Greater k = λ i. z ∷ f k s i

  none_above : (x z : X) (zs : List X) → by x z ≡ Less → AllByRecursion (λ y. by z y ≡ Less) zs → tied_in x zs ≡ None
  none_above x z [] l a = refl
  none_above x z (y ∷ ys) l a =
      ap (λ o. cond (is_eq o) (Some y) (tied_in x ys)) (order.trans x z y l a.0)
      ∙ none_above x z ys l a.1

  -- where one has its rank and comes no later by choice, it stays
  stays : (x y : X) (held : List X) → IsStrictlySortedBy by held → tied_in x held ≡ Some y → is_lt (choice x y) ≡ false → with_value held x ≡ held
  unfolding IsStrictlySortedBy
  stays x y [] o n s = some_not y (sym n)
  stays x y (z ∷ zs) o n s = at (stays x y zs o.1) (none_above x z zs) (by x z) refl n
    where
      at : (tied_in x zs ≡ Some y → is_lt (choice x y) ≡ false → with_value zs x ≡ zs)
          → (by x z ≡ Less → AllByRecursion (λ w. by z w ≡ Less) zs → tied_in x zs ≡ None)
          → (r : Ordering) → by x z ≡ r → cond (is_eq r) (Some z) (tied_in x zs) ≡ Some y
          → match_ordering r (x ∷ z ∷ zs) (first_of x z ∷ zs) (z ∷ with_value zs x) ≡ z ∷ zs
      at f g Less t k = some_not y (sym k ∙ g t o.0)
      at f g Equal t k = ap (λ b. cond b x z ∷ zs) (ap (λ w. is_lt (choice x w)) (one_some z y k) ∙ s)
      at f g Greater t k = λ i. z ∷ f k s i

  -- ---- the ranked list with a value more

  pushed : (v held : List X) (x : X) → held ≡ v → IsStrictlySortedBy by held → with_value held x ≡ ranked_of (v ++ x ∷ [])
  pushed v held x f s = sym (ranked_pushed by choice order total held x (ascends by choice order total held s)) ∙ (λ i. ranked_of (f i ++ x ∷ []))

  pub add_new : (v held new : List X) (x : X) → held ≡ v → IsStrictlySortedBy by held → tied_in x held ≡ None
      → new ≡ insert_key by held x → new ≡ ranked_of (v ++ x ∷ [])
  add_new v held new x f s n i = i ∙ inserted x held n ∙ pushed v held x f s

  pub add_first : (v held new : List X) (x y : X) (o : Ordering) (b : Bool) → held ≡ v → IsStrictlySortedBy by held → tied_in x held ≡ Some y
      → o ≡ choice x y → b ≡ is_lt o → b ≡ true → new ≡ replace_key by held x → new ≡ ranked_of (v ++ x ∷ [])
  add_first v held new x y o b f s n c t u i = i ∙ replaced x y held n (ap is_lt (sym c) ∙ sym t ∙ u) ∙ pushed v held x f s

  pub add_later : (v held : List X) (x y : X) (o : Ordering) (b : Bool) → held ≡ v → IsStrictlySortedBy by held → tied_in x held ≡ Some y
      → o ≡ choice x y → b ≡ is_lt o → b ≡ false → v ≡ ranked_of (v ++ x ∷ [])
  add_later v held x y o b f s n c t u = sym f ∙ sym (stays x y held s n (ap is_lt (sym c) ∙ sym t ∙ u)) ∙ pushed v held x f s
