-- The stored items with one item more are the merged list.
use Rattle.std.proofs.Common.{◌≡◌, Bool, true, false, cond, List, [], ◌∷◌, ◌++◌, Option, Some, None, refl, sym, ap, ◌∙◌}
use Rattle.std.specs.BTreeMap.{is_at}
use Rattle.std.specs.BTreeSet.{insert_key, replace_key}
use Rattle.std.specs.List.{AllByRecursion, find}
use Rattle.std.specs.List.Sorted.{IsStrictlySortedBy}
use Rattle.std.specs.Ordering.{is_eq, match_ordering}
use Rattle.std.specs.declared.cmp.Ordering.{Ordering}
use Rattle.std.specs.declared.cmp.Ordering.TheVariants.{Less, Equal, Greater}
use Rattle.nav_eph.specs.Ranks.{sent_of}
use Rattle.nav_eph.specs.declared.items.NavItem.{NavItem}
use Rattle.nav_lists.specs.Merging.{by_rank, with_item, earlier_of, is_sooner, merged_of}
use Rattle.nav_lists.proofs.Orders.{order}
use Rattle.nav_lists.proofs.InsertLemmas.{ascends}
use Rattle.nav_lists.proofs.MergeLemmas.{merged_pushed}

-- the stored item that is alike
abbrev alike_in : NavItem → List NavItem → Option NavItem
alike_in x held = find (is_at (by_rank x)) held

some_not : {P : Type 0} (y : NavItem) → Some y ≡ None → P
some_not {P} y e = absurd (no e)
  where
    no : Some y ≡ None → ⊥
    no h = cc

one_some : (y z : NavItem) → Some y ≡ Some z → y ≡ z
one_some y z h = cc

-- where none is alike, the item is inserted
inserted : (x : NavItem) (held : List NavItem) → alike_in x held ≡ None → insert_key by_rank held x ≡ with_item held x
inserted x [] n = refl
inserted x (y ∷ ys) n = at (inserted x ys) (by_rank x y) n
  where
    at : (alike_in x ys ≡ None → insert_key by_rank ys x ≡ with_item ys x) → (o : Ordering) → cond (is_eq o) (Some y) (alike_in x ys) ≡ None
        → match_ordering o (x ∷ y ∷ ys) (y ∷ ys) (y ∷ insert_key by_rank ys x) ≡ match_ordering o (x ∷ y ∷ ys) (earlier_of x y ∷ ys) (y ∷ with_item ys x)
    at f Less k = refl
    at f Equal k = some_not y k
    at f Greater k = λ i. y ∷ f k i

-- where one is alike that was sent later, the item replaces it
replaced : (x y : NavItem) (held : List NavItem) → alike_in x held ≡ Some y → is_sooner (sent_of x) (sent_of y) ≡ true → replace_key by_rank held x ≡ with_item held x
replaced x y [] n s = some_not y (sym n)
replaced x y (z ∷ zs) n s = at (replaced x y zs) (by_rank x z) n
  where
    at : (alike_in x zs ≡ Some y → is_sooner (sent_of x) (sent_of y) ≡ true → replace_key by_rank zs x ≡ with_item zs x) → (o : Ordering) → cond (is_eq o) (Some z) (alike_in x zs) ≡ Some y
        → match_ordering o (x ∷ z ∷ zs) (x ∷ zs) (z ∷ replace_key by_rank zs x) ≡ match_ordering o (x ∷ z ∷ zs) (earlier_of x z ∷ zs) (z ∷ with_item zs x)
    at f Less k = refl
    at f Equal k = ap (λ b. cond b x z ∷ zs) (sym (ap (λ w. is_sooner (sent_of x) (sent_of w)) (one_some z y k) ∙ s))
    at f Greater k = λ i. z ∷ f k s i

none_above : (x z : NavItem) (zs : List NavItem) → by_rank x z ≡ Less → AllByRecursion (λ y. by_rank z y ≡ Less) zs → alike_in x zs ≡ None
none_above x z [] l a = refl
none_above x z (y ∷ ys) l a =
    ap (λ o. cond (is_eq o) (Some y) (alike_in x ys)) (order.trans x z y l a.0)
    ∙ none_above x z ys l a.1

-- where one is alike that was sent no later, it stays
stays : (x y : NavItem) (held : List NavItem) → IsStrictlySortedBy by_rank held → alike_in x held ≡ Some y → is_sooner (sent_of x) (sent_of y) ≡ false → with_item held x ≡ held
unfolding IsStrictlySortedBy
stays x y [] o n s = some_not y (sym n)
stays x y (z ∷ zs) o n s = at (stays x y zs o.1) (none_above x z zs) (by_rank x z) refl n
  where
    at : (alike_in x zs ≡ Some y → is_sooner (sent_of x) (sent_of y) ≡ false → with_item zs x ≡ zs)
        → (by_rank x z ≡ Less → AllByRecursion (λ w. by_rank z w ≡ Less) zs → alike_in x zs ≡ None)
        → (r : Ordering) → by_rank x z ≡ r → cond (is_eq r) (Some z) (alike_in x zs) ≡ Some y
        → match_ordering r (x ∷ z ∷ zs) (earlier_of x z ∷ zs) (z ∷ with_item zs x) ≡ z ∷ zs
    at f g Less t k = some_not y (sym k ∙ g t o.0)
    at f g Equal t k = ap (λ b. cond b x z ∷ zs) (ap (λ w. is_sooner (sent_of x) (sent_of w)) (one_some z y k) ∙ s)
    at f g Greater t k = λ i. z ∷ f k s i

-- ---- the merged list with an item more

merged_with : (v held : List NavItem) (x k : NavItem) → k ≡ x → held ≡ v → IsStrictlySortedBy by_rank held → with_item held k ≡ merged_of (v ++ x ∷ [])
merged_with v held x k e f s = sym (merged_pushed held k (ascends held s)) ∙ (λ i. merged_of (f i ++ e i ∷ []))

pub add_new : (v held new : List NavItem) (x k : NavItem) → k ≡ x → held ≡ v → IsStrictlySortedBy by_rank held → find (is_at (by_rank k)) held ≡ None
    → new ≡ insert_key by_rank held k → new ≡ merged_of (v ++ x ∷ [])
add_new v held new x k e f s n i = i ∙ inserted k held n ∙ merged_with v held x k e f s

pub add_sooner : (v held new : List NavItem) (x k y z : NavItem) (b : Bool) → k ≡ x → z ≡ y → held ≡ v → IsStrictlySortedBy by_rank held
    → find (is_at (by_rank k)) held ≡ Some y → b ≡ is_sooner (sent_of x) (sent_of z) → b ≡ true
    → new ≡ replace_key by_rank held k → new ≡ merged_of (v ++ x ∷ [])
add_sooner v held new x k y z b e g f s n t u i =
    i ∙ replaced k y held n ((λ j. is_sooner (sent_of (e j)) (sent_of (sym g j))) ∙ sym t ∙ u) ∙ merged_with v held x k e f s

pub add_later : (v held : List NavItem) (x k y z : NavItem) (b : Bool) → k ≡ x → z ≡ y → held ≡ v → IsStrictlySortedBy by_rank held
    → find (is_at (by_rank k)) held ≡ Some y → b ≡ is_sooner (sent_of x) (sent_of z) → b ≡ false
    → v ≡ merged_of (v ++ x ∷ [])
add_later v held x k y z b e g f s n t u =
    sym f ∙ sym (stays k y held s n ((λ j. is_sooner (sent_of (e j)) (sent_of (sym g j))) ∙ sym t ∙ u)) ∙ merged_with v held x k e f s
