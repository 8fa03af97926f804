-- The order of items by rank is total, and items that compare equal are alike.
use Rattle.std.proofs.Common.{◌≡◌, ℤ, List, [], ◌∷◌, ◌++◌, length, drop, suc, refl, sym, ap, ◌∙◌, arith}
use Rattle.std.specs.Cmp.{IsTotalOrder}
use Rattle.std.specs.Cmp.Lexicographic.{slice_cmp}
use Rattle.std.specs.Ordering.{int_cmp, ordering_then}
use Rattle.std.specs.declared.cmp.Ordering.{Ordering}
use Rattle.std.specs.declared.cmp.Ordering.TheVariants.{Less, Equal, Greater}
use Rattle.std.proofs.lemmas.Cmp.{on_total, lists_total, int_cmp_total, tied_itself}
use Rattle.std.proofs.lemmas.Map.Lookups.{exact_signed}
use Rattle.nav_eph.specs.Items.{IsAlike, unsent}
use Rattle.nav_eph.specs.declared.items.NavItem.{NavItem}
use Rattle.nav_eph.specs.declared.items.NavItem.TheVariants.{Gps, Gal, Ion}
use Rattle.nav_eph.proofs.Surface.{ranks_alike}
use Rattle.nav_lists.specs.Merging.{place, by_rank}

pub order : IsTotalOrder by_rank
order = on_total place (lists_total int_cmp_total)

-- comparison of lists that follow lists of the same length
pub behind : (xs us ys vs : List ℤ) → length xs ≡ length us → slice_cmp int_cmp (xs ++ ys) (us ++ vs) ≡ ordering_then (slice_cmp int_cmp xs us) (slice_cmp int_cmp ys vs)
behind [] [] ys vs e = refl
behind [] (u ∷ us) ys vs e = let n : 0 ≡ suc (length us) = e in absurd (omega arith)
behind (x ∷ xs) [] ys vs e = let n : suc (length xs) ≡ 0 = e in absurd (omega arith)
behind (x ∷ xs) (u ∷ us) ys vs e =
    let n : suc (length xs) ≡ suc (length us) = e in
    ap (ordering_then (int_cmp x u)) (behind xs us ys vs (omega arith)) ∙ sym (then_then (int_cmp x u) (slice_cmp int_cmp xs us) (slice_cmp int_cmp ys vs))
  where
    then_then : (a b c : Ordering) → ordering_then (ordering_then a b) c ≡ ordering_then a (ordering_then b c)
    then_then Less b c = refl
    then_then Equal b c = refl
    then_then Greater b c = refl

-- lists that compare equal are equal
first_tied : (a b : Ordering) → ordering_then a b ≡ Equal → (a ≡ Equal) × (b ≡ Equal)
first_tied Less b e = absurd (no_less e)
  where
    no_less : Less ≡ Equal → ⊥
    no_less h = cc
first_tied Equal b e = (refl, e)
first_tied Greater b e = absurd (no_greater e)
  where
    no_greater : Greater ≡ Equal → ⊥
    no_greater h = cc

pub same_list : (xs ys : List ℤ) → slice_cmp int_cmp xs ys ≡ Equal → xs ≡ ys
same_list [] [] e = refl
same_list [] (y ∷ ys) e = absurd (no_less e)
  where
    no_less : Less ≡ Equal → ⊥
    no_less h = cc
same_list (x ∷ xs) [] e = absurd (no_greater e)
  where
    no_greater : Greater ≡ Equal → ⊥
    no_greater h = cc
same_list (x ∷ xs) (y ∷ ys) e =
    let t = first_tied (int_cmp x y) (slice_cmp int_cmp xs ys) e in
    let h = exact_signed x y t.0 in
    let k = same_list xs ys t.1 in
    λ i. h i ∷ k i

pub tied_alike : (a b : NavItem) → by_rank a b ≡ Equal → IsAlike a b
tied_alike a b e = (ranks_alike a b).0 (ap (drop 2) (same_list (place a) (place b) e))

-- the rank does not depend on the transmission time
place_unsent : (x : NavItem) → place (unsent x) ≡ place x
place_unsent (Gps e) = refl
place_unsent (Gal e) = refl
place_unsent (Ion e) = refl

pub alike_place : (a b : NavItem) → IsAlike a b → place a ≡ place b
alike_place a b e = sym (place_unsent a) ∙ ap place e ∙ place_unsent b

pub alike_tied : (a b : NavItem) → IsAlike a b → by_rank a b ≡ Equal
alike_tied a b e = ap (λ l. slice_cmp int_cmp l (place b)) (alike_place a b e) ∙ tied_itself order b

-- one comparison followed by another
pub joined : (xs us ys vs : List ℤ) (a b r : Ordering) → length xs ≡ length us → r ≡ ordering_then a b → a ≡ slice_cmp int_cmp xs us → b ≡ slice_cmp int_cmp ys vs → r ≡ slice_cmp int_cmp (xs ++ ys) (us ++ vs)
joined xs us ys vs a b r n e f g = e ∙ (λ i. ordering_then (f i) (g i)) ∙ sym (behind xs us ys vs n)
