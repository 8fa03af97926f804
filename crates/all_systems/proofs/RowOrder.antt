-- Where what comes first in the rank of rows or items differs, it decides their order.
use Rattle.std.proofs.Common.{◌≡◌, ℤ, List, [], ◌∷◌, ◌++◌, length, suc, sym, ap, ◌∙◌, refl, arith}
use Rattle.std.specs.Cmp.Lexicographic.{slice_cmp}
use Rattle.std.specs.Ordering.{int_cmp, ordering_then}
use Rattle.std.specs.declared.cmp.Ordering.{Ordering}
use Rattle.std.specs.declared.cmp.Ordering.TheVariants.{Less, Equal, Greater}
use Rattle.nav_eph.specs.declared.items.NavItem.{NavItem}
use Rattle.nav_rows.specs.Order.{KindRow, by_rank, front_of, rank_of, settled}
use Rattle.all_systems.specs.NavOrder.{by_numbers, nav_front, nav_numbers}

then_then : (a b c : Ordering) → ordering_then (ordering_then a b) c ≡ ordering_then a (ordering_then b c)
then_then Less b c = refl
then_then Equal b c = refl
then_then Greater b c = refl

-- comparison of lists that follow lists of the same length
behind : (xs us ys vs : List ℤ) → length xs ≡ length us → slice_cmp int_cmp (xs ++ ys) (us ++ vs) ≡ ordering_then (slice_cmp int_cmp xs us) (slice_cmp int_cmp ys vs)
behind [] [] ys vs e = refl
behind [] (u ∷ us) ys vs e = let n : 0 ≡ suc (length us) = e in absurd (omega arith)
behind (x ∷ xs) [] ys vs e = let n : suc (length xs) ≡ 0 = e in absurd (omega arith)
behind (x ∷ xs) (u ∷ us) ys vs e =
    let n : suc (length xs) ≡ suc (length us) = e in
    ap (ordering_then (int_cmp x u)) (behind xs us ys vs (omega arith)) ∙ sym (then_then (int_cmp x u) (slice_cmp int_cmp xs us) (slice_cmp int_cmp ys vs))

by_front : (x y : KindRow) → by_rank x y ≡ ordering_then (slice_cmp int_cmp (front_of x.kind x.row) (front_of y.kind y.row)) (slice_cmp int_cmp (settled x.kind x.row.columns) (settled y.kind y.row.columns))
unfolding rank_of
by_front x y = behind (front_of x.kind x.row) (front_of y.kind y.row) (settled x.kind x.row.columns) (settled y.kind y.row.columns) refl

-- the order of rows whose fronts are compared first
pub fronts : (x y : KindRow) (p q : List ℤ) (o : Ordering) → p ≡ front_of x.kind x.row → q ≡ front_of y.kind y.row → o ≡ slice_cmp int_cmp p q
    → by_rank x y ≡ ordering_then o (slice_cmp int_cmp (settled x.kind x.row.columns) (settled y.kind y.row.columns))
fronts x y p q o e f g =
    by_front x y ∙ ap (λ r. ordering_then r (slice_cmp int_cmp (settled x.kind x.row.columns) (settled y.kind y.row.columns))) ((λ i. slice_cmp int_cmp (sym e i) (sym f i)) ∙ sym g)

-- the order of items whose fronts are compared first
pub nav_fronts : (x y : NavItem) (p q : List ℤ) (o : Ordering) → p ≡ nav_front x → q ≡ nav_front y → o ≡ slice_cmp int_cmp p q
    → by_numbers x y ≡ ordering_then o (slice_cmp int_cmp (nav_numbers x) (nav_numbers y))
nav_fronts x y p q o e f g =
    behind (nav_front x) (nav_front y) (nav_numbers x) (nav_numbers y) refl
    ∙ ap (λ r. ordering_then r (slice_cmp int_cmp (nav_numbers x) (nav_numbers y))) ((λ i. slice_cmp int_cmp (sym e i) (sym f i)) ∙ sym g)
