-- The order of rows.
use Rattle.std.proofs.Common.{◌≡◌, subst}
use Rattle.std.specs.Prelude.{◌↔◌}
use Rattle.std.specs.Cmp.{IsTotalOrder, then_total}
use Rattle.std.specs.Cmp.Lexicographic.{slice_cmp}
use Rattle.std.specs.FinMap.{int_cmp-IsAntisymmetric, slice_cmp-IsAntisymmetric}
use Rattle.std.specs.Ordering.{int_cmp}
use Rattle.std.specs.declared.cmp.Ordering.TheVariants.{Equal}
use Rattle.std.proofs.lemmas.Cmp.{on_total, lists_total, int_cmp_total, tied_itself}
use Rattle.nav_tables.specs.Links.{nth}
use Rattle.nav_rows.specs.Order.{IsAlike, KindRow, by_place, by_rank, rank}

pub by_place_total : IsTotalOrder by_place
by_place_total =
    then_total (on_total rank (lists_total int_cmp_total))
    (then_total (on_total (λ x. nth x.row.columns x.kind.sent) int_cmp_total)
    (on_total (λ x. x.row.columns) (lists_total int_cmp_total)))

alike_equal : (x y : KindRow) → IsAlike x y → by_rank x y ≡ Equal
alike_equal x y e =
    subst (λ r. slice_cmp int_cmp (rank x) r ≡ Equal) e
    (tied_itself (lists_total int_cmp_total) (rank x))

pub alike : (x y : KindRow) → (by_rank x y ≡ Equal) ↔ IsAlike x y
alike x y = (slice_cmp-IsAntisymmetric int_cmp-IsAntisymmetric (rank x) (rank y), alike_equal x y)
