use Rattle.std.proofs.Common.{Contains}
use Rattle.std.proofs.lemmas.List.Elements.{All-contains}
use Rattle.nav_eph.specs.Conditions.{IsPart}
use Rattle.nav_eph.specs.Values.{HasPartRanges}
use Rattle.periods.proofs.ExistLemmas.{all_values}
use Rattle.periods.proofs.RangeLemmas.{period_ranges}
use Rattle.periods.proofs.VerdictLemmas.{item_fits_period}
use Rattle.periods.proofs.laws.items_fit_together.Goals as goal

pub returns : goal.returns
returns c = λ r w parts closed item reference values are has h e.
    let each = all_values parts values in
    item_fits_period r w (Contains parts) closed item reference each (λ p i. All-contains (λ x. IsPart x.sat x.body) parts p are i)
    (period_ranges r w (Contains parts) closed item reference each (λ p i. All-contains HasPartRanges parts p has i) h e) h e
