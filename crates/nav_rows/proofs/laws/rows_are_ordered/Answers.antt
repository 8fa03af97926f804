use Rattle.nav_rows.proofs.OrderLemmas.{alike, by_place_total}
use Rattle.nav_rows.proofs.laws.rows_are_ordered.Goals as goal

pub returns-clause-total : goal.returns-clause-total
returns-clause-total c = by_place_total

pub returns-clause-alike : goal.returns-clause-alike
returns-clause-alike c = alike
