use Rattle.nav_tables.proofs.DayLemmas.{nearest_some, nearest_none}
use Rattle.nav_tables.proofs.day_laws.nearest_days.Goals as goal

pub returns-clause-some : goal.returns-clause-some
returns-clause-some c = nearest_some

pub returns-clause-none : goal.returns-clause-none
returns-clause-none c = nearest_none
