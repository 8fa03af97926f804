use Rattle.nav_tables.proofs.DayLemmas.{start_date}
use Rattle.nav_tables.proofs.day_laws.days_are_dates.Goals as goal

pub returns : goal.returns
returns c = start_date
