use Rattle.nav_tables.proofs.WeekLemmas.{number_again, week_again}
use Rattle.nav_tables.proofs.day_laws.weeks_come_back.Goals as goal

pub returns-clause-week : goal.returns-clause-week
returns-clause-week c = week_again

pub returns-clause-number : goal.returns-clause-number
returns-clause-number c = number_again
