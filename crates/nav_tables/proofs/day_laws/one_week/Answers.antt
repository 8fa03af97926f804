use Rattle.nav_tables.proofs.WeekLemmas.{near_is, near_only}
use Rattle.nav_tables.proofs.day_laws.one_week.Goals as goal

pub returns-clause-meant : goal.returns-clause-meant
returns-clause-meant c = near_is

pub returns-clause-only : goal.returns-clause-only
returns-clause-only c = near_only
