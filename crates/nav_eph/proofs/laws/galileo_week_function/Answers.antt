use Rattle.nav_eph.proofs.WeekFunctions.{galileo_week-meant, galileo_week-only}
use Rattle.nav_eph.proofs.laws.galileo_week_function.Goals as goal

pub returns-clause-meant : goal.returns-clause-meant
returns-clause-meant c = galileo_week-meant

pub returns-clause-only : goal.returns-clause-only
returns-clause-only c = galileo_week-only
