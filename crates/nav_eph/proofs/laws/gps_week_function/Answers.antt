use Rattle.nav_eph.proofs.WeekFunctions.{gps_week-meant, gps_week-only}
use Rattle.nav_eph.proofs.laws.gps_week_function.Goals as goal

pub returns-clause-meant : goal.returns-clause-meant
returns-clause-meant c = gps_week-meant

pub returns-clause-only : goal.returns-clause-only
returns-clause-only c = gps_week-only
