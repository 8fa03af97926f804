use Rattle.nav_eph.proofs.DateFunctions.{civil_to-date, civil_to-only}
use Rattle.nav_eph.proofs.laws.date_function.Goals as goal

pub returns-clause-date : goal.returns-clause-date
returns-clause-date c = civil_to-date

pub returns-clause-only : goal.returns-clause-only
returns-clause-only c = civil_to-only
