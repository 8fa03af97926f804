use Rattle.nav_eph.proofs.WeekFunctions.{moment_near-nearest, moment_near-only}
use Rattle.nav_eph.proofs.laws.nearest_moment_function.Goals as goal

pub returns-clause-nearest : goal.returns-clause-nearest
returns-clause-nearest c = moment_near-nearest

pub returns-clause-only : goal.returns-clause-only
returns-clause-only c = moment_near-only
