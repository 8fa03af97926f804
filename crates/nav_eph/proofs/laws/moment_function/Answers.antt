use Rattle.nav_eph.proofs.DateFunctions.{moment_to-again, moment_to-answer, moment_to-only}
use Rattle.nav_eph.proofs.laws.moment_function.Goals as goal

pub returns-clause-answer : goal.returns-clause-answer
returns-clause-answer c = moment_to-answer

pub returns-clause-only : goal.returns-clause-only
returns-clause-only c = moment_to-only

pub returns-clause-again : goal.returns-clause-again
returns-clause-again c = moment_to-again
