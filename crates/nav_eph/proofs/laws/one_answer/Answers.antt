use Rattle.nav_eph.proofs.Days.{one_moment_answer}
use Rattle.nav_eph.proofs.laws.one_answer.Goals as goal

pub returns : goal.returns
returns c = one_moment_answer
