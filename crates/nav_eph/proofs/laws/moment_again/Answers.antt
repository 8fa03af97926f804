use Rattle.std.proofs.Common.{Ok}
use Rattle.nav_eph.proofs.Days.{one_moment_answer}
use Rattle.nav_eph.proofs.laws.moment_again.Goals as goal

pub returns : goal.returns
returns c = λ d m a of_m within g. one_moment_answer d a (Ok m) g (of_m, within)
