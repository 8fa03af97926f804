use Rattle.nav_eph.proofs.Days.{one_civil}
use Rattle.nav_eph.proofs.laws.date_again.Goals as goal

pub returns : goal.returns
returns c = λ b d m g of_m. one_civil d b m of_m g.0
