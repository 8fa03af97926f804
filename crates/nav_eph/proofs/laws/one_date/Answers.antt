use Rattle.nav_eph.proofs.Days.{one_civil}
use Rattle.nav_eph.proofs.laws.one_date.Goals as goal

pub returns : goal.returns
returns c = one_civil
