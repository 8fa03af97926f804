use Rattle.nav_eph.proofs.NumberLemmas.{one_gps_ionosphere}
use Rattle.nav_eph.proofs.eph_laws.one_gps_ionosphere.Goals as goal

pub returns : goal.returns
returns c = one_gps_ionosphere
