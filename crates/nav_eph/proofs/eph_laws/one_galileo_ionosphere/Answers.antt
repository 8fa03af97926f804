use Rattle.nav_eph.proofs.NumberLemmas.{one_galileo_ionosphere}
use Rattle.nav_eph.proofs.eph_laws.one_galileo_ionosphere.Goals as goal

pub returns : goal.returns
returns c = one_galileo_ionosphere
