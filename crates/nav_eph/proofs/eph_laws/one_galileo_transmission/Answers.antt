use Rattle.nav_eph.proofs.NumberLemmas.{one_transmission}
use Rattle.nav_eph.proofs.eph_laws.one_galileo_transmission.Goals as goal

pub returns : goal.returns
returns c = one_transmission
