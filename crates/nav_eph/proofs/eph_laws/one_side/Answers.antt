use Rattle.nav_eph.proofs.NumberLemmas.{one_side}
use Rattle.nav_eph.proofs.eph_laws.one_side.Goals as goal

pub returns : goal.returns
returns c = one_side
