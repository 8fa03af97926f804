use Rattle.nav_eph.proofs.NumberLemmas.{one_health}
use Rattle.nav_eph.proofs.eph_laws.one_health_and_tag.Goals as goal

pub returns : goal.returns
returns c = one_health
