use Rattle.nav_eph.proofs.NumberLemmas.{one_tag}
use Rattle.nav_eph.proofs.eph_laws.one_tag.Goals as goal

pub returns : goal.returns
returns c = one_tag
