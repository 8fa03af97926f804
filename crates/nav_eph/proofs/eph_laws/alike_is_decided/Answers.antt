use Rattle.nav_eph.proofs.RankLemmas.{is_alike-decides, ranks_alike}
use Rattle.nav_eph.proofs.eph_laws.alike_is_decided.Goals as goal

pub returns-clause-alike : goal.returns-clause-alike
returns-clause-alike c = is_alike-decides

pub returns-clause-numbers : goal.returns-clause-numbers
returns-clause-numbers c = ranks_alike
