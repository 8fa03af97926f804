use Rattle.nav_eph.proofs.RankLemmas.{same_item-decides, same_part-decides}
use Rattle.nav_eph.proofs.eph_laws.equality_is_decided.Goals as goal

pub returns-clause-items : goal.returns-clause-items
returns-clause-items c = same_item-decides

pub returns-clause-parts : goal.returns-clause-parts
returns-clause-parts c = same_part-decides
