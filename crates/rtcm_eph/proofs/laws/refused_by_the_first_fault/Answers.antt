use Rattle.rtcm_eph.proofs.Order.{first_refuses, item_first, parts_first}
use Rattle.rtcm_eph.proofs.laws.refused_by_the_first_fault.Goals as goal

pub returns-clause-content : goal.returns-clause-content
returns-clause-content c = first_refuses

pub returns-clause-parts : goal.returns-clause-parts
returns-clause-parts c = parts_first

pub returns-clause-item : goal.returns-clause-item
returns-clause-item c = item_first
