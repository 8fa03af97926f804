use Rattle.lnav_subframe.proofs.Order.{first_refuses}
use Rattle.lnav_subframe.proofs.laws.refused_by_the_first_fault.Goals as goal

pub returns : goal.returns
returns c = first_refuses
