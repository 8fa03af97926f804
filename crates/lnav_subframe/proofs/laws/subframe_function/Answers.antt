use Rattle.lnav_subframe.proofs.Functions.{stands, stands_back}
use Rattle.lnav_subframe.proofs.laws.subframe_function.Goals as goal

pub returns : goal.returns
returns c = λ bits sat stamp part. (stands bits sat stamp part, stands_back bits sat stamp part)
