use Rattle.lnav_subframe.proofs.ParityFunctions.{good-decides}
use Rattle.lnav_subframe.proofs.word_laws.good_is_decided.Goals as goal

pub returns : goal.returns
returns c = good-decides
