use Rattle.lnav_subframe.proofs.Bytes.{written_is}
use Rattle.lnav_subframe.proofs.laws.subframes_are_the_function.Goals as goal

pub returns : goal.returns
returns c = written_is
