use Rattle.lnav_subframe.proofs.Functions.{read_as_written}
use Rattle.lnav_subframe.proofs.laws.written_is_read.Goals as goal

pub returns : goal.returns
returns c = read_as_written
