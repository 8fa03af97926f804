use Rattle.rinex_read.proofs.Header3Lemmas.{header_stands}
use Rattle.rinex_read.proofs.laws3.headers3_are_read.Goals as goal

pub returns : goal.returns
returns c = header_stands
