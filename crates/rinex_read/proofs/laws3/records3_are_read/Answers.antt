use Rattle.rinex_read.proofs.Record3Lemmas.{all_stand}
use Rattle.rinex_read.proofs.laws3.records3_are_read.Goals as goal

pub returns : goal.returns
returns c = all_stand
