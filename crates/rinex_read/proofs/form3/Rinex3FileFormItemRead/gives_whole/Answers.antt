use Rattle.rinex_read.proofs.Kept3Lemmas.{gives_whole3}
use Rattle.rinex_read.proofs.form3.Rinex3FileFormItemRead.gives_whole.Goals as goal

pub returns : goal.returns
returns c = gives_whole3
