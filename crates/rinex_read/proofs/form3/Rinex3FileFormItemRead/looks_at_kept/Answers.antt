use Rattle.rinex_read.proofs.Kept3Lemmas.{looks_at_kept3}
use Rattle.rinex_read.proofs.form3.Rinex3FileFormItemRead.looks_at_kept.Goals as goal

pub returns : goal.returns
returns c = looks_at_kept3
