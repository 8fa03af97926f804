use Rattle.rinex_write.proofs.WrittenLemmas.{text_more}
use Rattle.rinex_write.proofs.laws.texts_concatenate.Goals as goal

pub returns : goal.returns
returns c = text_more
