use Rattle.rinex_read.proofs.WholeLemmas.{judged_whole}
use Rattle.rinex_read.proofs.laws.items_are_whole.Goals as goal

pub returns : goal.returns
returns c = judged_whole
