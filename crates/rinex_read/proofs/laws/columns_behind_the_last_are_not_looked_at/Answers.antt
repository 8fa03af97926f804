use Rattle.rinex_read.proofs.AlikeLemmas.{judged_looked_at}
use Rattle.rinex_read.proofs.laws.columns_behind_the_last_are_not_looked_at.Goals as goal

pub returns : goal.returns
returns c = judged_looked_at
