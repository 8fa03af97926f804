use Rattle.rinex_read.proofs.RecordLemmas.{item_again}
use Rattle.rinex_read.proofs.laws.records_are_read.Goals as goal

pub returns : goal.returns
returns c = item_again
