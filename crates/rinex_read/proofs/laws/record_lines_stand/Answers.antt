use Rattle.rinex_read.proofs.FileLemmas.{item_stands}
use Rattle.rinex_read.proofs.laws.record_lines_stand.Goals as goal

pub returns : goal.returns
returns c = item_stands
