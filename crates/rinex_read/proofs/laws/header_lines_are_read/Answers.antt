use Rattle.rinex_read.proofs.FileLemmas.{header_stands}
use Rattle.rinex_read.proofs.laws.header_lines_are_read.Goals as goal

pub returns : goal.returns
returns c = header_stands
