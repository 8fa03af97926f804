use Rattle.rinex_read.proofs.RowsAgain.{rows_are_read}
use Rattle.rinex_read.proofs.row.written_rows_are_read.Goals as goal

pub returns : goal.returns
returns c = rows_are_read
