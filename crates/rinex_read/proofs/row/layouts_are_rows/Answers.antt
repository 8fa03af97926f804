use Rattle.rinex_read.proofs.RowsAgain.{layout_said}
use Rattle.rinex_read.proofs.row.layouts_are_rows.Goals as goal

pub returns : goal.returns
returns c = layout_said
