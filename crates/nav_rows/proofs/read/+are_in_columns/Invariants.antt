use Rattle.std.proofs.Common.{length}
use Rattle.nav_rows.proofs.read.+are_in_columns.Given as goal

abbrev pub decreases-are_in_columns : goal.decreases-are_in_columns
decreases-are_in_columns l = length l.columns.now
