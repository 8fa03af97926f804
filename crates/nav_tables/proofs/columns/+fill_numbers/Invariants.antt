use Rattle.std.proofs.Common.{length}
use Rattle.nav_tables.proofs.columns.+fill_numbers.Given as goal

abbrev pub decreases-fill_numbers : goal.decreases-fill_numbers
decreases-fill_numbers l = length l.links.now
