use Rattle.std.proofs.Common.{length}
use Rattle.nav_tables.proofs.columns.+split.Given as goal

abbrev pub decreases-split : goal.decreases-split
decreases-split l = length l.parts.now
