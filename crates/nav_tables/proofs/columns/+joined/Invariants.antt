use Rattle.std.proofs.Common.{length}
use Rattle.nav_tables.proofs.columns.+joined.Given as goal

abbrev pub decreases-joined : goal.decreases-joined
decreases-joined l = length l.parts.now
