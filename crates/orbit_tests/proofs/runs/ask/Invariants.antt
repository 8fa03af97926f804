use Rattle.std.proofs.Common.{◌≤◌}
use Rattle.slot_assembly.specs.Standing.{Stood}
use Rattle.orbit_tests.proofs.runs.ask.Given as goal

abbrev pub invariant-asking : goal.invariant-asking
invariant-asking g l = Stood (g.T.Assembly.stands_for l.assembly) (λ at. at.watermark ≤ l.watermark)

abbrev pub decreases-asking : goal.decreases-asking
decreases-asking g l = g.T.Assembly.left l.assembly
