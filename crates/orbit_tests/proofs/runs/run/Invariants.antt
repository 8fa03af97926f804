use Rattle.std.proofs.Common.{◌≤◌}
use Rattle.slot_assembly.specs.Standing.{Stood}
use Rattle.orbit_tests.proofs.runs.run.Given as goal

abbrev pub invariant-parts : goal.invariant-parts
invariant-parts g l = Stood (g.T.Assembly.stands_for l.assembly) (λ at. at.watermark ≤ l.watermark)

abbrev pub invariant-watermarks : goal.invariant-watermarks
invariant-watermarks g l = Stood (g.T.Assembly.stands_for l.assembly) (λ at. at.watermark ≤ l.watermark)
