use Rattle.std.proofs.Common.{ℕ, ◌-◌, ◌<◌, ◌≤◌, length}
use Rattle.std.specs.Prelude.{slice_index}
use Rattle.inav.proofs.numbers.stop_of.Given as goal

abbrev pub invariant-loop-stop : goal.invariant-loop-stop
invariant-loop-stop l = (l.start ≤ l.stop) × (l.stop ≤ length l.numbers)
    × ((k : ℕ) → l.start ≤ k → k < l.stop → slice_index l.numbers k < l.end)

abbrev pub decreases-loop-stop : goal.decreases-loop-stop
decreases-loop-stop l = length l.numbers - l.stop
