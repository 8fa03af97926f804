use Rattle.std.proofs.Common.{◌≡◌, ◌≤◌, ◌-◌, ◌++◌, ℕ, List, [], false, length, drop}
use Rattle.whole_file.specs.Units.{first_unit}
use Rattle.whole_file.proofs.units.find_unit.Given as goal
use Rattle.framing.specs.UbxSums.{AreSums}
use Rattle.framing.specs.SbfStates.{AreStates}

-- no unit begins before the offset
abbrev pub invariant-loop-place : goal.invariant-loop-place
invariant-loop-place l = record {
  inside : l.place ≤ length l.bytes;
  passed : (following : List ℕ) → (l.more ≡ false → following ≡ [])
      → first_unit (drop l.fn.start l.bytes ++ following) ≡ first_unit (drop l.place l.bytes ++ following);
  sums : AreSums l.bytes l.ubx.sums.items l.ubx.runs.items;
  states : AreStates l.bytes l.sbf.states.items;
}

abbrev pub decreases-loop-place : goal.decreases-loop-place
decreases-loop-place l = length l.bytes - l.place
