use Rattle.std.proofs.Common.{◌≡◌, ◌≤◌, ◌-◌, Bool, length, drop}
use Rattle.framing.specs.Mirrors.{from_first}
use Rattle.framing.proofs.form.next_start.Given as goal

abbrev pub invariant-loop-place : goal.invariant-loop-place
invariant-loop-place l = record {
  onward : l.fn.from ≤ l.place;
  inside : l.place ≤ length l.bytes;
  passed : (more : Bool) → from_first more (drop l.place l.bytes) ≡ from_first more (drop l.fn.from l.bytes);
}

abbrev pub decreases-loop-place : goal.decreases-loop-place
decreases-loop-place l = length l.bytes - l.place
