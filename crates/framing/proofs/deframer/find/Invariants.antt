use Rattle.std.proofs.Common.{◌≡◌, ◌≤◌, ◌-◌, length, drop}
use Rattle.framing.specs.Mirrors.{from_first}
use Rattle.framing.proofs.deframer.find.Given as goal

abbrev pub invariant-loop-place : goal.invariant-loop-place
invariant-loop-place l =
    (l.window ≡ l.fn.window) × (l.place ≤ length l.window) × (from_first l.more (drop l.place l.fn.window) ≡ from_first l.more (drop l.start l.fn.window))

abbrev pub decreases-loop-place : goal.decreases-loop-place
decreases-loop-place l = length l.window - l.place
