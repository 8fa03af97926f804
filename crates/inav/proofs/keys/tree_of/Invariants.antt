use Rattle.std.proofs.Common.{ℕ, ◌≤◌, ◌↔◌, length, map, take}
use Rattle.std.specs.Prelude.{Contains}
use Rattle.inav.specs.Mirrors.{key_at}
use Rattle.inav.proofs.keys.tree_of.Given as goal

abbrev pub invariant-loop-number : goal.invariant-loop-number
invariant-loop-number l =
    ((key : ℕ × ℕ) → Contains l.keys.keys key ↔ Contains (map (key_at l.stamp) (take l.number-index l.numbers)) key)
    × (length l.keys.keys ≤ l.number-index)
