use Rattle.std.proofs.Common.{◌≡◌, ◌<◌, ◌*◌, ◌/◌, ◌-◌, ◌^◌}
use Rattle.nav_bits.specs.Register.{shift}
use Rattle.nav_bits.proofs.shifts.shifted.Given as goal

abbrev pub invariant-loop-k : goal.invariant-loop-k
invariant-loop-k l = (l.sum ≡ shift (8 * l.fn.count) (l.fn.state / 2 ^ (24 - 4 * l.k))) × (l.sum < 2 ^ 24)
