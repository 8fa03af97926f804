use Rattle.std.proofs.Common.{◌-◌, ◌≡◌, ◌≤◌}
use Rattle.nav_bits.specs.Bits.{number_at}
use Rattle.nav_bits.proofs.bit_offsets.number_by_bytes.Given as goal

abbrev pub invariant-loop-done : goal.invariant-loop-done
invariant-loop-done l = (l.value ≡ number_at l.bytes l.at l.done) × (l.done ≤ l.width)

abbrev pub decreases-loop-done : goal.decreases-loop-done
decreases-loop-done l = l.width - l.done
