use Rattle.std.proofs.Common.{◌-◌, ◌+◌, ◌/◌, ◌^◌, ◌≡◌, ◌≤◌}
use Rattle.nav_bits.specs.Bits.{number_at, SameOutside}
use Rattle.nav_bits.proofs.bit_offsets.put_by_bytes.Given as goal

abbrev pub invariant-loop-done : goal.invariant-loop-done
invariant-loop-done l = record {
  within : l.done ≤ l.width;
  number : number_at l.bytes l.at l.done ≡ l.value / 2 ^ (l.width - l.done);
  others : SameOutside l.initial.bytes l.bytes l.at (l.at + l.done);
}

abbrev pub decreases-loop-done : goal.decreases-loop-done
decreases-loop-done l = l.width - l.done
