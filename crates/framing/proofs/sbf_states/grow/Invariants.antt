use Rattle.std.proofs.Common.{◌≡◌, ◌<◌, ◌+◌, ◌^◌, length, slice_index}
use Rattle.framing.specs.SbfStates.{ArePowers}
use Rattle.framing.proofs.sbf_states.grow.Given as goal

abbrev pub invariant-loop-next : goal.invariant-loop-next
invariant-loop-next l = record {
  powers : ArePowers l.powers.items;
  count : length l.powers.items ≡ l._next + 1;
  power_is : l.power ≡ slice_index l.powers.items l._next;
  fits : l.power < 2 ^ 16;
}
