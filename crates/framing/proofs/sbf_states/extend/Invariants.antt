use Rattle.std.proofs.Common.{◌≡◌, ◌+◌, length, slice_index}
use Rattle.framing.specs.SbfStates.{AreStates}
use Rattle.framing.proofs.sbf_states.extend.Given as goal

abbrev pub invariant-loop-place : goal.invariant-loop-place
invariant-loop-place l = record {
  states : AreStates l.bytes l.states.items;
  count : length l.states.items ≡ l.place + 1;
  last : l.state ≡ slice_index l.states.items l.place;
}
