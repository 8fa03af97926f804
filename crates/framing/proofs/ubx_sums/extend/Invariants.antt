use Rattle.std.proofs.Common.{◌≡◌, ◌+◌, ◌<◌, length, slice_index}
use Rattle.framing.specs.UbxSums.{AreSums}
use Rattle.framing.proofs.ubx_sums.extend.Given as goal

abbrev pub invariant-loop-place : goal.invariant-loop-place
invariant-loop-place l = record {
  sums : AreSums l.bytes l.sums.items l.runs.items;
  count : length l.sums.items ≡ l.place + 1;
  total_is : l.total ≡ slice_index l.sums.items l.place;
  run_is : l.run ≡ slice_index l.runs.items l.place;
  total_lt : l.total < 256;
  run_lt : l.run < 256;
}
