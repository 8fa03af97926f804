use Rattle.std.proofs.Common.{◌≡◌, ◌*◌, take}
use Rattle.framing.specs.UbxForm.{total, running}
use Rattle.framing.proofs.ubx_blocks.sums_by_16.Given as goal

abbrev pub invariant-loop-i : goal.invariant-loop-i
invariant-loop-i l = record {
  total_is : l.total ≡ total (take (16 * l.i) l.bytes);
  run_is : l.run ≡ running 0 (take (16 * l.i) l.bytes);
}
