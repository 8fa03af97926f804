use Rattle.std.proofs.Common.{◌≡◌, take}
use Rattle.framing.specs.UbxForm.{total, running}
use Rattle.framing.proofs.ubx_sums.sums_of.Given as goal

abbrev pub invariant-loop-place : goal.invariant-loop-place
invariant-loop-place l = record {
  total_is : l.total ≡ total (take l.place l.bytes);
  run_is : l.run ≡ running 0 (take l.place l.bytes);
}
