use Rattle.std.proofs.Common.{arith}
use Rattle.framing.proofs.UbxBlockSums.{total_le, running_le}
use Rattle.framing.proofs.UbxSumSteps.{sum_next, running_next}
use Rattle.framing.proofs.ubx_sums.sums_of.Goals as goal

pub overflow_add-total : goal.overflow_add-total
overflow_add-total c = omega (
  arith,
  c.loop-place.invariant.total_is,
  total_le c.args.bytes.now c.type_inv.bytes c.loop-place.place (omega arith),
)

pub overflow_add-run : goal.overflow_add-run
overflow_add-run c = omega (
  arith,
  c.loop-place.invariant.total_is,
  c.loop-place.invariant.run_is,
  total_le c.args.bytes.now c.type_inv.bytes c.loop-place.place (omega arith),
  running_le c.args.bytes.now c.type_inv.bytes c.loop-place.place (omega arith) (omega arith),
)

pub loop-place-preserved : goal.loop-place-preserved
loop-place-preserved c =
    let sum = sum_next c.args.bytes.now c.loop-place.place (omega arith) in
    let run = running_next c.args.bytes.now c.loop-place.place (omega arith) in
    record {
      total_is = omega (arith, sum, c.loop-place.invariant.total_is, c.from-total.ensures);
      run_is = omega (
        arith,
        sum,
        run,
        c.loop-place.invariant.total_is,
        c.loop-place.invariant.run_is,
        c.from-total.ensures,
      );
    }
