use Rattle.std.proofs.Common.{◌+◌, ◌*◌, arith}
use Rattle.framing.proofs.UbxBlockSums.{next_block}
use Rattle.framing.proofs.ubx_blocks.sums_by_64.Goals as goal

pub overflow_mul-run : goal.overflow_mul-run
overflow_mul-run c =
    let next = next_block 64 (64 * c.loop-i.i) (64 * (c.loop-i.i + 1)) c.args.bytes.now c.type_inv.bytes
    (omega arith) (omega arith) (omega arith)
    c.loop-i.total c.loop-i.run c.sums_of_64-sum.result.0 c.sums_of_64-sum.result.1
    c.loop-i.invariant.total_is c.loop-i.invariant.run_is
    c.sums_of_64-sum.ensures.sum c.sums_of_64-sum.ensures.running in
    omega (arith, next.1.0, next.1.1)

pub overflow_add-run : goal.overflow_add-run
overflow_add-run c =
    let next = next_block 64 (64 * c.loop-i.i) (64 * (c.loop-i.i + 1)) c.args.bytes.now c.type_inv.bytes
    (omega arith) (omega arith) (omega arith)
    c.loop-i.total c.loop-i.run c.sums_of_64-sum.result.0 c.sums_of_64-sum.result.1
    c.loop-i.invariant.total_is c.loop-i.invariant.run_is
    c.sums_of_64-sum.ensures.sum c.sums_of_64-sum.ensures.running in
    omega (arith, next.1.0, next.1.1)

pub overflow_add-run-in-loop-i : goal.overflow_add-run-in-loop-i
overflow_add-run-in-loop-i c =
    let next = next_block 64 (64 * c.loop-i.i) (64 * (c.loop-i.i + 1)) c.args.bytes.now c.type_inv.bytes
    (omega arith) (omega arith) (omega arith)
    c.loop-i.total c.loop-i.run c.sums_of_64-sum.result.0 c.sums_of_64-sum.result.1
    c.loop-i.invariant.total_is c.loop-i.invariant.run_is
    c.sums_of_64-sum.ensures.sum c.sums_of_64-sum.ensures.running in
    omega (arith, next.1.0, next.1.1)

pub overflow_add-total : goal.overflow_add-total
overflow_add-total c =
    let next = next_block 64 (64 * c.loop-i.i) (64 * (c.loop-i.i + 1)) c.args.bytes.now c.type_inv.bytes
    (omega arith) (omega arith) (omega arith)
    c.loop-i.total c.loop-i.run c.sums_of_64-sum.result.0 c.sums_of_64-sum.result.1
    c.loop-i.invariant.total_is c.loop-i.invariant.run_is
    c.sums_of_64-sum.ensures.sum c.sums_of_64-sum.ensures.running in
    omega (arith, next.1.0, next.1.1)

pub loop-i-preserved : goal.loop-i-preserved
loop-i-preserved c =
    let next = next_block 64 (64 * c.loop-i.i) (64 * (c.loop-i.i + 1)) c.args.bytes.now c.type_inv.bytes
    (omega arith) (omega arith) (omega arith)
    c.loop-i.total c.loop-i.run c.sums_of_64-sum.result.0 c.sums_of_64-sum.result.1
    c.loop-i.invariant.total_is c.loop-i.invariant.run_is
    c.sums_of_64-sum.ensures.sum c.sums_of_64-sum.ensures.running in
    record { total_is = next.0.0; run_is = next.0.1 }
