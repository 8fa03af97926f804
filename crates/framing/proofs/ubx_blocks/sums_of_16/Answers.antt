use Rattle.std.proofs.Common.{refl, arith, w8, w32, take, drop}
use lib.Lanes.{dots}
use Rattle.std.proofs.lemmas.Simd.{chunk-fits, dot4_Fits, fold-sum, length-chunk, sum_fits}
use Rattle.std.specs.Prelude.{replicate}
use Rattle.framing.proofs.UbxBlockSums.{running_dots, small_running, small_total}
use Rattle.framing.proofs.UbxBlockSums.{total_dots, turns}
use Rattle.framing.proofs.ubx_blocks.sums_of_16.Goals as goal

pub dot4 : goal.dot4
dot4 c =
    let block = take 16 (drop c.args.at c.args.bytes.now) in
    let fit = chunk-fits w8 c.args.at 16 c.args.bytes.now c.type_inv.bytes in
    (dot4_Fits block (replicate 16 1) fit tt, tt)

pub dot4-2 : goal.dot4-2
dot4-2 c =
    let block = take 16 (drop c.args.at c.args.bytes.now) in
    let fit = chunk-fits w8 c.args.at 16 c.args.bytes.now c.type_inv.bytes in
    (dot4_Fits block (turns 16) fit tt, tt)

pub overflow_add-total : goal.overflow_add-total
overflow_add-total c =
    let block = take 16 (drop c.args.at c.args.bytes.now) in
    let fit = chunk-fits w8 c.args.at 16 c.args.bytes.now c.type_inv.bytes in
    let long = length-chunk c.args.at 16 c.args.bytes.now c.requires in
    sum_fits w32 0 _ (omega (
      arith,
      total_dots 4 16 block long refl,
      small_total 16 block fit long (omega arith),
    ))

pub overflow_add-run : goal.overflow_add-run
overflow_add-run c =
    let block = take 16 (drop c.args.at c.args.bytes.now) in
    let fit = chunk-fits w8 c.args.at 16 c.args.bytes.now c.type_inv.bytes in
    let long = length-chunk c.args.at 16 c.args.bytes.now c.requires in
    sum_fits w32 0 _ (omega (
      arith,
      running_dots 4 16 block long refl,
      small_running 16 block fit long (omega arith),
    ))

pub returns-clause-sum : goal.returns-clause-sum
returns-clause-sum c =
    let block = take 16 (drop c.args.at c.args.bytes.now) in
    let long = length-chunk c.args.at 16 c.args.bytes.now c.requires in
    omega (
      arith,
      c.from.ensures,
      fold-sum 0 (dots block (replicate 16 1)),
      total_dots 4 16 block long refl,
    )

pub returns-clause-running : goal.returns-clause-running
returns-clause-running c =
    let block = take 16 (drop c.args.at c.args.bytes.now) in
    let long = length-chunk c.args.at 16 c.args.bytes.now c.requires in
    omega (
      arith,
      c.from-2.ensures,
      fold-sum 0 (dots block (turns 16)),
      running_dots 4 16 block long refl,
    )
