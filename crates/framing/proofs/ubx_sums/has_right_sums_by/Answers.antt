use Rattle.std.proofs.Common.{arith}
use Rattle.framing.proofs.UbxSumSteps.{right_by}
use Rattle.framing.proofs.ubx_sums.has_right_sums_by.Goals as goal

pub returns : goal.returns
returns c =
    let h = right_by c.args.bytes.now c.args.sums.now c.args.runs.now c.requires.sums c.args.place
    c.args.size c.requires.shortest c.requires.inside c.requires.reached
    (omega arith) (omega arith) (omega arith) (omega arith) in
    rw (
      c.both_fit.ensures,
      c.from-before.ensures,
      c.from-run_before.ensures,
      c.from-rest.ensures,
      c.from-run_rest.ensures,
      c.from.ensures,
      c.from-2.ensures,
    ) h
