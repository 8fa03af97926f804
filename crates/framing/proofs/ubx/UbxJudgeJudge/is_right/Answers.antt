use Rattle.std.proofs.Common.{arith}
use Rattle.framing.proofs.UbxSizes.{whole_size, range_size}
use Rattle.framing.proofs.ubx.UbxJudgeJudge.is_right.Goals as goal

pub has_right_sums-requires-clause-shortest : goal.has_right_sums-requires-clause-shortest
has_right_sums-requires-clause-shortest c =
    omega (
      arith,
      (whole_size c.args.bytes.now c.args.place c.args.size c.requires.inside
          c.requires.size).0,
      range_size c.args.bytes.now c.args.place c.args.size c.requires.inside,
    )

pub overflow_sub-place : goal.overflow_sub-place
overflow_sub-place c = omega (
  arith,
  (whole_size c.args.bytes.now c.args.place c.args.size c.requires.inside c.requires.size).0,
)

pub has_right_sums_by-requires-clause-shortest : goal.has_right_sums_by-requires-clause-shortest
has_right_sums_by-requires-clause-shortest c =
    (whole_size c.args.bytes.now c.args.place c.args.size c.requires.inside c.requires.size).0

pub has_right_sums_by-requires-clause-longest : goal.has_right_sums_by-requires-clause-longest
has_right_sums_by-requires-clause-longest c =
    (whole_size c.args.bytes.now c.args.place c.args.size c.requires.inside c.requires.size).1
