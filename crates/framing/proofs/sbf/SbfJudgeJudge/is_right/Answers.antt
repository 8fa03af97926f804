use Rattle.std.proofs.Common.{arith}
use Rattle.framing.proofs.SbfSizes.{whole_size, range_size}
use Rattle.framing.proofs.sbf.SbfJudgeJudge.is_right.Goals as goal

pub has_right_crc-requires : goal.has_right_crc-requires
has_right_crc-requires c =
    omega (
      arith,
      (whole_size c.args.bytes.now c.args.place c.args.size c.requires.inside
          c.requires.begins c.requires.size).0,
      range_size c.args.bytes.now c.args.place c.args.size
          c.requires.inside,
    )

pub has_right_crc_by-requires-clause-shortest : goal.has_right_crc_by-requires-clause-shortest
has_right_crc_by-requires-clause-shortest c =
    (whole_size c.args.bytes.now c.args.place c.args.size c.requires.inside c.requires.begins
    c.requires.size).0

pub has_right_crc_by-requires-clause-longest : goal.has_right_crc_by-requires-clause-longest
has_right_crc_by-requires-clause-longest c =
    (whole_size c.args.bytes.now c.args.place c.args.size c.requires.inside c.requires.begins
    c.requires.size).1

pub has_right_crc_by-requires-clause-fours : goal.has_right_crc_by-requires-clause-fours
has_right_crc_by-requires-clause-fours c =
    (whole_size c.args.bytes.now c.args.place c.args.size c.requires.inside c.requires.begins
    c.requires.size).2
