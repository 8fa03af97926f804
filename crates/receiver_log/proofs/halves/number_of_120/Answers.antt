use Rattle.std.proofs.Common.{◌+◌, arith}
use Rattle.nav_bits.specs.Laws.{number_at-append, number_at-lt}
use Rattle.receiver_log.proofs.halves.number_of_120.Goals as goal

pub returns : goal.returns
returns c =
    omega (
      arith,
      number_at-append c.args.bits.now c.args.at 60 60,
      number_at-lt c.args.bits.now c.args.at 60,
      number_at-lt c.args.bits.now (c.args.at + 60) 60,
      c.from.ensures,
      c.from-2.ensures,
      c.get-2.ensures,
      c.get.ensures,
    )
