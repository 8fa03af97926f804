use Rattle.std.proofs.Common.{arith}
use Rattle.nav_bits.specs.Laws.{number_at-append, number_at-lt}
use Rattle.receiver_log.proofs.halves.first_114.Goals as goal

pub returns-clause-value : goal.returns-clause-value
returns-clause-value c =
    omega (
      arith,
      number_at-append c.args.bits.now 0 57 57,
      number_at-lt c.args.bits.now 0 57,
      number_at-lt c.args.bits.now 57 57,
      c.from.ensures,
      c.from-2.ensures,
      c.get-2.ensures,
      c.get.ensures,
    )

pub returns-clause-fits : goal.returns-clause-fits
returns-clause-fits c =
    omega (
      arith,
      number_at-lt c.args.bits.now 0 57,
      number_at-lt c.args.bits.now 57 57,
      c.from.ensures,
      c.from-2.ensures,
      c.get-2.ensures,
      c.get.ensures,
    )
