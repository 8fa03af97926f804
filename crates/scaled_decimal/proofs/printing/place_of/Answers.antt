use Rattle.std.proofs.Common.{arith}
use Rattle.scaled_decimal.proofs.QuotientLemmas.{two_to_59}
use Rattle.scaled_decimal.proofs.printing.place_of.Goals as goal

pub place_by_steps-requires-clause-under : goal.place_by_steps-requires-clause-under
place_by_steps-requires-clause-under c = let least = two_to_59 c.args.bits c.requires.bits in omega arith
