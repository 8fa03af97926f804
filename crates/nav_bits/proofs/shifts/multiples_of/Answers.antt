use Rattle.nav_bits.proofs.StepLemmas.{multiple_is}
use Rattle.nav_bits.proofs.shifts.multiples_of.Goals as goal

pub returns : goal.returns
returns c n is =
    multiple_is n c.args.one c.moved_1-two.result c.moved_1-four.result c.moved_1-eight.result is c.moved_1-two.ensures.value c.moved_1-four.ensures.value
    c.moved_1-eight.ensures.value
