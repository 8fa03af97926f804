use Rattle.std.proofs.Common.{◌*◌, ◌^◌, refl}
use Rattle.scaled_decimal.proofs.PrintLemmas.{from_high}
use Rattle.scaled_decimal.proofs.printing.place_by_steps.Goals as goal

pub returns-then-high-over-clause-at_most : goal.returns-then-high-over-clause-at_most
returns-then-high-over-clause-at_most c =
    (from_high c.args.over c.args.under (c.args.under * 10 ^ 16) c.steps_to.result refl c.steps_to.ensures.at_most c.steps_to.ensures.below).0

pub returns-then-high-over-clause-below : goal.returns-then-high-over-clause-below
returns-then-high-over-clause-below c =
    (from_high c.args.over c.args.under (c.args.under * 10 ^ 16) c.steps_to.result refl c.steps_to.ensures.at_most c.steps_to.ensures.below).1
