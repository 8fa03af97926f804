use Rattle.scaled_decimal.proofs.PrintLemmas.{reached_more, reached_high}
use Rattle.scaled_decimal.proofs.printing.steps_to.Goals as goal

pub returns-then-over-next-clause-below : goal.returns-then-over-next-clause-below
returns-then-over-next-clause-below c =
    reached_high c.args.over c.args.start c.loop-step.step c.loop-step.reached c.loop-step.invariant c.if-over-next.true

pub loop-step-preserved : goal.loop-step-preserved
loop-step-preserved c =
    reached_more c.args.over c.args.start c.loop-step.step c.loop-step.reached c.loop-step.invariant c.if-over-next.false
