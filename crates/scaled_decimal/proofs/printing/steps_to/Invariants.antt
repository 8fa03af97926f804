use Rattle.scaled_decimal.specs.Mirrors.{IsReached}
use Rattle.scaled_decimal.proofs.printing.steps_to.Given as goal

abbrev pub invariant-loop-step : goal.invariant-loop-step
invariant-loop-step l = IsReached l.over l.start l.step l.reached
