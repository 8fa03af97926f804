use Rattle.std.proofs.Common.{drop, sym, ◌∙◌}
use Rattle.framing.proofs.Takes.{waits_at_first}
use Rattle.framing.proofs.deframer.decide.Goals as goal

pub undecided_below-requires-clause-waiting : goal.undecided_below-requires-clause-waiting
undecided_below-requires-clause-waiting c =
    rw c.find-place.ensures.same
    (waits_at_first c.args.more (drop c.args.start.now c.args.window.now) _ c.find-place.ensures.place (sym c.find-place.ensures.size ∙ c.if-size-eq0.true))
