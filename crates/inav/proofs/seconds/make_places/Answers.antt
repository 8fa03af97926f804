use Rattle.std.proofs.Common.{arith, ap, ◌∙◌}
use Rattle.inav.specs.Kept.{keys_held}
use Rattle.inav.proofs.Holding.{held_empty}
use Rattle.inav.proofs.Placing.{adds_empty}
use Rattle.inav.proofs.seconds.make_places.Goals as goal

pub returns-in_err-push-clause-same : goal.returns-in_err-push-clause-same
returns-in_err-push-clause-same c = rw c.in_err-push.ensures.items c.loop.invariant.1

pub returns-in_err-push-clause-held : goal.returns-in_err-push-clause-held
returns-in_err-push-clause-held c = rw c.in_err-push.ensures.items c.loop.invariant.2

pub loop-preserved : goal.loop-preserved
loop-preserved c = (
  grind arith,
  adds_empty c.args.places.now.items c.loop.places.items c.push.new.self.items _ c.new.ensures c.loop.invariant.1 c.in_ok-push.ensures.items,
  ap keys_held c.in_ok-push.ensures.items ∙ held_empty c.loop.places.items _ c.new.ensures ∙ c.loop.invariant.2,
)
