use Rattle.std.proofs.Common.{◌≡◌, None, drop, nat_lt}
use Rattle.periods.specs.Mirrors.{best_among}
use Rattle.periods.specs.PeriodsOf.{complete_below, stamp_of}
use Rattle.periods.proofs.find.last_complete.Given as goal

abbrev pub invariant-loop-part : goal.invariant-loop-part
invariant-loop-part l =
    best_among (stamp_of l.key) (complete_below l.r l.window l.parts l.key l.end) (λ a b. nat_lt b a) (drop l.part-index l.parts) l.best
    ≡ best_among (stamp_of l.key) (complete_below l.r l.window l.parts l.key l.end) (λ a b. nat_lt b a) l.parts None
