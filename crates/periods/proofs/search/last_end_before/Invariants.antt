use Rattle.std.proofs.Common.{◌≡◌, None, drop, nat_lt}
use Rattle.periods.specs.Mirrors.{best_among}
use Rattle.periods.specs.PeriodsOf.{end_below, stamp_of}
use Rattle.periods.proofs.search.last_end_before.Given as goal

abbrev pub invariant-loop-part : goal.invariant-loop-part
invariant-loop-part l =
    best_among (stamp_of l.key) (end_below l.parts l.window l.key l.end) (λ a b. nat_lt b a) (drop l.part-index l.parts) l.best
    ≡ best_among (stamp_of l.key) (end_below l.parts l.window l.key l.end) (λ a b. nat_lt b a) l.parts None
