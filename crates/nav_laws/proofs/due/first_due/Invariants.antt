use Rattle.std.proofs.Common.{◌≡◌, None, drop}
use Rattle.periods.specs.Mirrors.{best_among}
use Rattle.periods.specs.PeriodsOf.{place_at, is_before}
use Rattle.nav_laws.specs.Plain.{due}
use Rattle.nav_laws.proofs.due.first_due.Given as goal

abbrev pub invariant-loop-part : goal.invariant-loop-part
invariant-loop-part l =
    best_among place_at (due l.parts l.window l.watermark l.last) is_before (drop l.part-index l.parts) l.best
    ≡ best_among place_at (due l.parts l.window l.watermark l.last) is_before l.parts None
