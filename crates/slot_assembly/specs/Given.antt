-- The periods given so far by a loop over `next_closed`.
use Rattle.std.specs.Prelude.{◌≡◌, ℕ, ◌+◌, ◌<◌, ◌⊎◌, List, [], ◌∷◌, Option, None, Some, Contains}
use Rattle.nav_eph.specs.declared.part.Part.{Part}
use Rattle.periods.specs.declared.key.PeriodId.{PeriodId}
use Rattle.periods.specs.declared.closed.Closed.{Closed}
use Rattle.periods.specs.Periods.{IsPeriod, IsBefore}
use Rattle.periods.specs.Verdicts.{IsClosed, closed_place}
use Rattle.periods.specs.PeriodLists.{IsAscending}
use Rattle.slot_assembly.specs.Standing.{Standing, IsAfter}
use Rattle.periods.specs.PeriodsOf.{closed_of}

-- the last period given, if any, is closed at the watermark
abbrev pub GivenBelow : ℕ → ℕ → Option PeriodId → Type 0
GivenBelow window watermark None = Unit {0}
GivenBelow window watermark (Some place) = place.end + window < watermark

-- the periods given are, in order, those closed at the watermark and not after the last one given
pub record HasGiven (r window : ℕ) (parts : Part → Type 0) (watermark : ℕ) (last : Option PeriodId) (given : List Closed) : Type 0 where
  pub ascending : IsAscending given
  pub each : (c : Closed) → Contains given c → IsClosed r window parts c
  pub low : (c : Closed) → Contains given c → c.end + window < watermark
  pub below : (c : Closed) → Contains given c → (q : PeriodId) → IsAfter last q → IsBefore (closed_place c) q
  pub every : (q : PeriodId) → IsPeriod window parts q → q.end + window < watermark → IsAfter last q ⊎ ((c : Closed) × Contains given c × (closed_place c ≡ q))
  pub last_low : GivenBelow window watermark last

-- the end and key of the last period of a list, or the option if the list is empty
abbrev pub last_from : Option PeriodId → List Closed → Option PeriodId
last_from last [] = last
last_from last (c ∷ cs) = last_from (Some (closed_place c)) cs

-- the state in which all periods closed at the watermark were given
abbrev pub flushed : ℕ → ℕ → List Part → ℕ → Standing
flushed r window parts watermark = record { parts = parts; watermark = watermark; last = last_from None (closed_of r window watermark parts) }
