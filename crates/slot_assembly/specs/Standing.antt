-- The state that an assembly represents, and the period that it gives next.
use Rattle.std.specs.Prelude.{ℕ, ◌+◌, ◌<◌, List, [], ◌∷◌, ◌++◌, Option, None, Some}
use Rattle.nav_eph.specs.declared.part.Part.{Part}
use Rattle.periods.specs.declared.key.PeriodId.{PeriodId}
use Rattle.periods.specs.declared.closed.Closed.{Closed}
use Rattle.periods.specs.Periods.{IsPeriod, IsBefore}
use Rattle.periods.specs.Verdicts.{IsClosed, closed_place}

-- the parts taken, the greatest watermark given, and the last period given
pub record Standing : Type 0 where
  pub parts : List Part
  pub watermark : ℕ
  pub last : Option PeriodId

-- the assembly represents some state with this property
abbrev pub Stood : (Standing → Type 0) → (Standing → Type 0) → Type 0
Stood now property = (at : Standing) × now at × property at

-- every state that the assembly represents has this property
abbrev pub Tells : (Standing → Type 0) → (Standing → Type 0) → Type 0
Tells now property = (at : Standing) → now at → property at

-- the effect of a call: of each state that the assembly represented before, it represents the
-- changed one after it
abbrev pub Carries : (Standing → Type 0) → (Standing → Type 0) → (Standing → Standing) → Type 0
Carries old new change = (at : Standing) → old at → new (change at)

-- the state before the first part
abbrev pub nothing_yet : Standing
nothing_yet = record { parts = []; watermark = 0; last = None }

-- the same state
abbrev pub unchanged : Standing → Standing
unchanged at = at

-- one more part taken
abbrev pub taking : Part → Standing → Standing
taking part at = record { parts = at.parts ++ part ∷ []; watermark = at.watermark; last = at.last }

-- further parts taken, in this order
abbrev pub adding : List Part → Standing → Standing
adding parts at = record { parts = at.parts ++ parts; watermark = at.watermark; last = at.last }

-- other parts in their place
abbrev pub with_parts : List Part → Standing → Standing
with_parts parts at = record { parts = parts; watermark = at.watermark; last = at.last }

-- a higher watermark
abbrev pub reaching : ℕ → Standing → Standing
reaching watermark at = record { parts = at.parts; watermark = watermark; last = at.last }

-- a watermark, and a period given
abbrev pub giving : ℕ → PeriodId → Standing → Standing
giving watermark place at = record { parts = at.parts; watermark = watermark; last = Some place }

-- the period is after the last one given, if any
abbrev pub IsAfter : Option PeriodId → PeriodId → Type 0
IsAfter None place = Unit {0}
IsAfter (Some last) place = IsBefore last place

-- a period that is closed at the watermark and not given yet
pub record IsDue (window : ℕ) (parts : Part → Type 0) (watermark : ℕ) (last : Option PeriodId) (place : PeriodId) : Type 0 where
  pub period : IsPeriod window parts place
  pub low : place.end + window < watermark
  pub after : IsAfter last place

-- the first period due, with its verdict
pub record IsNext (r window : ℕ) (parts : Part → Type 0) (watermark : ℕ) (last : Option PeriodId) (closed : Closed) : Type 0 where
  pub due : IsDue window parts watermark last (closed_place closed)
  pub verdict : IsClosed r window parts closed
  pub least : (place : PeriodId) → IsDue window parts watermark last place → IsBefore place (closed_place closed) → ⊥

-- no period is due
abbrev pub NoneDue : ℕ → (Part → Type 0) → ℕ → Option PeriodId → Type 0
NoneDue window parts watermark last = (place : PeriodId) → IsDue window parts watermark last place → ⊥
