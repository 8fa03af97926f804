-- The state of the plain assembly, and the parts and periods that it represents.
use Rattle.std.specs.Prelude.{◌≡◌, ℕ, ◌+◌, ◌≤◌, Bool, true, ◌&&◌, nat_lt, if◌then◌else◌, List, [], ◌∷◌, Option, None, Some, All, Contains}
use Rattle.nav_eph.specs.declared.part.Part.{Part}
use Rattle.periods.specs.declared.key.PeriodId.{PeriodId}
use Rattle.nav_eph.specs.Values.{IsPartValue}
use Rattle.slot_assembly.specs.Standing.{Standing, NoneDue}
use Rattle.periods.specs.PeriodsOf.{quiet, is_before, place_at}

-- what contracts see of the plain assembly
pub record PlainState : Type 0 where
  -- the reference week
  pub reference : ℕ
  -- the window in seconds: how long after a part another one of its key may belong to the same period
  pub window : ℕ
  -- the parts that it keeps
  pub parts : List Part
  -- the greatest watermark given
  pub watermark : ℕ
  -- the last period given
  pub last : Option PeriodId
  -- no part has an earlier time tag
  pub least : ℕ
  -- the greatest watermark at which no period was due
  pub none_at : ℕ

-- its parts, watermark and last period given are those of `at`; no part is earlier than `least`, and at `none_at` no period was
-- due
pub record PlainStandsFor (assembly : PlainState) (at : Standing) : Type 0 where
  pub keeps : (p : Part) → Contains at.parts p → Contains assembly.parts p
  pub keeps_no_more : (p : Part) → Contains assembly.parts p → Contains at.parts p
  pub at_watermark : assembly.watermark ≡ at.watermark
  pub at_last : assembly.last ≡ at.last
  pub values : All IsPartValue assembly.parts
  pub least : All (λ p. assembly.least ≤ p.stamp) assembly.parts
  pub none_due : NoneDue assembly.window (Contains at.parts) assembly.none_at at.last
  pub none_by : assembly.none_at ≤ at.watermark

-- the place comes after the last one given
abbrev pub is_after : Option PeriodId → PeriodId → Bool
is_after None q = true
is_after (Some last) q = is_before last q

-- the place is due: closed at the watermark, after the last one given, and the end of a period
abbrev pub due : List Part → ℕ → ℕ → Option PeriodId → PeriodId → Bool
due parts window watermark last q = nat_lt (q.end + window) watermark && (is_after last q && quiet parts window q.key q.end)

-- n + 1 if there is a place after the last one given, else n
abbrev pub count_after : Option PeriodId → Option PeriodId → ℕ → ℕ
count_after last None n = n
count_after last (Some q) n = if is_after last q then n + 1 else n

-- the number of parts at places after the last one given
abbrev pub left_of : Option PeriodId → List Part → ℕ
left_of last [] = 0
left_of last (p ∷ ps) = count_after last (place_at p) (left_of last ps)

-- the number of its parts at places after the last one given
abbrev pub plain_left : PlainState → ℕ
plain_left s = left_of s.last s.parts
