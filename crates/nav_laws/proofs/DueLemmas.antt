-- A stamp two windows before the watermark is far from the ends of all periods to come.
use Rattle.std.proofs.Common.{ℕ, ◌+◌, ◌*◌, ◌<◌, inl, inr, Option, arith}
use Rattle.std.proofs.lemmas.Bool.{cases_lt}
use Rattle.nav_eph.specs.declared.part.Part.{Part}
use Rattle.periods.specs.declared.key.PeriodId.{PeriodId}
use Rattle.periods.specs.Periods.{IsPeriod}
use Rattle.slot_assembly.specs.Standing.{IsAfter, NoneDue}
use Rattle.periods.proofs.Surface.{AreLater, IsPeriod-was}

-- a stamp two windows before the watermark is far from the end of each period to come
pub old_far : (w watermark : ℕ) (old new : Part → Type 0) (last : Option PeriodId) (q : PeriodId) (s : ℕ) → AreLater watermark old new → NoneDue w old watermark last → IsPeriod w new q → IsAfter last q
    → s + 2 * w < watermark → s + w < q.end
old_far w watermark old new last q s l none hq after far = elim (cases_lt q.end watermark) [
  | inl low ↦ elim (cases_lt (q.end + w) watermark) [
    | inl due ↦ absurd (none q (record { period = IsPeriod-was w watermark old new q l low hq; low = due; after = after }))
    | inr near ↦ omega arith
  ]
  | inr high ↦ omega arith
]
