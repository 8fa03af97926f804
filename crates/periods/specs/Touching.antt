-- One more part: the periods within the window of it become one.
use Rattle.std.specs.Prelude.{◌≡◌, ℕ, ◌+◌, ◌≤◌, ◌⊎◌, Some}
use Rattle.nav_eph.specs.declared.part.Part.{Part}
use Rattle.periods.specs.declared.key.PeriodId.{PeriodId}
use Rattle.periods.specs.Parts.{key_of}
use Rattle.periods.specs.Periods.{IsPeriod, IsMember}

-- the period is of the part's key, and has a member within the window of the part, on either side
pub record IsTouched (window : ℕ) (parts : Part → Type 0) (part : Part) (place : PeriodId) : Type 0 where
  pub of_key : key_of part ≡ Some place.key
  pub member : Part
  pub is_member : IsMember window parts place member
  pub not_far_after : member.stamp ≤ part.stamp + window
  pub not_far_before : part.stamp ≤ member.stamp + window

-- the period is one of the new set too, with the same members
pub record Stays (window : ℕ) (old new : Part → Type 0) (place : PeriodId) : Type 0 where
  pub period : IsPeriod window new place
  pub keeps : (q : Part) → IsMember window old place q → IsMember window new place q
  pub adds_none : (q : Part) → IsMember window new place q → IsMember window old place q

-- a period of the new set, whose members are the new part and those of the periods that it touches
pub record IsJoined (window : ℕ) (old : Part → Type 0) (part : Part) (new : Part → Type 0) (place : PeriodId) : Type 0 where
  pub period : IsPeriod window new place
  pub has_new : IsMember window new place part
  pub has_touched : (touched : PeriodId) → IsTouched window old part touched → (q : Part) → IsMember window old touched q → IsMember window new place q
  pub no_more : (q : Part) → IsMember window new place q → (q ≡ part) ⊎ ((touched : PeriodId) × IsTouched window old part touched × IsMember window old touched q)
  pub others : (other : PeriodId) → IsPeriod window new other → (other ≡ place) ⊎ (IsPeriod window old other × (IsTouched window old part other → ⊥))
