-- Calendar dates with times of day, and their GPS times.
use Rattle.std.specs.Prelude.{◌≡◌, ℕ, ◌+◌, ◌*◌, ◌/◌, ◌%◌, ◌<◌, ℤ, pos, ◌+ℤ◌, ◌<ℤ◌, ◌≤ℤ◌, Result, Ok, Err}
use Rattle.jiff_core.specs.Calendar.{IsCivilDate, days_from_civil}
use Rattle.nav_eph.specs.Weeks.{IsMoment}
use Rattle.nav_eph.specs.declared.calendar.Civil.{Civil}
use Rattle.nav_eph.specs.declared.calendar.WeekFault.{WeekFault}
use Rattle.nav_eph.specs.declared.calendar.WeekFault.TheVariants.{NoSuchDate, BeforeEpoch, TooFar}

-- the date exists in the calendar up to the year 9999, and the time of day exists
abbrev pub Exists : Civil → Type 0
Exists c = IsCivilDate (pos c.year) c.month c.day × (c.hour < 24) × (c.minute < 60) × (c.second < 60)

-- the day number of the date, counted from 1970-01-01
abbrev pub day_of : Civil → ℤ
day_of c = days_from_civil (pos c.year) c.month c.day

-- the day number of 1980-01-06, the start of week 0
abbrev pub first_day : ℤ
first_day = days_from_civil (pos 1980) 1 6

-- c is the date and time of day of the GPS time m: m / 86400 days after 1980-01-06, m % 86400 seconds after midnight
pub record IsCivilOf (c : Civil) (m : ℕ) : Type 0 where
  pub exists : Exists c
  pub day : day_of c ≡ first_day +ℤ pos (m / 86400)
  pub time : 3600 * c.hour + 60 * c.minute + c.second ≡ m % 86400

-- the results of converting a date to GPS time
abbrev pub GivesMoment : Civil → Result ℕ WeekFault → Type 0
GivesMoment c (Ok m) = IsCivilOf c m × IsMoment m
GivesMoment c (Err NoSuchDate) = Exists c → ⊥
GivesMoment c (Err BeforeEpoch) = Exists c × (day_of c <ℤ first_day)
GivesMoment c (Err TooFar) = Exists c × ((first_day +ℤ pos (7 * 16384)) ≤ℤ day_of c)
