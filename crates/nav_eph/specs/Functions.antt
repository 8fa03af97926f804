-- The weeks, GPS times and dates that Weeks and Dates describe, as functions.
use Rattle.std.specs.Prelude.{ℕ, zero, suc, ◌+◌, ◌-◌, ◌*◌, ◌/◌, ◌%◌, ◌<◌, max, nat_lt, nat_le, Bool, ◌&&◌, if◌then◌else◌, pos, Result, Ok, Err}
use Rattle.jiff_core.specs.Calendar.{days_in_year, days_in_month, day_count}
use Rattle.nav_eph.specs.declared.calendar.Civil.{Civil}
use Rattle.nav_eph.specs.declared.calendar.WeekFault.{WeekFault}
use Rattle.nav_eph.specs.declared.calendar.WeekFault.TheVariants.{NoSuchDate, BeforeEpoch, TooFar}

-- the first number from low on that equals n modulo rollover
abbrev pub first_from : ℕ → ℕ → ℕ → ℕ
first_from rollover low n = low + (n + rollover - low % rollover) % rollover

-- the week of a ten-bit GPS week number near the reference week r
unfoldable pub gps_week_to : ℕ → ℕ → ℕ
gps_week_to r n = first_from 1024 (r - 512) n

-- the GPS week of a twelve-bit Galileo week number near the reference week r
unfoldable pub galileo_week_to : ℕ → ℕ → ℕ
galileo_week_to r n = first_from 4096 (max 1024 (r - 2048)) (n + 1024)

-- w is one of the 1024 weeks near the reference week r
abbrev pub near_gps : ℕ → ℕ → Bool
near_gps r w = nat_le r (w + 512) && nat_le w (r + 511)

-- w is one of the 4096 weeks near the reference week r
abbrev pub near_galileo : ℕ → ℕ → Bool
near_galileo r w = nat_le (max 1024 (r - 2048)) w && nat_le w (max 1024 (r - 2048) + 4095)

-- the GPS time with this time of week nearest to t
unfoldable pub moment_near : ℕ → ℕ → ℕ
moment_near t second = first_from 604800 (t - 302399) second

-- a year or a month, and how many of its days have passed
pub record Place : Type 0 where
  pub which : ℕ
  pub day : ℕ

-- the year and day in it, d days after the start of year y, at most k years on
unfoldable pub year_from : ℕ → ℕ → ℕ → Place
year_from zero y d = record { which = y; day = d }
year_from (suc k) y d =
    if nat_lt d (days_in_year (pos y)) then record { which = y; day = d } else year_from k (y + 1) (d - days_in_year (pos y))

-- the month of year y and day in it, d days after the start of month m, at most k months on
unfoldable pub month_from : ℕ → ℕ → ℕ → ℕ → Place
month_from zero y m d = record { which = m; day = d }
month_from (suc k) y m d =
    if nat_lt d (days_in_month (pos y) m) then record { which = m; day = d } else month_from k y (m + 1) (d - days_in_month (pos y) m)

-- the date of a day in a month of a year, with a time of day in seconds
abbrev pub civil_of : ℕ → Place → ℕ → Civil
civil_of year p time = record {
  year = year;
  month = p.which;
  day = p.day + 1;
  hour = time / 3600;
  minute = time % 3600 / 60;
  second = time % 60;
}

-- the date of a day of a year, with a time of day in seconds
abbrev pub civil_in : Place → ℕ → Civil
civil_in p time = civil_of p.which (month_from 11 p.which 1 p.day) time

-- the date and time of day of a GPS time; 1980-01-06 is five days after the start of 1980
unfoldable pub civil_to : ℕ → Civil
civil_to m = civil_in (year_from 400 1980 (m / 86400 + 5)) (m % 86400)

-- the date exists in the calendar up to the year 9999, and the time of day exists
abbrev pub has_date : Civil → Bool
has_date c =
    nat_le c.year 9999 && nat_le 1 c.month && nat_le c.month 12 && nat_le 1 c.day && nat_le c.day (days_in_month (pos c.year) c.month)
    && nat_lt c.hour 24 && nat_lt c.minute 60 && nat_lt c.second 60

-- the GPS time at `time` seconds of a day, by the day counts of 1980-01-06 and of that day
abbrev pub moment_at : ℕ → ℕ → ℕ → Result ℕ WeekFault
moment_at first day time =
    if nat_lt day first then Err BeforeEpoch
    else if nat_lt day (first + 7 * 16384) then Ok (86400 * (day - first) + time)
    else Err TooFar

-- the GPS time of a date, or why it has none
unfoldable pub moment_to : Civil → Result ℕ WeekFault
moment_to c =
    if has_date c then moment_at (day_count (pos 1980) 1 6) (day_count (pos c.year) c.month c.day) (3600 * c.hour + 60 * c.minute + c.second)
    else Err NoSuchDate

-- the year has at most four digits, each other number of the date at most two
pub record IsShort (c : Civil) : Type 0 where
  pub year : c.year < 10000
  pub month : c.month < 100
  pub day : c.day < 100
  pub hour : c.hour < 100
  pub minute : c.minute < 100
  pub second : c.second < 100
