-- Names of navigation files by the convention of RINEX 3 and 4: the nine characters of the site, `R` for data of a receiver, the
-- start as year, day of year, hour and minute, the period, and the type of the data, as `MN` for mixed navigation data.
use Rattle.std.specs.Prelude.{◌==◌, ◌+◌, ◌-◌, ◌/◌, ◌%◌, ◌&&◌, ◌||◌, not, nat_lt, ℕ, Bool, if◌then◌else◌, List, [], ◌∷◌, ◌++◌, slice_index, codes}
use Rattle.nav_eph.specs.Functions.{civil_to}
use Rattle.nav_eph.specs.declared.calendar.Civil.{Civil}
use Rattle.file_conversion.specs.Fits.{fits}

-- the last two digits of a number
abbrev pub two : ℕ → List ℕ
two n = (48 + n / 10 % 10) ∷ (48 + n % 10) ∷ []

-- the last three
abbrev pub three : ℕ → List ℕ
three n = (48 + n / 100 % 10) ∷ two n

-- the last four
abbrev pub four : ℕ → List ℕ
four n = two (n / 100) ++ two n

-- the days of a common year before a month
abbrev pub days_before : ℕ → ℕ
days_before month = slice_index (0 ∷ 31 ∷ 59 ∷ 90 ∷ 120 ∷ 151 ∷ 181 ∷ 212 ∷ 243 ∷ 273 ∷ 304 ∷ 334 ∷ []) (month - 1)

-- the year has 366 days
abbrev pub is_leap : ℕ → Bool
is_leap year = year % 4 == 0 && (not (year % 100 == 0) || year % 400 == 0)

-- the day of the year, from 1
abbrev pub day_of_year : Civil → ℕ
day_of_year c = days_before c.month + c.day + (if is_leap c.year && nat_lt 2 c.month then 1 else 0)

-- both times, in seconds of GPS time, are in one hour
abbrev pub is_one_hour : ℕ → ℕ → Bool
is_one_hour first last = last / 3600 == first / 3600

-- the number of days from that of the first time to that of the last
abbrev pub days_between : ℕ → ℕ → ℕ
days_between first last = last / 86400 - first / 86400

-- the period: an hour, 1 to 99 days, or `00U` for an unspecified one
unfoldable pub period_of : ℕ → ℕ → List ℕ
period_of first last =
    if is_one_hour first last then codes "01H"
    else if nat_lt (days_between first last) 99 then two (days_between first last + 1) ++ codes "D"
    else codes "00U"

-- the time of day at which the period starts: the full hour, or midnight
unfoldable pub start_time : ℕ → ℕ → List ℕ
start_time first last = if is_one_hour first last then two (civil_to first).hour ++ codes "00" else codes "0000"

-- the date on which the period starts
abbrev pub start_date : Civil → List ℕ
start_date c = four c.year ++ three (day_of_year c)

-- the site and the period from the first time to the last
unfoldable pub site_times : List ℕ → ℕ → ℕ → List ℕ
site_times site first last =
    (((((site ++ codes "_R_") ++ start_date (civil_to first)) ++ start_time first last) ++ codes "_") ++ period_of first last) ++ codes "_"

-- The name of a file with data of this type of a site from the first time to the last.
abbrev pub long_name : List ℕ → ℕ → ℕ → List ℕ → List ℕ
long_name site first last type = (site_times site first last ++ type) ++ codes ".rnx"

-- A site: four capital letters or digits, a digit for the monument, one for the receiver, and the three letters of the country.
unfoldable pub is_site : List ℕ → Bool
is_site site = fits (codes "NNNN00AAA") site
