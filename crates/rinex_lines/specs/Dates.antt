-- The date of a record of RINEX 2, and the time of a GLONASS frame (RINEX 2.11, tables A3 and A10).
use Rattle.std.specs.Prelude.{ℕ, ◌+◌, ◌-◌, ◌%◌, ◌/◌, ◌==◌, nat_le, false, if◌then◌else◌, List, ◌∷◌, [], Option, Some, None, Result, Ok, Err, ℤ, pos, unsigned_abs}
use Rattle.scaled_decimal.specs.declared.reading.DecimalFault.{DecimalFault}
use Rattle.scaled_decimal.specs.declared.scales.Scale.{Scale}
use Rattle.scaled_decimal.specs.NumberReading.{read_of, seen}
use Rattle.scaled_decimal.specs.ScaleValue.{size_of}
use Rattle.nav_eph.specs.declared.calendar.Civil.{Civil}
use Rattle.nav_eph.specs.declared.calendar.WeekFault.{WeekFault}
use Rattle.nav_eph.specs.Functions.{first_from, moment_to}
use Rattle.rinex_lines.specs.Columns.{number_at}

-- the second value by the first, if there is one
infixl 10 ◌>>=◌
abbrev pub ◌>>=◌ : {A B : Type 0} → Option A → (A → Option B) → Option B
None >>= f = None
Some x >>= f = f x

-- the year of two digits: 1980 to 2079
abbrev pub full_year : ℕ → ℕ
full_year year = if nat_le 80 year then 1900 + year else 2000 + year

-- the four characters of the year of these two, of which the first is possibly blank
abbrev pub year_text : ℕ → ℕ → List ℕ
year_text tens ones =
    if tens == 32 then 50 ∷ 48 ∷ 48 ∷ ones ∷ []
    else if nat_le 56 tens then 49 ∷ 57 ∷ tens ∷ ones ∷ []
    else 50 ∷ 48 ∷ tens ∷ ones ∷ []

-- the date: year in columns 4-5, month 7-8, day 10-11, hour 13-14, minute 16-17 and second 19-20
unfoldable pub date_of : List ℕ → Option Civil
date_of line = do
  year ← number_at 3 line
  month ← number_at 6 line
  day ← number_at 9 line
  hour ← number_at 12 line
  minute ← number_at 15 line
  second ← number_at 18 line
  Some (record { year = full_year year; month = month; day = day; hour = hour; minute = minute; second = second })

abbrev pub moment_of : Result ℕ WeekFault → Option ℕ
moment_of (Ok moment) = Some moment
moment_of (Err fault) = None

-- the date in seconds since the start of 1980-01-06, as if every minute had 60
abbrev pub epoch_of : List ℕ → Option ℕ
epoch_of line = date_of line >>= λ date. moment_of (moment_to date)

-- the second of the week nearest to the epoch with this second of the day
abbrev pub week_second : ℕ → ℕ → ℕ
week_second epoch second = first_from 86400 (epoch - 43199) second % 604800

-- integers as they are
abbrev pub whole : Scale
whole = record { pi = false; factor = 1; two = pos 0; ten = pos 0 }

-- a number as six digits at the end of 19 columns
abbrev pub six_digits : ℕ → List ℕ
six_digits number =
    32 ∷ 32 ∷ 32 ∷ 32 ∷ 32 ∷ 32 ∷ 32 ∷ 32 ∷ 32 ∷ 32 ∷ 32 ∷ 32 ∷ 32
    ∷ (48 + number / 100000) ∷ (48 + number / 10000 % 10) ∷ (48 + number / 1000 % 10)
    ∷ (48 + number / 100 % 10) ∷ (48 + number / 10 % 10) ∷ (48 + number % 10) ∷ []

-- the text of the second of the week, for the text of a second of the day; any other text is kept
abbrev pub frame_by : Option ℕ → List ℕ → Result ℤ DecimalFault → List ℕ
frame_by (Some epoch) text (Ok second) = six_digits (week_second epoch (unsigned_abs second))
frame_by (Some epoch) text (Err fault) = text
frame_by None text second = text

-- the time of a frame: RINEX 2 has the second of the day, RINEX 3 that of the week
unfoldable pub frame_text : List ℕ → List ℕ → List ℕ
frame_text line text = frame_by (epoch_of line) text (read_of (pos 0) (pos 86399) (seen (size_of whole) text))
