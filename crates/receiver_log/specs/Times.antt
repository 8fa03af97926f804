-- GPS times in messages, rounded to integer seconds (halves up).
use Rattle.std.specs.Prelude.{ℕ, ◌+◌, ◌-◌, ◌*◌, ◌/◌, ◌%◌, ◌^◌, ◌==◌, ◌&&◌, ◌||◌, nat_lt, nat_le}
use Rattle.std.specs.Prelude.{if◌then◌else◌, Bool, List, length, slice_index, Option, Some, None}
use Rattle.std.specs.Prelude.{Result, Ok, Err}
use Rattle.nav_eph.specs.Functions.{moment_to}
use Rattle.nav_eph.specs.declared.calendar.Civil.{Civil}
use Rattle.nav_eph.specs.declared.calendar.WeekFault.{WeekFault}
use Rattle.receiver_log.specs.Numbers.{two_at, four_at, eight_at}

-- plausible weeks: 1025 to 8191
abbrev pub is_week : ℕ → Bool
is_week week = nat_le 1025 week && nat_le week 8191

-- the time at this many milliseconds of a week
unfoldable pub time_in : ℕ → ℕ → Option ℕ
time_in week milliseconds =
    if is_week week && nat_lt milliseconds 604800000
    then Some (604800 * week + (milliseconds + 500) / 1000) else None

-- NAV-TIMEGPS: iTOW in milliseconds at offset 0, week at 8, validity flags of both at 11
unfoldable pub time_of_week : List ℕ → Option ℕ
time_of_week payload =
    if nat_le 12 (length payload) && slice_index payload 11 % 4 == 3
    then time_in (two_at payload 8) (four_at payload 0) else None

-- NAV-PVT: year, month, day, hour and minute from offset 4, with second 0
abbrev pub minute_at : List ℕ → Civil
minute_at payload = record {
  year = two_at payload 4;
  month = slice_index payload 6;
  day = slice_index payload 7;
  hour = slice_index payload 8;
  minute = slice_index payload 9;
  second = 0;
}

-- the week in which this time of week (milliseconds) is nearest to second, the later of two equally near
abbrev pub nearest_week : ℕ → ℕ → ℕ
nearest_week second milliseconds = (1000 * second + 302400000 - milliseconds) / 604800000

-- the GPS time with this time of week (milliseconds) nearest to a second of a minute; none if the
-- date does not exist
abbrev pub nearest_time : Result ℕ WeekFault → ℕ → ℕ → Option ℕ
nearest_time (Ok minute) second milliseconds = time_in
    (nearest_week (minute + second) milliseconds) milliseconds
nearest_time (Err fault) second milliseconds = None

-- NAV-PVT: iTOW in milliseconds at offset 0, date and time of day from 4, validity flags of both at 11; a leap second has
-- second 60
unfoldable pub time_of_date : List ℕ → Option ℕ
time_of_date payload =
    if nat_le 12 (length payload) && (slice_index payload 11 % 4 == 3
    && nat_le (slice_index payload 10) 60)
    then nearest_time (moment_to (minute_at payload)) (slice_index payload 10)
    (four_at payload 0) else None

-- The exponent e of an IEEE 754 double of sign, 11 bits e and 52 bits m. The double is (2^52 + m) * 2^(e - 1075) for e from
-- 1 to 2046, m * 2^(-1074) for e = 0, and not finite for e = 2047.
abbrev pub exponent_of : ℕ → ℕ
exponent_of double = double / 2 ^ 52 % 2048

-- the significand as an integer
unfoldable pub digits_of : ℕ → ℕ
digits_of double = if exponent_of double == 0 then double % 2 ^ 52 else 2 ^ 52 + double % 2 ^ 52

-- the number of fraction bits of the significand
unfoldable pub places_of : ℕ → ℕ
places_of double = if exponent_of double == 0 then 1074 else 1075 - exponent_of double

-- the double is from 0 to below 604,800; with an exponent above 1075 it is 2^53 or more
unfoldable pub is_in_week : ℕ → Bool
is_in_week double =
    (nat_lt double (2 ^ 63) || digits_of double == 0)
    && (nat_le (exponent_of double) 1075 && nat_lt (digits_of double / 2 ^ places_of double) 604800)

-- the nearest integer, halves up
unfoldable pub nearest_to : ℕ → ℕ
nearest_to double =
    if nat_lt (2 * (digits_of double % 2 ^ places_of double)) (2 ^ places_of double)
    then digits_of double / 2 ^ places_of double
    else digits_of double / 2 ^ places_of double + 1

-- the time at a number of seconds of a week, given as a double
unfoldable pub time_of_seconds : ℕ → ℕ → Option ℕ
time_of_seconds week double =
    if is_week week && is_in_week double then Some (604800 * week + nearest_to double) else None

-- RXM-RAWX: rcvTow, a double in seconds, at offset 0, and week at 8
unfoldable pub time_of_raw : List ℕ → Option ℕ
time_of_raw payload =
    if nat_le 16 (length payload) then time_of_seconds (two_at payload 8)
    (eight_at payload 0) else None
