-- The functions of dates give what the relations describe, and nothing else does.
use Rattle.std.proofs.Common.{◌≡◌, ℕ, zero, suc, ◌+◌, ◌-◌, ◌*◌, ◌/◌, ◌%◌, ◌<◌, ◌≤◌, true, nat_lt, if◌then◌else◌, pos, Result, Ok, Err, refl, sym, ap, ◌∙◌, arith}
use Rattle.std.proofs.lemmas.Bool.{ltb-true, ltb-false, lt-ltb, le-leb, and_from, cond_both, true≢false}
use Rattle.jiff_core.specs.Calendar.{IsYear, day_count, days_in_month, days_in_year, days_of_months}
use Rattle.jiff_core.proofs.SignedLemmas.{signed_arith}
use Rattle.jiff_core.proofs.CalendarLemmas.{day_count-day_of_year, day_count-next_year, days_from_civil-day_count, days_in_month_bounds, days_in_year_bounds, days_of_months-zero, days_of_months_all, days_of_months_more}
use Rattle.nav_eph.specs.Weeks.{IsMoment}
use Rattle.nav_eph.specs.Dates.{Exists, GivesMoment, IsCivilOf}
use Rattle.nav_eph.specs.Functions.{IsShort, Place, civil_of, civil_to, has_date, moment_at, moment_to, month_from, year_from}
use Rattle.nav_eph.specs.declared.calendar.Civil.{Civil}
use Rattle.nav_eph.specs.declared.calendar.WeekFault.{WeekFault}
use Rattle.nav_eph.specs.declared.calendar.WeekFault.TheVariants.{NoSuchDate, BeforeEpoch, TooFar}
use Rattle.nav_eph.proofs.Days.{one_civil, one_moment_answer}

-- p is the year and day in it, d days after the start of year y
record IsInYear (k y d : ℕ) (p : Place) : Type 0 where
  count : day_count (pos p.which) 1 1 + p.day ≡ day_count (pos y) 1 1 + d
  within : p.day < days_in_year (pos p.which)
  from : y ≤ p.which
  to : p.which ≤ y + k

year_from-is : (k y d : ℕ) → d < 365 * (k + 1) → IsInYear k y d (year_from k y d)
unfolding year_from
year_from-is zero y d few = record { count = refl; within = omega (arith, days_in_year_bounds (pos y)); from = omega arith; to = omega arith }
year_from-is (suc k) y d few =
    let year = days_in_year (pos y) in
    cond_both (nat_lt d year) (record { which = y; day = d }) (year_from k (y + 1) (d - year)) (IsInYear (suc k) y d)
    (λ here. record { count = refl; within = ltb-true d year here; from = omega arith; to = omega arith })
    (λ later.
    let past : year ≤ d = ltb-false d year later in
    let next = year_from-is k (y + 1) (d - year) (omega (arith, days_in_year_bounds (pos y))) in
    let step = day_count-next_year (pos y) (pos (y + 1)) (omega (arith, signed_arith)) (omega (arith, signed_arith)) in
    record {
      count = omega (arith, next.count, step);
      within = next.within;
      from = omega (arith, next.from);
      to = omega (arith, next.to);
    })

-- p is the month of year y and day in it, d days after the start of month m
record IsInMonth (k y m d : ℕ) (p : Place) : Type 0 where
  count : days_of_months (pos y) (p.which - 1) + p.day ≡ days_of_months (pos y) (m - 1) + d
  within : p.day < days_in_month (pos y) p.which
  from : m ≤ p.which
  to : p.which ≤ m + k

month_from-is : (k y m d end : ℕ) → end ≡ m + k → 1 ≤ m → days_of_months (pos y) (m - 1) + d < days_of_months (pos y) end
    → IsInMonth k y m d (month_from k y m d)
unfolding month_from
month_from-is zero y m d end e first few =
    let same : end ≡ m = omega arith in
    let last : days_of_months (pos y) (m - 1) + d < days_of_months (pos y) m = rw same at few in
    record { count = refl; within = omega (arith, last, days_of_months_more (pos y) m first); from = omega arith; to = omega arith }
month_from-is (suc k) y m d end e first few =
    let month = days_in_month (pos y) m in
    cond_both (nat_lt d month) (record { which = m; day = d }) (month_from k y (m + 1) (d - month)) (IsInMonth (suc k) y m d)
    (λ here. record { count = refl; within = ltb-true d month here; from = omega arith; to = omega arith })
    (λ later.
    let past : month ≤ d = ltb-false d month later in
    let back : m + 1 - 1 ≡ m = omega arith in
    let begun : days_of_months (pos y) (m + 1 - 1) ≡ days_of_months (pos y) (m - 1) + month =
    ap (days_of_months (pos y)) back ∙ days_of_months_more (pos y) m first in
    let next = month_from-is k y (m + 1) (d - month) end (omega arith) (omega arith) (omega (arith, begun)) in
    record {
      count = omega (arith, next.count, begun);
      within = next.within;
      from = omega (arith, next.from);
      to = omega (arith, next.to);
    })

-- a day in a year and in a month of it make the date of a GPS time
date-of : (p q : Place) (m : ℕ) → m < 9909043200 → IsInYear 400 1980 (m / 86400 + 5) p → IsInMonth 11 p.which 1 p.day q
    → IsCivilOf (civil_of p.which q (m % 86400)) m
date-of p q m small in_year in_month =
    let y = pos p.which in
    let year : IsYear y = (omega (arith, signed_arith), omega (arith, signed_arith, in_year.to)) in
    let first = day_count-day_of_year (pos 1980) 1 6 (omega arith) in
    let here = day_count-day_of_year y q.which (q.day + 1) (omega arith) in
    let none = days_of_months-zero (pos 1980) in
    let none_here = days_of_months-zero y in
    let days : day_count y q.which (q.day + 1) ≡ day_count (pos 1980) 1 6 + m / 86400 =
    omega (arith, first, here, none, none_here, in_year.count, in_month.count) in
    record {
      exists = ((year, (omega (arith, in_month.from), omega (arith, in_month.to)), (omega arith, omega (arith, in_month.within))), omega arith, omega arith, omega arith);
      day = omega (arith, signed_arith, days, days_from_civil-day_count y q.which (q.day + 1), days_from_civil-day_count (pos 1980) 1 6);
      time = omega arith;
    }

-- `civil_to` gives the date of the GPS time
pub civil_to-date : (m : ℕ) → IsMoment m → IsCivilOf (civil_to m) m
unfolding civil_to
civil_to-date m small =
    let p = year_from 400 1980 (m / 86400 + 5) in
    let in_year = year_from-is 400 1980 (m / 86400 + 5) (omega arith) in
    let few : days_of_months (pos p.which) 0 + p.day < days_of_months (pos p.which) 12 =
    omega (arith, in_year.within, days_of_months-zero (pos p.which), days_of_months_all (pos p.which)) in
    date-of p (month_from 11 p.which 1 p.day) m small in_year (month_from-is 11 p.which 1 p.day 12 refl (omega arith) few)

pub civil_to-only : (c : Civil) (m : ℕ) → IsCivilOf c m → IsMoment m → c ≡ civil_to m
civil_to-only c m of_m small = one_civil c (civil_to m) m of_m (civil_to-date m small)

-- the test of a date says whether it exists
has_date-true : (c : Civil) → has_date c ≡ true → Exists c
has_date-true c h = grind (arith, signed_arith)

has_date-from : (c : Civil) → Exists c → has_date c ≡ true
has_date-from c e =
    let year = le-leb c.year 9999 (omega (arith, signed_arith, e.0.0.1)) in
    let month = and_from _ _ (and_from _ _ year (le-leb 1 c.month e.0.1.0)) (le-leb c.month 12 e.0.1.1) in
    let day = and_from _ _ (and_from _ _ month (le-leb 1 c.day e.0.2.0)) (le-leb c.day (days_in_month (pos c.year) c.month) e.0.2.1) in
    let minute = and_from _ _ (and_from _ _ day (lt-ltb c.hour 24 e.1)) (lt-ltb c.minute 60 e.2) in
    and_from _ _ minute (lt-ltb c.second 60 e.3)

-- the GPS time by day counts is that of a date that exists
moment_at-answer : (c : Civil) → Exists c
    → GivesMoment c (moment_at (day_count (pos 1980) 1 6) (day_count (pos c.year) c.month c.day) (3600 * c.hour + 60 * c.minute + c.second))
moment_at-answer c e =
    let first = day_count (pos 1980) 1 6 in
    let day = day_count (pos c.year) c.month c.day in
    let time = 3600 * c.hour + 60 * c.minute + c.second in
    let first_is = days_from_civil-day_count (pos 1980) 1 6 in
    let day_is = days_from_civil-day_count (pos c.year) c.month c.day in
    let hour : c.hour < 24 = e.1 in
    let minute : c.minute < 60 = e.2 in
    let second : c.second < 60 = e.3 in
    cond_both (nat_lt day first) (Err BeforeEpoch) (if nat_lt day (first + 7 * 16384) then Ok (86400 * (day - first) + time) else Err TooFar) (GivesMoment c)
    (λ before. (e, omega (arith, signed_arith, ltb-true day first before, first_is, day_is)))
    (λ from.
    let since : first ≤ day = ltb-false day first from in
    cond_both (nat_lt day (first + 7 * 16384)) (Ok (86400 * (day - first) + time)) (Err TooFar) (GivesMoment c)
    (λ near.
    let within : day < first + 7 * 16384 = ltb-true day (first + 7 * 16384) near in
    let days : (86400 * (day - first) + time) / 86400 ≡ day - first = omega arith in
    (record { exists = e; day = omega (arith, signed_arith, since, days, first_is, day_is); time = omega arith }, omega arith))
    (λ far. (e, omega (arith, signed_arith, ltb-false day (first + 7 * 16384) far, first_is, day_is))))

-- `moment_to` gives the result for each date
pub moment_to-answer : (c : Civil) → GivesMoment c (moment_to c)
unfolding moment_to
moment_to-answer c =
    cond_both (has_date c) (moment_at (day_count (pos 1980) 1 6) (day_count (pos c.year) c.month c.day) (3600 * c.hour + 60 * c.minute + c.second)) (Err NoSuchDate) (GivesMoment c)
    (λ has. moment_at-answer c (has_date-true c has))
    (λ none. λ e. absurd (true≢false (sym (has_date-from c e) ∙ none)))

pub moment_to-only : (c : Civil) (a : Result ℕ WeekFault) → GivesMoment c a → a ≡ moment_to c
moment_to-only c a gives = one_moment_answer c a (moment_to c) gives (moment_to-answer c)

pub moment_to-again : (c : Civil) (m : ℕ) → IsCivilOf c m → IsMoment m → moment_to c ≡ Ok m
moment_to-again c m of_m small = sym (moment_to-only c (Ok m) (of_m, small))

-- a date of the calendar has short numbers
pub short_date : (c : Civil) (m : ℕ) → IsCivilOf c m → IsShort c
short_date c m of_m =
    let e = of_m.exists in
    record {
      year = omega (arith, signed_arith, e.0.0.1);
      month = omega (arith, e.0.1.1);
      day = omega (arith, e.0.2.1, days_in_month_bounds (pos c.year) c.month);
      hour = omega (arith, e.1);
      minute = omega (arith, e.2);
      second = omega (arith, e.3);
    }
