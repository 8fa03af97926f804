-- Day numbers from 1970 on, the date of a GPS time and the GPS time of a date.
use Rattle.std.proofs.Common.{Fits, negsuc, subst, w32, ◌-◌, w16, w64, to_z, of_z, unsigned_abs, ◌≡◌, ℕ, ◌+◌, ◌*◌, ◌/◌, ◌%◌, ◌<◌, ◌≤◌, ℤ, pos, ◌+ℤ◌, ◌-ℤ◌, ◌<ℤ◌, ◌≤ℤ◌, Result, Ok, Err, refl, sym, ap, ◌∙◌, arith}
use Rattle.std.proofs.lemmas.Int.{by_lt_z}
use lib.Dec.{T}
use lib.Signed.{non_neg}
use Rattle.jiff_core.specs.declared.civil.date.Date.{Date}
use Rattle.jiff_core.specs.Calendar.{day_count, days_from_civil, days_of_years, days_of_months, IsCivilDate}
use Rattle.jiff_core.specs.Date.{epoch_day}
use Rattle.jiff_core.proofs.SignedLemmas.{signed_arith, back_small}
use Rattle.jiff_core.proofs.CalendarLemmas.{day_count-lt_year, day_count-epoch, days_from_civil-day_count}
use Rattle.jiff_core.proofs.DateLemmas.{civil, epoch_day_injective}
use Rattle.nav_eph.specs.declared.calendar.Civil.{Civil}
use Rattle.nav_eph.specs.declared.calendar.WeekFault.{WeekFault}
use Rattle.nav_eph.specs.declared.calendar.WeekFault.TheVariants.{NoSuchDate, BeforeEpoch, TooFar}
use Rattle.nav_eph.specs.Dates.{Exists, GivesMoment, IsCivilOf, day_of, first_day}

-- the number of the first day
pub first_day-is : days_from_civil (pos 1980) 1 6 ≡ pos 3657
unfolding days_from_civil day_count days_of_years days_of_months
first_day-is = refl

-- a day from 1970-01-01 on lies in a year from 1970 on
pub year_from_1970 : (d : Date) → pos 0 ≤ℤ epoch_day d → pos 1970 ≤ℤ d.year
year_from_1970 d h =
    by_lt_z d.year (pos 1970)
    (λ before. absurd (omega (arith, signed_arith, day_count-epoch, days_from_civil-day_count d.year d.month d.day, day_count-lt_year d.year d.month d.day (pos 1970) 1 1 (civil d) (omega arith) before)))
    (λ from. from)

-- the library's date with the day of a date that exists
abbrev pub plain : (c : Civil) → Exists c → Date
plain c e = record {
  year = pos c.year;
  month = c.month;
  day = c.day;
  year_in = e.0.0;
  month_in = e.0.1;
  day_in = e.0.2;
}

-- two times of day with the same count of seconds are the same
same_time : (h m s h₂ m₂ s₂ : ℕ) → m < 60 → s < 60 → m₂ < 60 → s₂ < 60
    → 3600 * h + 60 * m + s ≡ 3600 * h₂ + 60 * m₂ + s₂ → (h ≡ h₂) × (m ≡ m₂) × (s ≡ s₂)
same_time h m s h₂ m₂ s₂ a b d e same = (omega arith, omega arith, omega arith)

-- a date is the date of one GPS time
same_moment : (c : Civil) (m n : ℕ) → IsCivilOf c m → IsCivilOf c n → m ≡ n
same_moment c m n of_m of_n = omega (arith, signed_arith, of_m.day, of_n.day, of_m.time, of_n.time)

not_before : (c : Civil) (m : ℕ) → IsCivilOf c m → ¬ (day_of c <ℤ first_day)
not_before c m of_m before = omega (arith, signed_arith, of_m.day)

not_too_far : (c : Civil) (m : ℕ) → IsCivilOf c m → m < 9909043200 → ¬ ((first_day +ℤ pos (7 * 16384)) ≤ℤ day_of c)
not_too_far c m of_m small late = omega (arith, signed_arith, of_m.day)

-- converting a date has one result
pub one_moment_answer : (c : Civil) (a b : Result ℕ WeekFault) → GivesMoment c a → GivesMoment c b → a ≡ b
one_moment_answer c (Ok m) (Ok n) g h = ap Ok (let of_m = g.0 in let of_n = h.0 in same_moment c m n of_m of_n)
one_moment_answer c (Ok m) (Err NoSuchDate) g h = absurd (h g.0.exists)
one_moment_answer c (Ok m) (Err BeforeEpoch) g h = absurd (not_before c m g.0 h.1)
one_moment_answer c (Ok m) (Err TooFar) g h = absurd (not_too_far c m g.0 g.1 h.1)
one_moment_answer c (Err NoSuchDate) (Ok n) g h = absurd (g h.0.exists)
one_moment_answer c (Err NoSuchDate) (Err NoSuchDate) g h = refl
one_moment_answer c (Err NoSuchDate) (Err BeforeEpoch) g h = absurd (g h.0)
one_moment_answer c (Err NoSuchDate) (Err TooFar) g h = absurd (g h.0)
one_moment_answer c (Err BeforeEpoch) (Ok n) g h = absurd (not_before c n h.0 g.1)
one_moment_answer c (Err BeforeEpoch) (Err NoSuchDate) g h = absurd (h g.0)
one_moment_answer c (Err BeforeEpoch) (Err BeforeEpoch) g h = refl
one_moment_answer c (Err BeforeEpoch) (Err TooFar) g h = absurd (omega (arith, signed_arith, g.1, h.1))
one_moment_answer c (Err TooFar) (Ok n) g h = absurd (not_too_far c n h.0 h.1 g.1)
one_moment_answer c (Err TooFar) (Err NoSuchDate) g h = absurd (h g.0)
one_moment_answer c (Err TooFar) (Err BeforeEpoch) g h = absurd (omega (arith, signed_arith, g.1, h.1))
one_moment_answer c (Err TooFar) (Err TooFar) g h = refl

pos-same : (m n : ℕ) → pos m ≡ pos n → m ≡ n
pos-same m n e = cc

-- a GPS time has one date
pub one_civil : (b c : Civil) (m : ℕ) → IsCivilOf b m → IsCivilOf c m → b ≡ c
one_civil b c m of_b of_c =
    let same = epoch_day_injective (plain b of_b.exists) (plain c of_c.exists) (of_b.day ∙ sym of_c.day) in
    let time = same_time b.hour b.minute b.second c.hour c.minute c.second of_b.exists.2 of_b.exists.3 of_c.exists.2 of_c.exists.3 (of_b.time ∙ sym of_c.time) in
    let year : b.year ≡ c.year = pos-same _ _ same.0 in
    λ i. record { year = year i; month = same.1 i; day = same.2 i; hour = time.0 i; minute = time.1 i; second = time.2 i }

-- a small day number is the same as a signed number
pub as_day : (n : ℕ) → n ≤ 200000 → to_z w64 n ≡ pos n
as_day n h = back_small w64 (pos n) (omega arith)

-- a year of the calendar is the same as an unsigned number
pub as_year : (y : ℤ) → pos 1970 ≤ℤ y → y ≤ℤ pos 9999 → pos (unsigned_abs (to_z w16 (of_z w16 y))) ≡ y
as_year (pos n) from to = ap (λ z. pos (unsigned_abs z)) (back_small w16 (pos n) (omega (arith, signed_arith)))
as_year (negsuc n) from to = absurd (omega (arith, signed_arith))

-- and it fits one
pub year_fits : (y : ℤ) → pos 1970 ≤ℤ y → y ≤ℤ pos 9999
    → T (non_neg (to_z w16 (of_z w16 y))) × Fits w16 (unsigned_abs (to_z w16 (of_z w16 y)))
year_fits (pos n) from to =
    let fits : Fits w16 n = omega (arith, signed_arith) in
    let both : T (non_neg (pos n)) × Fits w16 (unsigned_abs (pos n)) = (tt, fits) in
    subst (λ (z : ℤ). T (non_neg z) × Fits w16 (unsigned_abs z)) (sym (back_small w16 (pos n) (omega (arith, signed_arith)))) both
year_fits (negsuc n) from to = absurd (omega (arith, signed_arith))

-- the days from the first day on to a day after it
pub days_after : (z : ℤ) → pos 3657 ≤ℤ z → z ≤ℤ pos 200000
    → pos 3657 +ℤ pos (unsigned_abs (to_z w32 (of_z w32 (to_z w32 (of_z w32 z) -ℤ pos 3657)))) ≡ z
days_after (pos n) from to =
    let small : n ≤ 200000 = omega (arith, signed_arith) in
    let least : 3657 ≤ n = omega (arith, signed_arith) in
    let back : to_z w32 (of_z w32 (pos n)) ≡ pos n = back_small w32 (pos n) (omega arith) in
    let less : pos n -ℤ pos 3657 ≡ pos (n - 3657) = omega (arith, signed_arith) in
    let again : to_z w32 (of_z w32 (pos (n - 3657))) ≡ pos (n - 3657) = back_small w32 (pos (n - 3657)) (omega arith) in
    let days : to_z w32 (of_z w32 (to_z w32 (of_z w32 (pos n)) -ℤ pos 3657)) ≡ pos (n - 3657) =
    ap (λ z. to_z w32 (of_z w32 (z -ℤ pos 3657))) back ∙ ap (λ z. to_z w32 (of_z w32 z)) less ∙ again in
    ap (λ z. pos 3657 +ℤ pos (unsigned_abs z)) days ∙ ap pos (let e : 3657 + (n - 3657) ≡ n = omega arith in e)
days_after (negsuc n) from to = absurd (omega (arith, signed_arith))

-- the day and the time of day make the date of a GPS time
pub civil-of : (d : Date) (y h m s n : ℕ) → pos y ≡ d.year → epoch_day d ≡ pos (3657 + n / 86400)
    → h ≡ n % 86400 / 3600 → m ≡ n % 86400 % 3600 / 60 → s ≡ n % 86400 % 60
    → IsCivilOf (record { year = y; month = d.month; day = d.day; hour = h; minute = m; second = s }) n
civil-of d y h m s n year day hour minute second =
    let same : days_from_civil (pos y) d.month d.day ≡ epoch_day d = ap (λ z. days_from_civil z d.month d.day) year in
    record {
      exists = (subst (λ (z : ℤ). IsCivilDate z d.month d.day) (sym year) (civil d), omega arith, omega arith, omega arith);
      day = same ∙ day ∙ sym (ap (λ z. z +ℤ pos (n / 86400)) first_day-is);
      time = omega arith;
    }

-- the days and the time of day make the GPS time of a date
pub moment-of : (c : Civil) (z : ℤ) (days time m : ℕ) → Exists c → z ≡ day_of c → pos 3657 +ℤ pos days ≡ z → days < 114688
    → time ≡ 3600 * c.hour + 60 * c.minute + c.second → m ≡ 86400 * days + time
    → IsCivilOf c m × (m < 9909043200)
moment-of c z days time m exists is after few of_day total =
    let hour : c.hour < 24 = exists.1 in
    let minute : c.minute < 60 = exists.2 in
    let second : c.second < 60 = exists.3 in
    let day : m / 86400 ≡ days = omega arith in (
      record {
        exists = exists;
        day = sym is ∙ sym after ∙ sym (ap (λ a. a +ℤ pos days) first_day-is) ∙ sym (ap (λ k. first_day +ℤ pos k) day);
        time = omega arith;
      },
      omega arith,
    )
