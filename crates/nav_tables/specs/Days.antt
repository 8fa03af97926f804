-- Days of GLONASS: the number of a period of four years, and the day in it. Days are counted from
-- 1980-01-06.
use Rattle.std.specs.Prelude.{◌≡◌, ℕ, zero, suc, ◌+◌, ◌-◌, ◌*◌, ◌/◌, ◌≤◌, ◌&&◌, nat_le, nat_lt}
use Rattle.std.specs.Prelude.{nat_eq, if◌then◌else◌, Option, Some, None}

-- 1 January of the year 1992 + 4 n: 2100 is no leap year
abbrev pub start : ℕ → ℕ
start n = 4378 + 1461 * n - (if nat_lt n 28 then 0 else 1)

-- the days of the four years from then on
abbrev pub days_of : ℕ → ℕ
days_of n = if nat_eq n 27 then 1460 else 1461

-- day number nt of period n, if there is one
abbrev pub day_of_number : ℕ → ℕ → Option ℕ
day_of_number n nt = if nat_le 1 nt && nat_le nt (days_of n) then Some (start n + nt - 1) else None

-- how far apart two days are
abbrev pub distance : ℕ → ℕ → ℕ
distance a b = (a - b) + (b - a)

-- the nearer of two days, the first of two equally near
abbrev pub nearer : ℕ → Option ℕ → Option ℕ → Option ℕ
nearer c a None = a
nearer c None (Some b) = Some b
nearer c (Some a) (Some b) = if nat_lt (distance c b) (distance c a) then Some b else Some a

-- of the periods 1 to k the day of number nt nearest to day c, the earlier of two
unfoldable pub nearest_to : ℕ → ℕ → ℕ → Option ℕ
nearest_to c nt zero = None
nearest_to c nt (suc k) = nearer c (nearest_to c nt k) (day_of_number (suc k) nt)

-- a day has this number in some period up to k, and no other such day is nearer
pub record IsNearestDay (c nt k d : ℕ) : Type 0 where
  pub period : ℕ
  pub some : 1 ≤ period
  pub few : period ≤ k
  pub has : day_of_number period nt ≡ Some d
  pub least : (j e : ℕ) → 1 ≤ j → j ≤ k → day_of_number j nt ≡ Some e → distance c d ≤ distance c e
  pub first : (j e : ℕ) → 1 ≤ j → j ≤ k → day_of_number j nt ≡ Some e → distance c e ≡ distance c d
      → d ≤ e

-- the period of a day; 45285 is 1 January 2104
abbrev pub period_of : ℕ → ℕ
period_of day = ((if nat_lt day 45285 then day else day + 1) - 4378) / 1461
