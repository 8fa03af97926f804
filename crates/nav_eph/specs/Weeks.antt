-- Weeks counted from 1980-01-06, GPS times as seconds from its start, and the weeks and times that
-- truncated numbers mean.
use Rattle.std.specs.Prelude.{◌≡◌, ℕ, ◌+◌, ◌-◌, ◌/◌, ◌%◌, ◌<◌, ◌≤◌, max}

-- n is a reference week: 1024 to 8191, after one and before eight rollovers of the ten-bit week number
abbrev pub IsReference : ℕ → Type 0
IsReference n = (1024 ≤ n) × (n ≤ 8191)

-- n is a week that has a week before it and one after it
abbrev pub IsWeek : ℕ → Type 0
IsWeek n = (1 ≤ n) × (n ≤ 16382)

-- n is a time of week in seconds
abbrev pub IsSecond : ℕ → Type 0
IsSecond n = n < 604800

-- n is a GPS time of the first 16,384 weeks, which have 9,909,043,200 seconds
abbrev pub IsMoment : ℕ → Type 0
IsMoment n = n < 9909043200

-- the week of a GPS time
abbrev pub week_of : ℕ → ℕ
week_of m = m / 604800

-- its time of week
abbrev pub second_of : ℕ → ℕ
second_of m = m % 604800

-- w is one of the 1024 weeks for which ten bits can stand near the reference week r
pub record IsNearGps (r w : ℕ) : Type 0 where
  pub from : r ≤ w + 512
  pub to : w ≤ r + 511

-- w is one of the 4096 weeks for which twelve bits can stand near the reference week r
pub record IsNearGalileo (r w : ℕ) : Type 0 where
  pub from : max 1024 (r - 2048) ≤ w
  pub to : w ≤ max 1024 (r - 2048) + 4095

-- w is the GPS week of the ten-bit week number n near the reference week r (IS-GPS-200, 20.3.3.3.1.1)
pub record IsGpsWeek (r n w : ℕ) : Type 0 where
  pub same : w % 1024 ≡ n % 1024
  pub from : r ≤ w + 512
  pub to : w ≤ r + 511

-- w is the GPS week of the twelve-bit Galileo week number n near the reference week r: Galileo week 0 is GPS week 1024
-- (Galileo OS SIS ICD, 5.1.2)
pub record IsGalileoWeek (r n w : ℕ) : Type 0 where
  pub same : w % 4096 ≡ (n + 1024) % 4096
  pub from : max 1024 (r - 2048) ≤ w
  pub to : w ≤ max 1024 (r - 2048) + 4095

-- m is the GPS time with this time of week nearest to t, the later one of two equally near
pub record IsNearestMoment (t second m : ℕ) : Type 0 where
  pub second_is : second_of m ≡ second
  pub from : t < m + 302400
  pub to : m ≤ t + 302400
