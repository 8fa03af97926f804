-- The functions of weeks and of the nearest GPS time give what the relations describe, and nothing else does.
use Rattle.std.proofs.Common.{◌≡◌, ℕ, ◌<◌, ◌≤◌, arith}
use Rattle.nav_eph.specs.Weeks.{IsGalileoWeek, IsGpsWeek, IsNearestMoment, IsReference, IsSecond}
use Rattle.nav_eph.specs.Functions.{galileo_week_to, gps_week_to, moment_near}

-- `gps_week_to` gives the week of a GPS week number
pub gps_week-meant : (r n : ℕ) → IsReference r → n < 1024 → IsGpsWeek r n (gps_week_to r n)
unfolding gps_week_to
gps_week-meant r n reference small = record { same = omega (arith, reference.0); from = omega (arith, reference.0); to = omega (arith, reference.0) }

pub gps_week-only : (r n w : ℕ) → IsGpsWeek r n w → w ≡ gps_week_to r n
unfolding gps_week_to
gps_week-only r n w is = omega (arith, is.same, is.from, is.to)

-- `galileo_week_to` gives the week of a Galileo week number
pub galileo_week-meant : (r n : ℕ) → IsReference r → n < 4096 → IsGalileoWeek r n (galileo_week_to r n)
unfolding galileo_week_to
galileo_week-meant r n reference small = record { same = omega arith; from = omega arith; to = omega arith }

pub galileo_week-only : (r n w : ℕ) → IsGalileoWeek r n w → w ≡ galileo_week_to r n
unfolding galileo_week_to
galileo_week-only r n w is = omega (arith, is.same, is.from, is.to)

-- `moment_near` gives the nearest GPS time
pub moment_near-nearest : (t second : ℕ) → 604800 ≤ t → IsSecond second → IsNearestMoment t second (moment_near t second)
unfolding moment_near
moment_near-nearest t second late small = record { second_is = omega arith; from = omega arith; to = omega arith }

pub moment_near-only : (t second m : ℕ) → IsNearestMoment t second m → m ≡ moment_near t second
unfolding moment_near
moment_near-only t second m is = omega (arith, is.second_is, is.from, is.to)
