use Rattle.std.proofs.Common.{◌≡◌, ℕ, ◌%◌, arith}
use Rattle.nav_eph.specs.Weeks.{IsGpsWeek}
use Rattle.nav_eph.specs.Functions.{gps_week_to}
use Rattle.nav_eph.proofs.Surface.{gps_week-only}
use Rattle.nav_eph.specs.Conditions.{wn_of}
use Rattle.periods.proofs.digest_finding.gps_moment_near.Goals as goal

-- a week number and its ten low bits are resolved to the same week
week_of_low : (r n low w : ℕ) → low ≡ n % 1024 → IsGpsWeek r low w → w ≡ gps_week_to r n
week_of_low r n low w e h = gps_week-only r n w (record { same = omega (arith, h.same); from = h.from; to = h.to })

pub returns-clause-same : goal.returns-clause-same
returns-clause-same c =
    let low : c.from_bits.result ≡ wn_of c.args.tag.now % 1024 = grind arith in
    let week : c.gps_week-week.result ≡ gps_week_to c.args.r (wn_of c.args.tag.now) =
    week_of_low c.args.r (wn_of c.args.tag.now) c.from_bits.result c.gps_week-week.result low c.gps_week-week.ensures in
    grind (arith, week)
