use Rattle.std.proofs.Common.{◌≡◌, arith}
use Rattle.nav_eph.specs.Functions.{galileo_week_to}
use Rattle.nav_eph.proofs.Surface.{galileo_week-only}
use Rattle.periods.proofs.digest_finding.gal_moment_at.Goals as goal

pub returns-clause-same : goal.returns-clause-same
returns-clause-same c =
    let week : c.gal_week-week.result ≡ galileo_week_to c.args.r c.args.wn = galileo_week-only c.args.r c.args.wn c.gal_week-week.result c.gal_week-week.ensures in
    grind (arith, week)
