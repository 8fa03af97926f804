use Rattle.std.proofs.Common.{ap, ◌∙◌}
use Rattle.nav_eph.specs.Weeks.{week_of}
use Rattle.nav_eph.proofs.Surface.{moment_near-only}
use Rattle.periods.proofs.digest_finding.toe_and_sent.Goals as goal

pub returns-in-Sent-clause-week : goal.returns-in-Sent-clause-week
returns-in-Sent-clause-week c =
    c.from_number-week.ensures ∙ c.week.ensures ∙ ap week_of (moment_near-only c.args.moment c.args.toe_second c.nearest_moment.result c.nearest_moment.ensures)

pub returns-in-Toe-clause-week : goal.returns-in-Toe-clause-week
returns-in-Toe-clause-week c =
    c.from_number-week.ensures ∙ c.week.ensures ∙ ap week_of (moment_near-only c.args.moment c.args.toe_second c.nearest_moment.result c.nearest_moment.ensures)
