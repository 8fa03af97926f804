use Rattle.std.proofs.Common.{◌+◌, ap₂, sym, subst, ◌∙◌}
use Rattle.nav_eph.specs.Functions.{first_from}
use Rattle.nav_tables.specs.Weeks.{IsWeekNear, week_to}
use Rattle.nav_tables.proofs.WeekLemmas.{near_is}
use Rattle.nav_tables.proofs.week.week_near.Goals as goal

pub returns-clause-value : goal.returns-clause-value
unfolding week_to
returns-clause-value c =
    c.from_number.ensures ∙ c.first_from.ensures.same
    ∙ ap₂ (λ p low. first_from p low (c.args.number + c.args.rule.now.zero))
    c.rollover-rollover.ensures.same c.first_week-low.ensures.same

pub returns-clause-week : goal.returns-clause-week
returns-clause-week c =
    subst (λ w. IsWeekNear c.args.rule.now c.args.reference c.args.number w)
    (sym (returns-clause-value c)) (near_is c.args.rule.now c.args.reference c.args.number)
