use Rattle.std.proofs.Common.{sym, ap, ap₂, ◌∙◌, min}
use Rattle.nav_tables.specs.Days.{nearer}
use Rattle.nav_tables.proofs.NearLemmas.{nearest_of_three}
use Rattle.nav_tables.proofs.day.nearest_day.Goals as goal

pub returns : goal.returns
returns c =
    c.nearer.ensures
    ∙ ap₂ (nearer c.args.center)
    (c.nearer-days.ensures
    ∙ ap₂ (nearer c.args.center) c.day_of_number.ensures c.day_of_number-2.ensures)
    c.day_of_number-3.ensures
    ∙ sym (nearest_of_three c.args.center c.args.number c.min.result c.number_of_day-period.result.0
    (c.min.ensures ∙ ap (λ d. min d 56972) c.max.ensures) c.number_of_day-period.ensures.period)
