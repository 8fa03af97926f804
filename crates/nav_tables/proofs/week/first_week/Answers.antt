use Rattle.std.proofs.Common.{arith}
use Rattle.nav_tables.proofs.WeekLemmas.{good_rule}
use Rattle.nav_tables.proofs.week.first_week.Goals as goal

pub returns-clause-most : goal.returns-clause-most
returns-clause-most c = let g
    = good_rule c.args.rule.now c.requires.rule in omega (arith, g.some, g.zero_few)
