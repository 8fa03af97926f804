use Rattle.std.proofs.Common.{arith}
use Rattle.nav_tables.proofs.WeekLemmas.{good_rule}
use Rattle.nav_tables.proofs.week.rollover.Goals as goal

pub returns-clause-some : goal.returns-clause-some
returns-clause-some c = let g
    = good_rule c.args.rule.now c.requires in omega (arith, g.some, g.most)

pub returns-clause-most : goal.returns-clause-most
returns-clause-most c = let g
    = good_rule c.args.rule.now c.requires in omega (arith, g.some, g.most)
