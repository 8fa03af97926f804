use Rattle.std.proofs.Common.{sym}
use Rattle.nav_tables.proofs.DayLemmas.{day_of_few}
use Rattle.nav_tables.proofs.times.times_of.Goals as goal

pub times_on-requires-clause-from : goal.times_on-requires-clause-from
times_on-requires-clause-from c
    = (day_of_few c.args.time.now c.args.reference c.in-Some.day c.requires.period
    (sym c.in-Some.ensures)).0

pub times_on-requires-clause-to : goal.times_on-requires-clause-to
times_on-requires-clause-to c
    = (day_of_few c.args.time.now c.args.reference c.in-Some.day c.requires.period
    (sym c.in-Some.ensures)).1
