use Rattle.nav_tables.proofs.DayLemmas.{times_near}
use Rattle.nav_tables.proofs.day_laws.times_come_back.Goals as goal

pub returns-clause-near : goal.returns-clause-near
returns-clause-near c = times_near
