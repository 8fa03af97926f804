use Rattle.nav_tables.proofs.LinkLemmas.{fit_all}
use Rattle.nav_tables.proofs.link_laws.numbers_in_range_fit.Goals as goal

pub returns : goal.returns
returns c = fit_all
