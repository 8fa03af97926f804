use Rattle.nav_tables.proofs.MessageLemmas.{read_in_range}
use Rattle.nav_tables.proofs.laws.numbers_are_in_range.Goals as goal

pub returns : goal.returns
returns c = read_in_range
