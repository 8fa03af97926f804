use Rattle.nav_tables.proofs.MessageLemmas.{read_written}
use Rattle.nav_tables.proofs.laws.read_is_written.Goals as goal

pub returns : goal.returns
returns c = read_written
