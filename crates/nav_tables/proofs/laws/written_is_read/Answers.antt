use Rattle.nav_tables.proofs.MessageLemmas.{written_read}
use Rattle.nav_tables.proofs.laws.written_is_read.Goals as goal

pub returns : goal.returns
returns c = written_read
