use Rattle.nav_tables.proofs.Surface.{good_table}
use Rattle.c_calls.proofs.message.message_size.Goals as goal

pub returns-clause-few : goal.returns-clause-few
returns-clause-few c = (good_table c.args.kind.now.table c.requires.table).small
