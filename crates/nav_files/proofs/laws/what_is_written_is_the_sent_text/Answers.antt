use Rattle.nav_files.proofs.Tolds.{texts_are}
use Rattle.nav_files.proofs.laws.what_is_written_is_the_sent_text.Goals as goal

pub returns : goal.returns
returns c = λ r slot reads. texts_are r slot reads
