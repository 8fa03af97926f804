use Rattle.navconvert.proofs.Commanded.{no_memory}
use Rattle.navconvert.proofs.command.read_words.Goals as goal

pub returns-in-Err : goal.returns-in-Err
returns-in-Err c = no_memory _ _ c.from.ensures
