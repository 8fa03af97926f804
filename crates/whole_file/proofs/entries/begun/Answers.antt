use Rattle.std.proofs.Common.{rules}
use Rattle.whole_file.proofs.entries.begun.Goals as goal

pub returns-in-Ok-clause-none : goal.returns-in-Ok-clause-none
returns-in-Ok-clause-none c = search rules
