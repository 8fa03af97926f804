use Rattle.std.proofs.Common.{rules}
use Rattle.whole_file.proofs.entries.published.Goals as goal

pub returns-in-Ok-clause-put : goal.returns-in-Ok-clause-put
returns-in-Ok-clause-put c = search rules
