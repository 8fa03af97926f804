use Rattle.std.proofs.Common.{rules}
use Rattle.whole_file.proofs.gathered.Gathered.finish.Goals as goal

pub returns-clause-out : goal.returns-clause-out
returns-clause-out g c = search rules
