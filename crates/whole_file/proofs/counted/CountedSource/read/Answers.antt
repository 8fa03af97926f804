use Rattle.std.proofs.Common.{rules}
use Rattle.whole_file.proofs.counted.CountedSource.read.Goals as goal

pub returns-clause-counts : goal.returns-clause-counts
returns-clause-counts g c = search rules
