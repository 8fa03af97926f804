use Rattle.std.proofs.Common.{rules}
use Rattle.whole_file.specs.Kinds.{rinex_kind}
use Rattle.whole_file.proofs.kinds.rinex_kind.Goals as goal

pub returns-in-52 : goal.returns-in-52
unfolding rinex_kind
returns-in-52 c = search rules
