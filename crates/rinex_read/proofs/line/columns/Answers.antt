use Rattle.std.proofs.Common.{◌+◌, ◌-◌, arith}
use Rattle.rinex_read.proofs.LineLemmas.{columns_of}
use Rattle.rinex_read.proofs.line.columns.Goals as goal

pub returns-clause-text : goal.returns-clause-text
returns-clause-text c = columns_of c.args.place c.args.count (c.args.place + c.args.count - c.args.place) c.args.line.now (omega arith) (omega arith)
