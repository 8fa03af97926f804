use Rattle.std.proofs.Common.{rules}
use Rattle.c_calls.proofs.Prefixes.{appended}
use Rattle.c_calls.proofs.fixed.FixedSink.write.Goals as goal

pub returns-clause-bytes : goal.returns-clause-bytes
returns-clause-bytes c = appended c.min-count.result c.args.self.now.bytes c.append.new.bytes.items c.args.piece.now (search rules)
