use Rattle.file_conversion.proofs.Beginning.{reads_of}
use Rattle.file_conversion.proofs.table.task_for.Goals as goal

pub returns-clause-reads : goal.returns-clause-reads
returns-clause-reads c = rw c.row_of.ensures (reads_of c.args.plan.now c.args.kind)
