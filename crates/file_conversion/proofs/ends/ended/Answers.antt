use Rattle.file_conversion.proofs.Closing.{ended_by}
use Rattle.file_conversion.proofs.ends.ended.Goals as goal

pub returns-clause-done : goal.returns-clause-done
returns-clause-done g c = rw c.stopped_by.ensures (ended_by _ _ _)
