use Rattle.all_systems.proofs.Wrote.{prefix_part, writes_behind}
use Rattle.all_systems.proofs.file_text.write_behind.Goals as goal

pub returns-in-Ok : goal.returns-in-Ok
returns-in-Ok g c = writes_behind _ _ _ _ _ _ _ _ _ c.in-Ok.ensures.bytes c.in-Ok.ensures.cause.stays c.end.ensures

pub returns-in-Err : goal.returns-in-Err
returns-in-Err g c = record { bytes = prefix_part _ _ _ _ c.in-Err.ensures.bytes; cause = c.in-Err.ensures.cause }
