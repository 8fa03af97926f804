use Rattle.file_conversion.proofs.Beginning.{begun_of, stopped_of}
use Rattle.file_conversion.proofs.begun.begin.Goals as goal

pub returns-in-Ok-clause-begun : goal.returns-in-Ok-clause-begun
returns-in-Ok-clause-begun g c =
    begun_of _ c.in-Ok.field-0 _ _ _ _ c.new-input.ensures.left c.in-Ok.ensures.left
    (rw c.new-input.ensures.source at c.in-Ok.ensures.ready) c.reading_of.ensures.left

pub returns-in-Ok-clause-form : goal.returns-in-Ok-clause-form
returns-in-Ok-clause-form g c = rw c.new-input.ensures.source at c.in-Ok.ensures.ready.kind

pub returns-in-Err-clause-stopped : goal.returns-in-Err-clause-stopped
returns-in-Err-clause-stopped g c =
    rw c.into_source.ensures (stopped_of _ _ _ _ _ _ c.stopped.ensures.done (rw c.new-input.ensures.source at c.in-Err.ensures.complete)
    (rw c.new-input.ensures.source at c.in-Err.ensures.none))

pub returns-in-Err-clause-ahead : goal.returns-in-Err-clause-ahead
returns-in-Err-clause-ahead g c =
    rw c.into_source.ensures (rw c.stopped.ensures.done (rw c.new-input.ensures.source at c.in-Err.ensures.ahead))
