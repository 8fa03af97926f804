use Rattle.std.proofs.Common.{arith}
use Rattle.receiver_log.proofs.SourceSteps.{reads_given, reads_keep, reads_length}
use Rattle.receiver_log.proofs.source.LogSourceSource.read.Goals as goal

pub returns-in-Ok-true-clause-bytes : goal.returns-in-Ok-true-clause-bytes
returns-in-Ok-true-clause-bytes g c = (
  reads_given g.J.Judge.heading g.J.Receiver.said _ _ _ _ _ _ _ _ _ c.give.result _
      c.in-Ok-true.ensures.reads.reads c.give.ensures.view c.give.ensures.bytes c.give.ensures.rest,
  λ none room.
      let some = c.give.ensures.some room (c.in-Ok-true.ensures.some c.in-Ok-true.field-0-test) in
      absurd (omega (arith, none, some)),
)

pub returns-then-eq-clause-bytes : goal.returns-then-eq-clause-bytes
returns-then-eq-clause-bytes g c =
    reads_keep g.J.Judge.heading g.J.Receiver.said _ _ _ _ _ _ _ c.in-Err.ensures.stopped.reads

pub returns-else-eq-clause-bytes : goal.returns-else-eq-clause-bytes
returns-else-eq-clause-bytes g c =
    reads_keep g.J.Judge.heading g.J.Receiver.said _ _ _ _ _ _ _ c.in-Err.ensures.stopped.reads

pub returns-else-eq-clause-log_length : goal.returns-else-eq-clause-log_length
returns-else-eq-clause-log_length g c =
    reads_length g.J.Judge.heading g.J.Receiver.said _ _ _ _ _ _ _ c.in-Err.ensures.stopped.reads
