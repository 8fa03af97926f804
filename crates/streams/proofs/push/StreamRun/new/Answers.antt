use Rattle.streams.proofs.Pushing.{pushed_none}
use Rattle.streams.proofs.push.StreamRun.new.Goals as goal

pub returns-in-Ok-clause-pushed : goal.returns-in-Ok-clause-pushed
returns-in-Ok-clause-pushed g c begun =
    pushed_none _ _ _ begun c.new-deframer.ensures.rest (c.new-given.ensures.none, c.new-given.ensures.kept) c.new-counts.ensures c.in-Ok.ensures.bytes
