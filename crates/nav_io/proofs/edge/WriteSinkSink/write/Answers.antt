use Rattle.std.proofs.Common.{◌∙◌}
use Rattle.nav_io.proofs.Prefixes.{prefix_more}
use Rattle.nav_io.proofs.edge.WriteSinkSink.write.Goals as goal

pub loop-rest-preserved : goal.loop-rest-preserved
loop-rest-preserved g c = (
  prefix_more _ _ _ _ _ _ _ c.loop-rest.invariant.0.1 c.loop-rest.invariant.0.2 c.in-Ok.ensures.bytes,
  c.in-Ok.ensures.cause.stays ∙ c.loop-rest.invariant.1,
)
