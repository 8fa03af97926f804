use Rattle.std.proofs.Common.{arith, rules, ◌∙◌}
use Rattle.std.proofs.lemmas.Grind.{common_steps}
use Rattle.whole_file.proofs.Gathering.{out_seen}
use Rattle.whole_file.proofs.gathered.Gathered.put_out.Goals as goal

pub loop-self-preserved : goal.loop-self-preserved
loop-self-preserved g c = (
  out_seen _ _ _ _ _ _ _ c.deref.ensures.value c.loop-self.invariant.0 c.in-Ok.ensures.bytes,
  c.in-Ok.ensures.cause.stays ∙ c.loop-self.invariant.1,
  c.loop-self.invariant.2,
)

pub returns-clause-none_lost : goal.returns-clause-none_lost
returns-clause-none_lost g c = grind (arith, common_steps)

pub returns-clause-out : goal.returns-clause-out
returns-clause-out g c = search rules
