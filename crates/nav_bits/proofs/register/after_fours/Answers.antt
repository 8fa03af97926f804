use Rattle.std.proofs.Common.{◌+◌, ◌*◌, ◌∙◌, arith}
use Rattle.nav_bits.proofs.StepLemmas.{four_step}
use Rattle.nav_bits.proofs.register.after_fours.Goals as goal

pub loop-i-preserved : goal.loop-i-preserved
loop-i-preserved c = (
  four_step c.loop-i.state c.with_four-state.result (4 * c.loop-i.i) (4 * (c.loop-i.i + 1)) c.args.bytes.now (omega arith) (omega arith) c.with_four-state.ensures.value
      ∙ c.loop-i.invariant.0,
  c.with_four-state.ensures.fits,
)
