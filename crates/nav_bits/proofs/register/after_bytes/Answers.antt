use Rattle.std.proofs.Common.{◌∙◌, sym}
use Rattle.nav_bits.proofs.StepLemmas.{byte_step, no_bytes_left}
use Rattle.nav_bits.proofs.register.after_bytes.Goals as goal

pub loop-byte-preserved : goal.loop-byte-preserved
loop-byte-preserved c = (
  byte_step c.loop-byte.state c.with_byte-state.result c.loop-byte.byte-index _ c.loop-byte-test.true c.with_byte-state.ensures.value ∙ c.loop-byte.invariant.0,
  c.with_byte-state.ensures.fits,
)

pub returns-clause-value : goal.returns-clause-value
returns-clause-value c = sym (no_bytes_left c.loop-byte.state c.loop-byte.byte-index _ c.loop-byte-test.false) ∙ c.loop-byte.invariant.0
