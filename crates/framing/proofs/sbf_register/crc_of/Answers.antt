use Rattle.std.proofs.Common.{get_or, sym, ap, refl, ◌∙◌, arith}
use Rattle.framing.specs.SbfRegister.{crc_from, with_byte_of}
use Rattle.framing.proofs.SbfCrcSteps.{crc_next}
use Rattle.framing.proofs.sbf_register.crc_of.Goals as goal

pub loop-byte-init : goal.loop-byte-init
unfolding crc_from
loop-byte-init c = record { state = refl; fits = omega arith }

pub loop-byte-preserved : goal.loop-byte-preserved
loop-byte-preserved c = record {
  state =
      c.with_byte-state.ensures.value
      ∙ ap (λ r. with_byte_of r (get_or c.args.bytes.now c.loop-byte.byte-index 0))
      c.loop-byte.invariant.state
      ∙ sym (crc_next 0 c.args.bytes.now c.loop-byte.byte-index (omega arith));
  fits = c.with_byte-state.ensures.fits;
}
