use Rattle.std.proofs.Common.{ap, ◌∙◌, arith}
use Rattle.std.specs.Int.Bits.{bit_xor}
use Rattle.std.proofs.lemmas.Nat.{xor_lt}
use Rattle.framing.specs.SbfRegister.{stepped}
use Rattle.framing.proofs.SbfCrcSteps.{bit_step, no_bits}
use Rattle.framing.proofs.sbf_register.moved_by.Goals as goal

pub loop-k-init : goal.loop-k-init
loop-k-init c = record {
  sum = λ n is. no_bits n c.args.state c.requires.state;
  fits = omega arith;
}

pub loop-k-preserved : goal.loop-k-preserved
loop-k-preserved c = record {
  sum = λ n is.
      ap (λ x. bit_xor x c.bit_times.result) c.moved_1.ensures.value
      ∙ ap (bit_xor (stepped c.loop-k.sum)) c.bit_times.ensures.value
      ∙ bit_step n c.args.state c.loop-k.k c.loop-k.sum c.args.power c.requires.state
      c.requires.power c.loop-k-test.true is (c.loop-k.invariant.sum n is);
  fits = xor_lt 16 c.moved_1.result c.bit_times.result c.moved_1.ensures.fits
      c.bit_times.ensures.fits;
}
