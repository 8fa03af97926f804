use Rattle.std.proofs.Common.{◌≡◌, ◌+◌, ◌*◌, ◌^◌, subst, ◌∙◌, arith}
use Rattle.nav_bits.specs.Bits.{number_at}
use Rattle.nav_bits.specs.Division.{IsCrc}
use Rattle.nav_bits.proofs.MessageLemmas.{no_bits, bit_more, digit_is}
use Rattle.nav_bits.proofs.message.after_last_bits.Goals as goal

pub loop-k-init : goal.loop-k-init
loop-k-init c = (λ p is. no_bits c.args.bytes.now p (8 * c.args.byte + c.args.skip) c.args.state is, c.requires.state)

pub loop-k-preserved : goal.loop-k-preserved
loop-k-preserved c = (
  λ p is.
      bit_more c.args.bytes.now p (8 * c.args.byte + c.args.skip) c.loop-k.k c.from.result c.with_bit-state.result
      (c.from.ensures ∙ digit_is c.args.bytes.now c.args.byte c.args.skip c.loop-k.k)
      (c.with_bit-state.ensures.grows _ (c.loop-k.invariant.0 p is)),
  c.with_bit-state.ensures.fits,
)

pub returns : goal.returns
returns c p is =
    let all : c.loop-k.k ≡ c.args.count = omega arith in
    subst (λ n. IsCrc (p * 2 ^ n + number_at c.args.bytes.now (8 * c.args.byte + c.args.skip) n) c.loop-k.state) all (c.loop-k.invariant.0 p is)
