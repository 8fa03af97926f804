use Rattle.std.proofs.Common.{◌≡◌, ◌+◌, ◌*◌, ◌∙◌, ap, sym, drop, arith}
use Rattle.nav_bits.specs.Register.{crc_from}
use Rattle.nav_bits.proofs.register.after_sixteens.Goals as goal

pub loop-i-preserved : goal.loop-i-preserved
loop-i-preserved c =
    let place : 16 * c.loop-i.i + 16 ≡ 16 * (c.loop-i.i + 1) = omega arith in (
      ap (λ n. crc_from c.with_sixteen-state.result (drop n c.args.bytes.now)) (sym place) ∙ c.with_sixteen-state.ensures.value ∙ c.loop-i.invariant.0,
      c.with_sixteen-state.ensures.fits,
    )
