use Rattle.std.proofs.Common.{◌≡◌, ℕ, ◌*◌, ◌^◌, ◌<◌, sym, arith}
use Rattle.std.proofs.lemmas.Nat.{xor_lt}
use Rattle.nav_bits.specs.Register.{shift}
use Rattle.nav_bits.proofs.RegisterLaws.{shift-zero}
use Rattle.nav_bits.proofs.MoverLemmas.{two_more, even_is, odd_is}
use Rattle.nav_bits.proofs.mover.fill.Goals as goal

pub loop-half-init : goal.loop-half-init
loop-half-init c = record {
  some = omega arith;
  fits = two_more (λ d x. x < 2 ^ 24) c.args.entries.now 0 0 c.args.one (omega arith) (λ d h. absurd (omega arith)) (omega arith) c.requires;
  values = λ n is. two_more (λ d x. x ≡ shift n d) c.args.entries.now 0 0 c.args.one (omega arith) (λ d h. absurd (omega arith)) (sym (shift-zero n)) is;
}

pub loop-half-preserved : goal.loop-half-preserved
loop-half-preserved c =
    let half : ℕ = c.loop-half.half in
    let even : ℕ = c.moved_1-even.result in
    record {
      some = omega arith;
      fits =
          two_more (λ d x. x < 2 ^ 24) c.loop-half.entries half even _ (omega arith) c.loop-half.invariant.fits c.moved_1-even.ensures.fits
          (xor_lt 24 even c.args.one c.moved_1-even.ensures.fits c.requires);
      values = λ n is.
          let even_is_it : even ≡ shift n (2 * half) =
          even_is n half _ even (omega arith) (c.loop-half.invariant.values n is half (omega (arith, c.loop-half.invariant.some))) c.moved_1-even.ensures.value in
          two_more (λ d x. x ≡ shift n d) c.loop-half.entries half even _ (omega arith) (c.loop-half.invariant.values n is) even_is_it
          (odd_is n half even c.args.one (omega arith) even_is_it is);
    }
