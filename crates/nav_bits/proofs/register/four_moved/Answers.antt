use Rattle.std.proofs.Common.{◌≡◌, ℕ, ◌+◌, ◌*◌, ◌∙◌, ap, arith}
use Rattle.nav_bits.specs.Register.{shift}
use Rattle.nav_bits.proofs.LookupLemmas.{four_far}
use Rattle.nav_bits.proofs.register.four_moved.Goals as goal

-- each look-up advances by so many bits
by : (n k i r x : ℕ) → r ≡ shift (40 + 8 * (n + i)) x → 8 + 8 * i ≡ k → r ≡ shift (32 + 8 * n + k) x
by n k i r x is step =
    let places : 40 + 8 * (n + i) ≡ 32 + 8 * n + k = omega arith in
    is ∙ ap (λ m. shift m x) places

first_by : (n r x : ℕ) → r ≡ shift (40 + 8 * n) x → r ≡ shift (32 + 8 * n + 8) x
first_by n r x is =
    let places : 40 + 8 * n ≡ 32 + 8 * n + 8 = omega arith in
    is ∙ ap (λ m. shift m x) places

pub returns : goal.returns
returns c =
    let n = c.args.n in
    four_far (32 + 8 * n) c.args.state c.args.a c.args.b c.args.c c.args.d _ _ _ _ c.requires.state c.ranges.a.fits c.ranges.b.fits c.ranges.c.fits c.ranges.d.fits
    (by n 32 3 _ _ c.moved_far.ensures (omega arith)) (by n 24 2 _ _ c.moved_far-2.ensures (omega arith)) (by n 16 1 _ _ c.moved_far-3.ensures (omega arith))
    (first_by n _ _ c.moved_far-4.ensures)
