-- Numbers of at most 32 bits.
use Rattle.std.proofs.Common.{◌≤◌, ◌<◌, ◌-◌, ◌^◌, ℕ, ℤ, arith}
use Rattle.std.proofs.lemmas.Int.{ints}
use Rattle.std.proofs.Math.Pow.{pow_mono}
use Rattle.nav_bits.specs.Signed.{IsSigned}

pub in_32 : (w : ℕ) (z : ℤ) → w ≤ 32 → IsSigned w z → IsSigned 32 z
in_32 w z few h =
    let small : 2 ^ (w - 1) ≤ 2 ^ 31 = pow_mono {i = w - 1} {j = 31} (omega (arith, few)) in
    (omega (arith, ints, small, h.0), omega (arith, ints, small, h.1))

pub below_32 : (w n : ℕ) → w ≤ 32 → n < 2 ^ w → n < 2 ^ 32
below_32 w n few h =
    let small : 2 ^ w ≤ 2 ^ 32 = pow_mono few in
    omega (arith, small, h)
