-- Executable counterparts of the code's computation of parity.
use Rattle.std.specs.Prelude.{◌≡◌, ℕ, zero, suc, ◌+◌, ◌-◌, ◌*◌, ◌%◌, ◌<◌, map, sum}
use Rattle.std.specs.Int.{bit_at}
use Rattle.lnav_subframe.specs.Parity.{d29_star, d30_star, row_25, row_26, row_27, row_28, row_29, row_30}

-- the sum of those of k bits at which the mask has ones
unfoldable pub masked_sum : ℕ → ℕ → (ℕ → ℕ) → ℕ
masked_sum zero mask digit = 0
masked_sum (suc k) mask digit = masked_sum k mask digit + bit_at mask k * digit k

-- parity is the six parity bits of these source bits, D25 the most significant
pub record IsParity (bits last parity : ℕ) : Type 0 where
  pub fits : parity < 64
  pub d25 : bit_at parity 5 ≡ (d29_star last + sum (map (λ n. bit_at bits (24 - n)) row_25)) % 2
  pub d26 : bit_at parity 4 ≡ (d30_star last + sum (map (λ n. bit_at bits (24 - n)) row_26)) % 2
  pub d27 : bit_at parity 3 ≡ (d29_star last + sum (map (λ n. bit_at bits (24 - n)) row_27)) % 2
  pub d28 : bit_at parity 2 ≡ (d30_star last + sum (map (λ n. bit_at bits (24 - n)) row_28)) % 2
  pub d29 : bit_at parity 1 ≡ (d30_star last + sum (map (λ n. bit_at bits (24 - n)) row_29)) % 2
  pub d30 : bit_at parity 0 ≡ (d29_star last + sum (map (λ n. bit_at bits (24 - n)) row_30)) % 2
