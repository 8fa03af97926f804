-- Sums of bits under the masks of the rows of the table, and over the rows.
use Rattle.std.proofs.Common.{◌≡◌, ℕ, ◌+◌, ◌-◌, ◌≤◌, map, sum, arith}
use Rattle.lnav_subframe.specs.ParityMirrors.{masked_sum}
use Rattle.lnav_subframe.specs.Parity.{row_25, row_26, row_27, row_28, row_29, row_30}

-- the masks are the rows of the table
pub masked_sum-row_25 : (f : ℕ → ℕ) → masked_sum 26 0x2EC7CD2 f ≡ f 25 + sum (map (λ n. f (24 - n)) row_25)
unfolding masked_sum
masked_sum-row_25 f = omega arith

pub masked_sum-row_26 : (f : ℕ → ℕ) → masked_sum 26 0x1763E69 f ≡ f 24 + sum (map (λ n. f (24 - n)) row_26)
unfolding masked_sum
masked_sum-row_26 f = omega arith

pub masked_sum-row_27 : (f : ℕ → ℕ) → masked_sum 26 0x2BB1F34 f ≡ f 25 + sum (map (λ n. f (24 - n)) row_27)
unfolding masked_sum
masked_sum-row_27 f = omega arith

pub masked_sum-row_28 : (f : ℕ → ℕ) → masked_sum 26 0x15D8F9A f ≡ f 24 + sum (map (λ n. f (24 - n)) row_28)
unfolding masked_sum
masked_sum-row_28 f = omega arith

pub masked_sum-row_29 : (f : ℕ → ℕ) → masked_sum 26 0x1AEC7CD f ≡ f 24 + sum (map (λ n. f (24 - n)) row_29)
unfolding masked_sum
masked_sum-row_29 f = omega arith

pub masked_sum-row_30 : (f : ℕ → ℕ) → masked_sum 26 0x22DEA27 f ≡ f 25 + sum (map (λ n. f (24 - n)) row_30)
unfolding masked_sum
masked_sum-row_30 f = omega arith

-- equal bits have equal sums over the rows
pub record SameSums (f g : ℕ → ℕ) : Type 0 where
  pub d25 : sum (map f row_25) ≡ sum (map g row_25)
  pub d26 : sum (map f row_26) ≡ sum (map g row_26)
  pub d27 : sum (map f row_27) ≡ sum (map g row_27)
  pub d28 : sum (map f row_28) ≡ sum (map g row_28)
  pub d29 : sum (map f row_29) ≡ sum (map g row_29)
  pub d30 : sum (map f row_30) ≡ sum (map g row_30)

pub same_sums : (f g : ℕ → ℕ) → ((n : ℕ) → 1 ≤ n → n ≤ 24 → f n ≡ g n) → SameSums f g
same_sums f g same = record {
  d25 = omega arith;
  d26 = omega arith;
  d27 = omega arith;
  d28 = omega arith;
  d29 = omega arith;
  d30 = omega arith;
}
