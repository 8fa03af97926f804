-- A word with right parity has wrong parity once inverted.
use Rattle.std.proofs.Common.{◌≡◌, ℕ, ◌+◌, ◌-◌, ◌%◌, map, sum, refl, arith}
use Rattle.std.specs.Int.{bit_at}
use Rattle.std.specs.Int.Bits.{bit_xor}
use Rattle.std.proofs.lemmas.Nat.Bits.{bit_at-lt, bit_at_xor}
use Rattle.lnav_subframe.specs.Parity.{source, d29_star, d30_star, row_25, row_29, IsGood}
use Rattle.receiver_log.specs.Words.{data_mask, whole_mask}

-- the difference of the two masks: the parity bits
abbrev pub parity_mask : ℕ
parity_mask = 0x3F

inverted : (u m last n : ℕ) → bit_at m (30 - n) ≡ 1
    → source u last n + source (bit_xor u m) last n ≡ 1
inverted u m last n one = omega (
  arith,
  bit_at_xor u m (30 - n),
  bit_at-lt u
      (30 - n),
  bit_at-lt last 0,
)

kept : (u m last n : ℕ) → bit_at m (30 - n) ≡ 0 → source (bit_xor u m) last n ≡ source u last n
kept u m last n none = omega (arith, bit_at_xor u m (30 - n), bit_at-lt u (30 - n))

bit_inverted : (u m i : ℕ) → bit_at m i ≡ 1 → bit_at u i + bit_at (bit_xor u m) i ≡ 1
bit_inverted u m i one = omega (arith, bit_at_xor u m i, bit_at-lt u i)

bit_kept : (u m i : ℕ) → bit_at m i ≡ 0 → bit_at (bit_xor u m) i ≡ bit_at u i
bit_kept u m i none = omega (arith, bit_at_xor u m i, bit_at-lt u i)

-- the parity sums of a row with an odd number of bits inverted
sums_25 : (f g : ℕ → ℕ) → f 1 + g 1 ≡ 1 → f 2 + g 2 ≡ 1 → f 3 + g 3 ≡ 1 → f 5 + g 5 ≡ 1
    → f 6 + g 6 ≡ 1 → f 10 + g 10 ≡ 1 → f 11 + g 11 ≡ 1
    → f 12 + g 12 ≡ 1 → f 13 + g 13 ≡ 1 → f 14 + g 14 ≡ 1 → f 17 + g 17 ≡ 1 → f 18 + g 18 ≡ 1
    → f 20 + g 20 ≡ 1 → f 23 + g 23 ≡ 1
    → sum (map f row_25) + sum (map g row_25) ≡ 14
sums_25 f g a1 a2 a3 a5 a6 a10 a11 a12 a13 a14 a17 a18 a20 a23 = omega arith

same_25 : (f g : ℕ → ℕ) → g 1 ≡ f 1 → g 2 ≡ f 2 → g 3 ≡ f 3 → g 5 ≡ f 5 → g 6 ≡ f 6 → g 10 ≡ f 10
    → g 11 ≡ f 11
    → g 12 ≡ f 12 → g 13 ≡ f 13 → g 14 ≡ f 14 → g 17 ≡ f 17 → g 18 ≡ f 18 → g 20 ≡ f 20
    → g 23 ≡ f 23
    → sum (map g row_25) ≡ sum (map f row_25)
same_25 f g a1 a2 a3 a5 a6 a10 a11 a12 a13 a14 a17 a18 a20 a23 = omega arith

sums_29 : (f g : ℕ → ℕ) → f 1 + g 1 ≡ 1 → f 3 + g 3 ≡ 1 → f 5 + g 5 ≡ 1 → f 6 + g 6 ≡ 1
    → f 7 + g 7 ≡ 1 → f 9 + g 9 ≡ 1 → f 10 + g 10 ≡ 1
    → f 14 + g 14 ≡ 1 → f 15 + g 15 ≡ 1 → f 16 + g 16 ≡ 1 → f 17 + g 17 ≡ 1 → f 18 + g 18 ≡ 1
    → f 21 + g 21 ≡ 1 → f 22 + g 22 ≡ 1 → f 24 + g 24 ≡ 1
    → sum (map f row_29) + sum (map g row_29) ≡ 15
sums_29 f g a1 a3 a5 a6 a7 a9 a10 a14 a15 a16 a17 a18 a21 a22 a24 = omega arith

odd_whole : (star p q s t : ℕ) → (p + star + s) % 2 ≡ 0 → (q + star + t) % 2 ≡ 0 → p + q ≡ 1
    → s + t ≡ 14 → ⊥
odd_whole star p q s t a b c d = omega arith

odd_data : (star p q s t : ℕ) → (p + star + s) % 2 ≡ 0 → (q + star + t) % 2 ≡ 0 → q ≡ p → s + t ≡ 15
    → ⊥
odd_data star p q s t a b c d = omega arith

odd_parity : (star p q s t : ℕ) → (p + star + s) % 2 ≡ 0 → (q + star + t) % 2 ≡ 0 → p + q ≡ 1
    → t ≡ s → ⊥
odd_parity star p q s t a b c d = omega arith

-- all 30 bits
pub not_both_whole : (u last : ℕ) → IsGood u last → IsGood (bit_xor u whole_mask) last → ⊥
not_both_whole u last a b =
    let m : ℕ = whole_mask in
    odd_whole (d29_star last) _ _ _ _ a.d25 b.d25 (bit_inverted u whole_mask 5 refl)
    (sums_25 (source u last) (source (bit_xor u whole_mask) last)
    (inverted u m last 1 refl) (inverted u m last 2 refl) (inverted u m last 3 refl)
    (inverted u m last 5 refl) (inverted u m last 6 refl)
    (inverted u m last 10 refl) (inverted u m last 11 refl) (inverted u m last 12 refl)
    (inverted u m last 13 refl) (inverted u m last 14 refl)
    (inverted u m last 17 refl) (inverted u m last 18 refl) (inverted u m last 20 refl)
    (inverted u m last 23 refl))

-- the 24 data bits
pub not_both_data : (u last : ℕ) → IsGood u last → IsGood (bit_xor u data_mask) last → ⊥
not_both_data u last a b =
    let m : ℕ = data_mask in
    odd_data (d30_star last) _ _ _ _ a.d29 b.d29 (bit_kept u data_mask 1 refl)
    (sums_29 (source u last) (source (bit_xor u data_mask) last)
    (inverted u m last 1 refl) (inverted u m last 3 refl) (inverted u m last 5 refl)
    (inverted u m last 6 refl) (inverted u m last 7 refl)
    (inverted u m last 9 refl) (inverted u m last 10 refl) (inverted u m last 14 refl)
    (inverted u m last 15 refl) (inverted u m last 16 refl)
    (inverted u m last 17 refl) (inverted u m last 18 refl) (inverted u m last 21 refl)
    (inverted u m last 22 refl) (inverted u m last 24 refl))

-- the six parity bits
pub not_both_parity : (u last : ℕ) → IsGood u last → IsGood (bit_xor u parity_mask) last → ⊥
not_both_parity u last a b =
    let m : ℕ = parity_mask in
    odd_parity (d29_star last) _ _ _ _ a.d25 b.d25 (bit_inverted u parity_mask 5 refl)
    (same_25 (source u last) (source (bit_xor u parity_mask) last)
    (kept u m last 1 refl) (kept u m last 2 refl) (kept u m last 3 refl) (kept u m last 5 refl)
    (kept u m last 6 refl)
    (kept u m last 10 refl) (kept u m last 11 refl) (kept u m last 12 refl) (kept u m last 13 refl)
    (kept u m last 14 refl)
    (kept u m last 17 refl) (kept u m last 18 refl) (kept u m last 20 refl) (kept u m last 23 refl))
