-- Bits of numbers in two's complement, and fields determined by their bits.
use Rattle.std.proofs.Common.{◌≡◌, ℕ, zero, suc, ◌+◌, ◌-◌, ◌^◌, ◌<◌, true, false, nat_lt, if◌then◌else◌, pos, neg_ℤ, refl, ap, ◌∙◌, arith}
use Rattle.nav_bits.specs.Signed.{signed_of}
use Rattle.nav_eph.specs.BitPatterns.{bit_pattern_of}

neg-bit_pattern : (w k : ℕ) → 0 < k → bit_pattern_of w (neg_ℤ (pos k)) ≡ 2 ^ w - k
neg-bit_pattern w zero h = absurd (omega arith)
neg-bit_pattern w (suc j) h = ap (λ n. 2 ^ w - n) (let e : j + 1 ≡ suc j = omega arith in e)

-- decoding w bits and encoding the value gives the same bits
pub bit_pattern_of-signed_of : (w n : ℕ) → n < 2 ^ w → bit_pattern_of w (signed_of w n) ≡ n
unfolding signed_of
bit_pattern_of-signed_of w n h =
    elim (nat_lt n (2 ^ (w - 1))) as (λ b. bit_pattern_of w (if b then pos n else neg_ℤ (pos (2 ^ w - n))) ≡ n) [
      | true ↦ refl
      | false ↦ neg-bit_pattern w (2 ^ w - n) (omega arith) ∙ (let e : 2 ^ w - (2 ^ w - n) ≡ n = omega arith in e)
    ]
