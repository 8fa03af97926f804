-- Two's complement over w bits: what `signed_of` gives, and the casts of 64 bits that compute it.
use Rattle.std.proofs.Common.{◌≡◌, ℕ, suc, ◌+◌, ◌-◌, ◌*◌, ◌/◌, ◌%◌, ◌^◌, ◌<◌, ◌≤◌, ℤ, pos, negsuc, bit_and, w64, to_z, of_z, FitsSigned, lit<, refl, sym, ap, ◌∙◌, inl, inr, arith}
use Rattle.std.specs.Prelude.{neg_ℤ}
use Rattle.std.proofs.Math.Nat.{pow-suc, pow-le-pow_right, mod-eq_of_lt, div-eq_of_lt, div-lt_iff_lt-mul}
use Rattle.std.proofs.lemmas.Nat.{and_mask, mod_low, pow-add, pow_pos}
use Rattle.std.proofs.lemmas.Nat.Bits.{ones_shr}
use Rattle.std.proofs.lemmas.Bool.{lt-ltb, le-ltb, cases_lt}
use Rattle.std.proofs.lemmas.Int.{ints, to_z-of_z, to_z_pos}
use Rattle.nav_bits.specs.Signed.{IsSigned, signed_of}

-- w bits hold twice what w - 1 bits hold
pub pow_double : (w : ℕ) → 1 ≤ w → 2 ^ w ≡ 2 ^ (w - 1) * 2
pow_double w h = let e : w ≡ suc (w - 1) = omega arith in ap (λ n. 2 ^ n) e ∙ pow-suc 2 (w - 1)

-- below half of the range the number is itself
pub signed_of-low : (w n : ℕ) → n < 2 ^ (w - 1) → signed_of w n ≡ pos n
unfolding signed_of
signed_of-low w n h = rw (lt-ltb n (2 ^ (w - 1)) h)

-- from half of the range on it is below 0
pub signed_of-high : (w n : ℕ) → 2 ^ (w - 1) ≤ n → signed_of w n ≡ neg_ℤ (pos (2 ^ w - n))
unfolding signed_of
signed_of-high w n h = rw (le-ltb n (2 ^ (w - 1)) h)

pub opposite_suc : (n : ℕ) → neg_ℤ (pos (suc n)) ≡ negsuc n
opposite_suc n = refl

-- more bits than the machine has hold each of its numbers
pub signed_wide : (w : ℕ) (z : ℤ) → FitsSigned w64 z → 64 < w → IsSigned w z
signed_wide w z fits h =
    let room : 63 ≤ w - 1 = omega arith in
    let more : 2 ^ 63 ≤ 2 ^ (w - 1) = pow-le-pow_right (lit< tt) room in
    (omega (arith, ints), omega (arith, ints))

-- MAX >> (64 - w) has w ones
pub low_ones : (w : ℕ) → w ≤ 64 → 18446744073709551615 / 2 ^ (64 - w) ≡ 2 ^ w - 1
low_ones w h = let e : 64 - (64 - w) ≡ w = omega arith in ones_shr 64 (64 - w) (omega arith) ∙ ap (λ n. 2 ^ n - 1) e

pub masked : (x w : ℕ) → w ≤ 64 → bit_and x (18446744073709551615 / 2 ^ (64 - w)) ≡ x % 2 ^ w
masked x w h = ap (bit_and x) (low_ones w h) ∙ and_mask x w

-- the low w bits of the machine's number stand for it
pub signed_of-cast : (w : ℕ) (z : ℤ) → 1 ≤ w → w ≤ 64 → IsSigned w z → signed_of w (of_z w64 z % 2 ^ w) ≡ z
signed_of-cast w (pos n) some most (low, high) =
    let double : 2 ^ w ≡ 2 ^ (w - 1) * 2 = pow_double w some in
    let below : n < 2 ^ (w - 1) = omega (arith, ints) in
    let e : n % 2 ^ w ≡ n = mod-eq_of_lt (omega arith) in
    rw e (signed_of-low w n below)
signed_of-cast w (negsuc n) some most (low, high) =
    let double : 2 ^ w ≡ 2 ^ (w - 1) * 2 = pow_double w some in
    let below : suc n ≤ 2 ^ (w - 1) = omega (arith, ints) in
    let split : 64 ≡ 64 - w + w = omega arith in
    let whole : 2 ^ 64 ≡ 2 ^ (64 - w) * 2 ^ w = ap (λ k. 2 ^ k) split ∙ pow-add 2 (64 - w) w in
    let one : 0 < 2 ^ (64 - w) = pow_pos (64 - w) in
    let last : 2 ^ (64 - w) ≡ suc (2 ^ (64 - w) - 1) = omega arith in
    let cut : 2 ^ 64 - suc n ≡ (2 ^ (64 - w) - 1) * 2 ^ w + (2 ^ w - suc n) = omega (arith, ap (λ k. k * 2 ^ w) last) in
    let e : (2 ^ 64 - suc n) % 2 ^ w ≡ 2 ^ w - suc n = ap (λ m. m % 2 ^ w) cut ∙ mod_low (2 ^ (64 - w) - 1) w (2 ^ w - suc n) (omega arith) in
    let back : 2 ^ w - (2 ^ w - suc n) ≡ suc n = omega arith in
    rw e (signed_of-high w (2 ^ w - suc n) (omega arith) ∙ ap (λ m. neg_ℤ (pos m)) back)

-- what w bits stand for is in their range
pub signed_of-fits : (w n : ℕ) → 1 ≤ w → n < 2 ^ w → IsSigned w (signed_of w n)
signed_of-fits w n some fits =
    let double : 2 ^ w ≡ 2 ^ (w - 1) * 2 = pow_double w some in
    elim (cases_lt n (2 ^ (w - 1))) [
      | inl low ↦ rw (signed_of-low w n low) (omega (arith, ints), omega (arith, ints))
      | inr high ↦ rw (signed_of-high w n high) (omega (arith, ints), omega (arith, ints))
    ]

-- the machine's numbers from 2 ^ 63 on are those below 0
pub to_z-high : (n : ℕ) → 2 ^ 63 ≤ n → to_z w64 n ≡ negsuc (2 ^ 64 - suc n)
to_z-high n h = rw (le-ltb n (2 ^ 63) h) refl

-- the bits of a number below 0, with ones above them, are the machine's form of it
pub signed_of-with_ones : (w n : ℕ) → 1 ≤ w → w ≤ 64 → n < 2 ^ w → 2 ^ (w - 1) ≤ n
    → to_z w64 (n + (18446744073709551615 - (2 ^ w - 1))) ≡ signed_of w n
signed_of-with_ones w n some most fits high =
    let double : 2 ^ w ≡ 2 ^ (w - 1) * 2 = pow_double w some in
    let room : w - 1 ≤ 63 = omega arith in
    let half : 2 ^ (w - 1) ≤ 2 ^ 63 = pow-le-pow_right (lit< tt) room in
    let above : 2 ^ 63 ≤ n + (18446744073709551615 - (2 ^ w - 1)) = omega arith in
    let back : 2 ^ w - n ≡ suc (2 ^ 64 - suc (n + (18446744073709551615 - (2 ^ w - 1)))) = omega arith in
    to_z-high _ above ∙ sym (ap (λ m. neg_ℤ (pos m)) back) ∙ sym (signed_of-high w n high)

-- bits whose highest is 0
pub below_half : (w n : ℕ) → n / 2 ^ (w - 1) ≡ 0 → n < 2 ^ (w - 1)
below_half w n h =
    let few : n / 2 ^ (w - 1) < 1 = omega arith in
    let below : n < 1 * 2 ^ (w - 1) = (div-lt_iff_lt-mul (pow_pos (w - 1))).0 few in
    omega arith

-- bits whose highest is 1
pub above_half : (w n : ℕ) → (n / 2 ^ (w - 1) ≡ 0 → ⊥) → 2 ^ (w - 1) ≤ n
above_half w n h =
    elim (cases_lt n (2 ^ (w - 1))) [ inl low ↦ absurd (h (div-eq_of_lt low)) | inr high ↦ high ]

-- such bits are the machine's number
pub signed_of-to_z : (w n : ℕ) → 1 ≤ w → w ≤ 64 → n < 2 ^ (w - 1) → to_z w64 n ≡ signed_of w n
signed_of-to_z w n some most low =
    let room : w - 1 ≤ 63 = omega arith in
    let half : 2 ^ (w - 1) ≤ 2 ^ 63 = pow-le-pow_right (lit< tt) room in
    to_z_pos w64 n (omega arith) ∙ sym (signed_of-low w n low)

-- numbers of at most 64 bits are the machine's
pub signed_narrow : (w : ℕ) (z : ℤ) → w ≤ 64 → IsSigned w z → FitsSigned w64 z
signed_narrow w z most fits =
    let room : w - 1 ≤ 63 = omega arith in
    let half : 2 ^ (w - 1) ≤ 2 ^ 63 = pow-le-pow_right (lit< tt) room in
    omega (arith, ints)

-- a number of at most 64 bits is not changed by the machine's casts
pub signed_of-casts : (w n : ℕ) → 1 ≤ w → w ≤ 64 → n < 2 ^ w → to_z w64 (of_z w64 (signed_of w n)) ≡ signed_of w n
signed_of-casts w n some most fits = to_z-of_z w64 (signed_of w n) (signed_narrow w (signed_of w n) most (signed_of-fits w n some fits))

-- what the machine makes of bits whose highest is 1
pub signed_cast : (w n : ℕ) (z : ℤ) → 1 ≤ w → w ≤ 64 → n < 2 ^ w → (n / 2 ^ (w - 1) ≡ 0 → ⊥)
    → z ≡ to_z w64 (n + (18446744073709551615 - 18446744073709551615 / 2 ^ (64 - w)))
    → to_z w64 (of_z w64 z) ≡ signed_of w n
signed_cast w n z some most fits high e =
    let same : z ≡ signed_of w n =
    e ∙ ap (λ m. to_z w64 (n + (18446744073709551615 - m))) (low_ones w most)
    ∙ signed_of-with_ones w n some most fits (above_half w n high) in
    ap (λ x. to_z w64 (of_z w64 x)) same ∙ signed_of-casts w n some most fits

-- no two runs of bits stand for the same number
pub signed_of-same : (w m n : ℕ) → 1 ≤ w → m < 2 ^ w → n < 2 ^ w → signed_of w m ≡ signed_of w n → m ≡ n
signed_of-same w m n some fits_m fits_n same =
    let double : 2 ^ w ≡ 2 ^ (w - 1) * 2 = pow_double w some in
    elim (cases_lt m (2 ^ (w - 1))) [
      | inl low ↦ elim (cases_lt n (2 ^ (w - 1))) [
        | inl low' ↦ let e : pos m ≡ pos n = sym (signed_of-low w m low) ∙ same ∙ signed_of-low w n low' in omega (arith, ints)
        | inr high' ↦ let e : pos m ≡ neg_ℤ (pos (2 ^ w - n)) = sym (signed_of-low w m low) ∙ same ∙ signed_of-high w n high' in omega (arith, ints)
      ]
      | inr high ↦ elim (cases_lt n (2 ^ (w - 1))) [
        | inl low' ↦ let e : neg_ℤ (pos (2 ^ w - m)) ≡ pos n = sym (signed_of-high w m high) ∙ same ∙ signed_of-low w n low' in omega (arith, ints)
        | inr high' ↦
            let e : neg_ℤ (pos (2 ^ w - m)) ≡ neg_ℤ (pos (2 ^ w - n)) = sym (signed_of-high w m high) ∙ same ∙ signed_of-high w n high' in
            omega (arith, ints)
      ]
    ]
