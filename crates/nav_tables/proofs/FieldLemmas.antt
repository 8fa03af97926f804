-- Numbers in range have bits, which stand for them.
use Rattle.std.proofs.Common.{◌≡◌, ℕ, suc, ◌+◌, ◌-◌, ◌*◌, ◌^◌, ◌<◌, ◌≤◌, ◌&&◌, Bool, true, false, ℤ}
use Rattle.std.proofs.Common.{pos, negsuc, neg_ℤ, ◌≤ℤ◌, nat_abs, bit_and, ◌/◌, ◌%◌, w64, of_z, refl}
use Rattle.std.proofs.Common.{sym, ap, ◌∙◌, arith}
use Rattle.std.specs.Prelude.{int_le, nat_le}
use Rattle.std.proofs.Math.Nat.{pow-suc}
use Rattle.std.proofs.lemmas.Nat.{and_mask, mod_below, pow_pos}
use Rattle.std.proofs.lemmas.Nat.Bits.{ones_shr}
use Rattle.std.proofs.lemmas.Int.{ints}
use Rattle.std.proofs.lemmas.Bool.{lt-ltb, le-ltb, leb-true}
use Rattle.nav_bits.specs.Signed.{IsSigned, signed_of, unsigned_of}
use Rattle.nav_bits.proofs.Surface.{unsigned_of-lt, signed_of-cast, signed_of-same}
use Rattle.nav_bits.proofs.Surface.{signed_of-unsigned}
use Rattle.nav_tables.specs.declared.field.Coding.{Coding}
use Rattle.nav_tables.specs.declared.field.Coding.TheVariants.{Unsigned, TwosComplement}
use Rattle.nav_tables.specs.declared.field.Coding.TheVariants.{SignMagnitude, Reserved}
use Rattle.nav_tables.specs.declared.field.Field.{Field}
use Rattle.nav_tables.specs.Fields.{IsInRange, bits_by, greatest, is_field, least, number_by}
use Rattle.nav_tables.specs.Fields.{sign_magnitude_bits, sign_magnitude_of}

-- w bits hold twice what w - 1 bits hold
pow_double : (w : ℕ) → 1 ≤ w → 2 ^ w ≡ 2 ^ (w - 1) * 2
pow_double w h =
    let e : w ≡ suc (w - 1) = omega arith in
    ap (λ n. 2 ^ n) e ∙ pow-suc 2 (w - 1)

-- the lowest w of 64 bits
masked : (x w : ℕ) → w ≤ 64 → bit_and x (18446744073709551615 / 2 ^ (64 - w)) ≡ x % 2 ^ w
masked x w h =
    let e : 64 - (64 - w) ≡ w = omega arith in
    let ones : 18446744073709551615 / 2 ^ (64 - w) ≡ 2 ^ w - 1
    = ones_shr 64 (64 - w) (omega arith) ∙ ap (λ n. 2 ^ n - 1) e in
    ap (bit_and x) ones ∙ and_mask x w

pub both : (a b : Bool) → (a && b) ≡ true → (a ≡ true) × (b ≡ true)
both true true e = (refl, refl)
both true false e = (refl, e)
both false b e = (e, (cc))

pub le_z_true : (a b : ℤ) → int_le a b ≡ true → a ≤ℤ b
le_z_true a b e = grind (arith, ints)

-- what the test of a field says
pub record IsGood (f : Field) : Type 0 where
  pub some : 1 ≤ f.width
  pub most : f.width ≤ 32
  pub low : least f.coding f.width ≤ℤ f.low
  pub high : f.high ≤ℤ greatest f.coding f.width

pub good : (f : Field) → is_field f ≡ true → IsGood f
good f e =
    let a = both (nat_le 1 f.width && nat_le f.width 32 && int_le (least f.coding f.width) f.low)
    (int_le f.high (greatest f.coding f.width)) e in
    let b = both (nat_le 1 f.width && nat_le f.width 32)
    (int_le (least f.coding f.width) f.low) a.0 in
    let c = both (nat_le 1 f.width) (nat_le f.width 32) b.0 in
    record {
      some = leb-true 1 f.width c.0;
      most = leb-true f.width 32 c.1;
      low = le_z_true _ _ b.1;
      high = le_z_true _ _ a.1;
    }

-- the number is one that w bits of the coding have
pub record Has (c : Coding) (w : ℕ) (z : ℤ) : Type 0 where
  pub some : 1 ≤ w
  pub low : least c w ≤ℤ z
  pub high : z ≤ℤ greatest c w

pub has : (f : Field) (z : ℤ) → is_field f ≡ true → IsInRange f z → Has f.coding f.width z
has f z e range =
    let g = good f e in
    record {
      some = g.some;
      low = omega (arith, ints, g.low, range.0);
      high = omega (arith, ints, g.high, range.1);
    }

pub is_signed : (w : ℕ) (z : ℤ) → Has TwosComplement w z → IsSigned w z
is_signed w z h = let one : 0 < 2 ^ (w - 1)
    = pow_pos (w - 1) in (h.low, omega (arith, ints, h.high))

-- sign and magnitude
sign_low : (w n : ℕ) → n < 2 ^ (w - 1) → sign_magnitude_of w n ≡ pos n
sign_low w n h = rw (lt-ltb n (2 ^ (w - 1)) h) refl

sign_high : (w n : ℕ) → sign_magnitude_of w (2 ^ (w - 1) + n) ≡ neg_ℤ (pos n)
sign_high w n =
    let at_least : 2 ^ (w - 1) ≤ 2 ^ (w - 1) + n = omega arith in
    let back : 2 ^ (w - 1) + n - 2 ^ (w - 1) ≡ n = omega arith in
    rw (le-ltb (2 ^ (w - 1) + n) (2 ^ (w - 1)) at_least) (ap (λ m. neg_ℤ (pos m)) back)

pub sign_back : (w : ℕ) (z : ℤ) → Has SignMagnitude w z
    → sign_magnitude_of w (sign_magnitude_bits w z) ≡ z
sign_back w (pos n) h = let one : 0 < 2 ^ (w - 1)
    = pow_pos (w - 1) in sign_low w n (omega (arith, ints, h.high))
sign_back w (negsuc n) h = sign_high w (suc n)

pub sign_bits-lt : (w : ℕ) (z : ℤ) → Has SignMagnitude w z → sign_magnitude_bits w z < 2 ^ w
sign_bits-lt w (pos n) h =
    let one : 0 < 2 ^ (w - 1) = pow_pos (w - 1) in
    let double : 2 ^ w ≡ 2 ^ (w - 1) * 2 = pow_double w h.some in
    omega (arith, ints, h.high)
sign_bits-lt w (negsuc n) h =
    let one : 0 < 2 ^ (w - 1) = pow_pos (w - 1) in
    let double : 2 ^ w ≡ 2 ^ (w - 1) * 2 = pow_double w h.some in
    omega (arith, ints, h.low)

-- the bits of a number fit, and stand for it
pub bits-lt : (c : Coding) (w : ℕ) (z : ℤ) → Has c w z → bits_by c w z < 2 ^ w
bits-lt Unsigned w (pos n) h = let one : 0 < 2 ^ w = pow_pos w in omega (arith, ints, h.high)
bits-lt Unsigned w (negsuc n) h = absurd (omega (arith, ints, h.low))
bits-lt TwosComplement w z h = unsigned_of-lt w z h.some (is_signed w z h)
bits-lt SignMagnitude w z h = sign_bits-lt w z h
bits-lt Reserved w z h = pow_pos w

pub number_back : (c : Coding) (w : ℕ) (z : ℤ) → Has c w z → number_by c w (bits_by c w z) ≡ z
number_back Unsigned w (pos n) h = refl
number_back Unsigned w (negsuc n) h = absurd (omega (arith, ints, h.low))
number_back TwosComplement w z h = signed_of-unsigned w z h.some (is_signed w z h)
number_back SignMagnitude w z h = sign_back w z h
number_back Reserved w z h = omega (arith, ints, h.low, h.high)

-- the low w bits of a number's 64 are its bits in two's complement
pub complement : (w n : ℕ) (z : ℤ) → 1 ≤ w → w ≤ 64 → IsSigned w z → n ≡ of_z w64 z
    → bit_and n (18446744073709551615 / 2 ^ (64 - w)) ≡ unsigned_of w z
complement w n z some most fits e =
    let back : signed_of w (n % 2 ^ w) ≡ z = ap (λ m. signed_of w (m % 2 ^ w)) e
    ∙ signed_of-cast w z some most fits in
    masked n w most
    ∙ signed_of-same w (n % 2 ^ w) (unsigned_of w z) some (mod_below n (2 ^ w) (pow_pos w))
    (unsigned_of-lt w z some fits)
    (back ∙ sym (signed_of-unsigned w z some fits))

pub abs-lt : (w : ℕ) (z : ℤ) → 1 ≤ w → z ≤ℤ greatest SignMagnitude w → pos 0 ≤ℤ z
    → nat_abs z < 2 ^ w
abs-lt w (pos n) some high low =
    let one : 0 < 2 ^ (w - 1) = pow_pos (w - 1) in
    let double : 2 ^ w ≡ 2 ^ (w - 1) * 2 = pow_double w some in
    omega (arith, ints, high)
abs-lt w (negsuc n) some high low = absurd (omega (arith, ints, low))
