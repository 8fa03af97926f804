-- The register is linear: x times a remainder, x^k times one, and the remainders of joined bytes.
use Rattle.std.proofs.Common.{◌≡◌, ℕ, zero, suc, ◌+◌, ◌-◌, ◌*◌, ◌/◌, ◌%◌, ◌^◌, ◌<◌, ◌≤◌, List, []}
use Rattle.std.proofs.Common.{◌∷◌, ◌++◌, length, refl, sym, ap, subst, ◌∙◌, ⊎_elim, arith, zero-add}
use Rattle.std.proofs.Math.Nat.{suc-add, pow-suc, mul_assoc}
use Rattle.std.proofs.lemmas.Bool.{cases_lt}
use Rattle.std.specs.Int.Bits.{bit_xor, xor_assoc, xor_zero_r}
use Rattle.std.proofs.lemmas.Nat.{xor_comm, xor_block, xor_lt, xor_shr, shl_below}
use Rattle.framing.specs.SbfRegister.{generator}
use Rattle.framing.specs.SbfRegister.{stepped, shift, with_byte_of, crc_from}
use Rattle.framing.proofs.SbfSumLaws.{regroup, cancel, xor-mul_pow, digits-mul}

pub stepped-xor : (a b : ℕ) → a < 2 ^ 16 → b < 2 ^ 16
    → stepped (bit_xor a b) ≡ bit_xor (stepped a) (stepped b)
unfolding stepped
stepped-xor a b ha hb =
    let first : bit_xor a b * 2 ≡ bit_xor (a * 2) (b * 2) = xor-mul_pow 1 a b in
    let top : bit_xor a b / 2 ^ 15 * generator
    ≡ bit_xor (a / 2 ^ 15 * generator) (b / 2 ^ 15 * generator) =
    ap (λ x. x * generator) (xor_shr a b 15)
    ∙ digits-mul generator (a / 2 ^ 15) (b / 2 ^ 15) (omega arith) (omega arith) in
    ap (λ x. bit_xor x (bit_xor a b / 2 ^ 15 * generator)) first
    ∙ ap (bit_xor (bit_xor (a * 2) (b * 2))) top
    ∙ regroup (a * 2) (b * 2) (a / 2 ^ 15 * generator) (b / 2 ^ 15 * generator)

-- where the highest bit is 0 nothing is subtracted
pub stepped_small : (r : ℕ) → r < 2 ^ 15 → stepped r ≡ r * 2
unfolding stepped
stepped_small r h =
    let none : r / 2 ^ 15 * generator ≡ 0 = omega arith in
    ap (bit_xor (r * 2)) none ∙ xor_zero_r (r * 2)

-- where the highest bit is 1, subtracting the generator leaves less than 2^16
stepped_large : (low : ℕ) → low < 2 ^ 16 → bit_xor (2 ^ 16 + low) generator < 2 ^ 16
stepped_large low h =
    let e : bit_xor (1 * 2 ^ 16 + low) (1 * 2 ^ 16 + 0x1021)
    ≡ bit_xor 1 1 * 2 ^ 16 + bit_xor low 0x1021 =
    xor_block 16 1 1 low 0x1021 h (omega arith) in
    let less : bit_xor low 0x1021 < 2 ^ 16 = xor_lt 16 low 0x1021 h (omega arith) in
    let P : ℕ → Type 0 = λ n. n < 2 ^ 16 in
    subst P (sym (ap (λ x. bit_xor x generator) (one low) ∙ e)) (omega (arith, less))
  where
    one : (low : ℕ) → 2 ^ 16 + low ≡ 1 * 2 ^ 16 + low
    one low = omega arith

stepped_large_is : (r : ℕ) → 2 ^ 15 ≤ r → r < 2 ^ 16
    → stepped r ≡ bit_xor (2 ^ 16 + (r * 2 - 2 ^ 16)) generator
unfolding stepped
stepped_large_is r h less =
    let top : r / 2 ^ 15 * generator ≡ generator = omega arith in
    let split : r * 2 ≡ 2 ^ 16 + (r * 2 - 2 ^ 16) = omega arith in
    ap (bit_xor (r * 2)) top ∙ ap (λ x. bit_xor x generator) split

pub stepped-lt : (r : ℕ) → r < 2 ^ 16 → stepped r < 2 ^ 16
stepped-lt r h =
    let P : ℕ → Type 0 = λ n. n < 2 ^ 16 in
    ⊎_elim
    (λ (small : r < 2 ^ 15). subst P (sym (stepped_small r small)) (omega arith))
    (λ (large : 2 ^ 15 ≤ r). subst P (sym (stepped_large_is r large h))
    (stepped_large (r * 2 - 2 ^ 16) (omega arith)))
    (cases_lt r (2 ^ 15))

pub shift-lt : (k r : ℕ) → r < 2 ^ 16 → shift k r < 2 ^ 16
unfolding shift
shift-lt zero r h = h
shift-lt (suc k) r h = stepped-lt (shift k r) (shift-lt k r h)

pub shift-xor : (k a b : ℕ) → a < 2 ^ 16 → b < 2 ^ 16
    → shift k (bit_xor a b) ≡ bit_xor (shift k a) (shift k b)
unfolding shift
shift-xor zero a b ha hb = refl
shift-xor (suc k) a b ha hb =
    ap stepped (shift-xor k a b ha hb)
    ∙ stepped-xor (shift k a) (shift k b) (shift-lt k a ha) (shift-lt k b hb)

pub shift-add : (i j r : ℕ) → shift (i + j) r ≡ shift i (shift j r)
unfolding shift
shift-add zero j r = ap (λ n. shift n r) (zero-add j)
shift-add (suc i) j r = ap (λ n. shift n r) (suc-add i j) ∙ ap stepped (shift-add i j r)

-- k more bits where the highest k are 0: nothing is subtracted
pub shift_small : (k j r : ℕ) → k + j ≡ 16 → r < 2 ^ j → shift k r ≡ r * 2 ^ k
unfolding shift
shift_small zero j r e h = omega arith
shift_small (suc k) j r e h =
    let less : r < 2 ^ suc j = omega (arith, pow-suc 2 j) in
    let before : shift k r ≡ r * 2 ^ k = shift_small k (suc j) r (omega arith) less in
    let room : r * 2 ^ k < 2 ^ (j + k) = shl_below r j k h in
    let places : j + k ≡ 15 = omega arith in
    let P : ℕ → Type 0 = λ n. r * 2 ^ k < 2 ^ n in
    ap stepped before ∙ stepped_small (r * 2 ^ k) (subst P places room) ∙ mul_assoc r (2 ^ k) 2
    ∙ ap (λ n. r * n) (sym (pow-suc 2 k))

pub shift-zero : (k : ℕ) → shift k 0 ≡ 0
unfolding shift
shift-zero zero = refl
shift-zero (suc k) = ap stepped (shift-zero k) ∙ stepped_small 0 (omega arith)

-- ---- bytes

-- a byte at the head fits the register
pub head-lt : (byte : ℕ) → byte % 256 * 2 ^ 8 < 2 ^ 16
head-lt byte = omega arith

pub with_byte_of-lt : (r byte : ℕ) → r < 2 ^ 16 → with_byte_of r byte < 2 ^ 16
unfolding with_byte_of
with_byte_of-lt r byte h =
    shift-lt 8 (bit_xor r (byte % 256 * 2 ^ 8)) (xor_lt 16 r (byte % 256 * 2 ^ 8) h (head-lt byte))

with_byte_of-xor : (a b byte : ℕ) → a < 2 ^ 16 → b < 2 ^ 16
    → with_byte_of (bit_xor a b) byte ≡ bit_xor (shift 8 a) (with_byte_of b byte)
unfolding with_byte_of
with_byte_of-xor a b byte ha hb =
    ap (shift 8) (xor_assoc a b (byte % 256 * 2 ^ 8))
    ∙ shift-xor 8 a (bit_xor b (byte % 256 * 2 ^ 8)) ha
    (xor_lt 16 b (byte % 256 * 2 ^ 8) hb (head-lt byte))

pub crc_from-lt : (r : ℕ) (xs : List ℕ) → r < 2 ^ 16 → crc_from r xs < 2 ^ 16
unfolding crc_from
crc_from-lt r [] h = h
crc_from-lt r (x ∷ xs) h = crc_from-lt (with_byte_of r x) xs (with_byte_of-lt r x h)

pub crc_from-append : (r : ℕ) (xs ys : List ℕ) → crc_from r (xs ++ ys) ≡ crc_from (crc_from r xs) ys
unfolding crc_from
crc_from-append r [] ys = refl
crc_from-append r (x ∷ xs) ys = crc_from-append (with_byte_of r x) xs ys

shift_none : (r : ℕ) → shift 0 r ≡ r
unfolding shift
shift_none r = refl

pub crc_from-xor : (a b : ℕ) (xs : List ℕ) → a < 2 ^ 16 → b < 2 ^ 16
    → crc_from (bit_xor a b) xs ≡ bit_xor (shift (8 * length xs) a) (crc_from b xs)
unfolding crc_from
crc_from-xor a b [] ha hb = ap (λ x. bit_xor x b) (sym (shift_none a))
crc_from-xor a b (x ∷ xs) ha hb =
    let count : 8 * length (x ∷ xs) ≡ 8 * length xs + 8 = omega arith in
    ap (λ r. crc_from r xs) (with_byte_of-xor a b x ha hb)
    ∙ crc_from-xor (shift 8 a) (with_byte_of b x) xs (shift-lt 8 a ha) (with_byte_of-lt b x hb)
    ∙ ap (λ r. bit_xor r (crc_from (with_byte_of b x) xs))
    (sym (ap (λ n. shift n a) count ∙ shift-add (8 * length xs) 8 a))

-- the register after bytes: their own CRC plus the earlier register advanced
pub crc_from-parts : (r : ℕ) (xs : List ℕ) → r < 2 ^ 16
    → crc_from r xs ≡ bit_xor (shift (8 * length xs) r) (crc_from 0 xs)
crc_from-parts r xs h = ap (λ n. crc_from n xs) (sym (xor_zero_r r))
    ∙ crc_from-xor r 0 xs h (omega arith)

-- the CRC of a range of bytes by the registers before and after it
pub crc_of_part : (r : ℕ) (xs : List ℕ) → r < 2 ^ 16
    → crc_from 0 xs ≡ bit_xor (crc_from r xs) (shift (8 * length xs) r)
crc_of_part r xs h =
    sym (cancel (shift (8 * length xs) r) (crc_from 0 xs))
    ∙ ap (bit_xor (shift (8 * length xs) r)) (sym (crc_from-parts r xs h))
    ∙ xor_comm (shift (8 * length xs) r) (crc_from r xs)
