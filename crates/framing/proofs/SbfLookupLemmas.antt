-- The register by look-ups: its high byte goes through a table, and the rest shifts without loss.
use Rattle.std.proofs.Common.{◌≡◌, ℕ, ◌+◌, ◌*◌, ◌/◌, ◌%◌, ◌^◌, ◌<◌, ◌≤◌}
use Rattle.std.proofs.Common.{refl, sym, ap, ◌∙◌, arith}
use Rattle.std.proofs.lemmas.Nat.{xor_block, xor_lt, and_mask}
use Rattle.std.specs.Int.Bits.{bit_and, bit_xor, xor_zero_r}
use lib.Bits.{xor_shifted}
use Rattle.framing.specs.SbfRegister.{generator}
use Rattle.framing.specs.SbfRegister.{stepped, shift, with_byte_of}
use Rattle.framing.proofs.SbfRegisterLaws.{stepped_small, shift-xor}
use Rattle.framing.proofs.SbfRegisterLaws.{shift_small}

-- the high byte of the sum of a byte at the head and a register
head_sum : (r x : ℕ) → bit_xor r (x * 2 ^ 8) ≡ bit_xor (bit_xor (r / 2 ^ 8) x * 2 ^ 8) (r % 2 ^ 8)
head_sum r x =
    let low : r % 2 ^ 8 < 2 ^ 8 = omega arith in
    let left : r ≡ r / 2 ^ 8 * 2 ^ 8 + r % 2 ^ 8 = omega arith in
    let right : x * 2 ^ 8 ≡ x * 2 ^ 8 + 0 = omega arith in
    ap (λ n. bit_xor n (x * 2 ^ 8)) left ∙ ap (bit_xor (r / 2 ^ 8 * 2 ^ 8 + r % 2 ^ 8)) right
    ∙ xor_block 8 (r / 2 ^ 8) x (r % 2 ^ 8) 0 low (omega arith)
    ∙ ap (λ n. bit_xor (r / 2 ^ 8) x * 2 ^ 8 + n) (xor_zero_r (r % 2 ^ 8))
    ∙ sym (xor_shifted (bit_xor (r / 2 ^ 8) x) 8 (r % 2 ^ 8) low)

-- a byte at the head fits the register
pub head_fits : (h : ℕ) → h < 2 ^ 8 → h * 2 ^ 8 < 2 ^ 16
head_fits h less = omega arith

pub head_of : (r x : ℕ) → r < 2 ^ 16 → x < 2 ^ 8 → bit_xor (r / 2 ^ 8) x < 2 ^ 8
head_of r x hr hx = xor_lt 8 (r / 2 ^ 8) x (omega arith) hx

pub with_byte_split : (r x : ℕ) → r < 2 ^ 16 → x < 2 ^ 8
    → with_byte_of r x ≡ bit_xor (shift 8 (bit_xor (r / 2 ^ 8) x * 2 ^ 8)) (r % 2 ^ 8 * 2 ^ 8)
unfolding with_byte_of
with_byte_split r x hr hx =
    let byte : x % 256 ≡ x = omega arith in
    let low : r % 2 ^ 8 < 2 ^ 8 = omega arith in
    ap (λ n. shift 8 (bit_xor r (n * 2 ^ 8))) byte ∙ ap (shift 8) (head_sum r x)
    ∙ shift-xor 8 (bit_xor (r / 2 ^ 8) x * 2 ^ 8) (r % 2 ^ 8)
    (head_fits (bit_xor (r / 2 ^ 8) x) (head_of r x hr hx)) (omega arith)
    ∙ ap (bit_xor (shift 8 (bit_xor (r / 2 ^ 8) x * 2 ^ 8))) (shift_small 8 8 (r % 2 ^ 8) refl low)

-- the low bits of a register by a mask, shifted in 32 bits
low_moved : (r : ℕ) → bit_and r 0xff * 2 ^ 8 % 2 ^ 32 ≡ r % 2 ^ 8 * 2 ^ 8
low_moved r =
    let low : bit_and r 0xff ≡ r % 2 ^ 8 = and_mask r 8 in
    omega (arith, low)

pub one_byte : (r x entry : ℕ) → r < 2 ^ 16 → x < 2 ^ 8
    → entry ≡ shift 8 (bit_xor (r / 2 ^ 8) x * 2 ^ 8)
    → bit_xor entry (bit_and r 0xff * 2 ^ 8 % 2 ^ 32) ≡ with_byte_of r x
one_byte r x entry hr hx is =
    ap (λ n. bit_xor n (bit_and r 0xff * 2 ^ 8 % 2 ^ 32)) is
    ∙ ap (bit_xor (shift 8 (bit_xor (r / 2 ^ 8) x * 2 ^ 8))) (low_moved r)
    ∙ sym (with_byte_split r x hr hx)

-- ---- the register advanced

pub one_place : (r : ℕ) → r * 2 % 2 ^ 32 < 2 ^ 16 → r < 2 ^ 16 → r * 2 % 2 ^ 32 ≡ stepped r
one_place r less h =
    let small : r < 2 ^ 15 = omega arith in
    let whole : r * 2 % 2 ^ 32 ≡ r * 2 = omega arith in
    whole ∙ sym (stepped_small r small)

pub one_place_back : (r : ℕ) → 2 ^ 16 ≤ r * 2 % 2 ^ 32 → r < 2 ^ 16
    → bit_xor (r * 2 % 2 ^ 32) generator ≡ stepped r
unfolding stepped
one_place_back r more h =
    let whole : r * 2 % 2 ^ 32 ≡ r * 2 = omega arith in
    let top : generator ≡ r / 2 ^ 15 * generator = omega arith in
    ap (λ n. bit_xor n generator) whole ∙ ap (bit_xor (r * 2)) top
