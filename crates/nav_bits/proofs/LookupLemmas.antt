-- The register by look-ups: its high byte goes through a table, and the rest shifts without loss.
use Rattle.std.proofs.Common.{◌≡◌, ℕ, ◌+◌, ◌*◌, ◌/◌, ◌%◌, ◌^◌, ◌<◌, ◌≤◌, List, [], ◌∷◌, length, refl, sym, ap, ◌∙◌, arith}
use Rattle.std.proofs.lemmas.Nat.{xor_block, xor_lt, and_mask}
use Rattle.std.specs.Int.Bits.{bit_and, bit_xor, xor_zero_r}
use lib.Bits.{xor_shifted}
use Rattle.nav_bits.specs.Division.{generator}
use Rattle.nav_bits.specs.Register.{stepped, shift, with_byte_of, crc_from}
use Rattle.nav_bits.proofs.RegisterLaws.{stepped_small, shift-lt, shift-xor, shift-add, shift_small, crc_from-xor}

-- the high byte of the sum of a byte at the head and a register
head_sum : (r x : ℕ) → bit_xor r (x * 2 ^ 16) ≡ bit_xor (bit_xor (r / 2 ^ 16) x * 2 ^ 16) (r % 2 ^ 16)
head_sum r x =
    let low : r % 2 ^ 16 < 2 ^ 16 = omega arith in
    let left : r ≡ r / 2 ^ 16 * 2 ^ 16 + r % 2 ^ 16 = omega arith in
    let right : x * 2 ^ 16 ≡ x * 2 ^ 16 + 0 = omega arith in
    ap (λ n. bit_xor n (x * 2 ^ 16)) left ∙ ap (bit_xor (r / 2 ^ 16 * 2 ^ 16 + r % 2 ^ 16)) right
    ∙ xor_block 16 (r / 2 ^ 16) x (r % 2 ^ 16) 0 low (omega arith)
    ∙ ap (λ n. bit_xor (r / 2 ^ 16) x * 2 ^ 16 + n) (xor_zero_r (r % 2 ^ 16))
    ∙ sym (xor_shifted (bit_xor (r / 2 ^ 16) x) 16 (r % 2 ^ 16) low)

-- a byte at the head fits the register
pub head_fits : (h : ℕ) → h < 2 ^ 8 → h * 2 ^ 16 < 2 ^ 24
head_fits h less = omega arith

pub head_of : (r x : ℕ) → r < 2 ^ 24 → x < 2 ^ 8 → bit_xor (r / 2 ^ 16) x < 2 ^ 8
head_of r x hr hx = xor_lt 8 (r / 2 ^ 16) x (omega arith) hx

pub with_byte_split : (r x : ℕ) → r < 2 ^ 24 → x < 2 ^ 8 → with_byte_of r x ≡ bit_xor (shift 8 (bit_xor (r / 2 ^ 16) x * 2 ^ 16)) (r % 2 ^ 16 * 2 ^ 8)
unfolding with_byte_of
with_byte_split r x hr hx =
    let byte : x % 256 ≡ x = omega arith in
    let low : r % 2 ^ 16 < 2 ^ 16 = omega arith in
    ap (λ n. shift 8 (bit_xor r (n * 2 ^ 16))) byte ∙ ap (shift 8) (head_sum r x)
    ∙ shift-xor 8 (bit_xor (r / 2 ^ 16) x * 2 ^ 16) (r % 2 ^ 16) (head_fits (bit_xor (r / 2 ^ 16) x) (head_of r x hr hx)) (omega arith)
    ∙ ap (bit_xor (shift 8 (bit_xor (r / 2 ^ 16) x * 2 ^ 16))) (shift_small 8 16 (r % 2 ^ 16) refl low)

-- the low bits of a register by a mask, shifted in 32 bits
low_moved : (r : ℕ) → bit_and r 0xffff * 2 ^ 8 % 2 ^ 32 ≡ r % 2 ^ 16 * 2 ^ 8
low_moved r =
    let low : bit_and r 0xffff ≡ r % 2 ^ 16 = and_mask r 16 in
    omega (arith, low)

pub one_byte : (r x entry : ℕ) → r < 2 ^ 24 → x < 2 ^ 8 → entry ≡ shift 8 (bit_xor (r / 2 ^ 16) x * 2 ^ 16) → bit_xor entry (bit_and r 0xffff * 2 ^ 8 % 2 ^ 32) ≡ with_byte_of r x
one_byte r x entry hr hx is =
    ap (λ n. bit_xor n (bit_and r 0xffff * 2 ^ 8 % 2 ^ 32)) is ∙ ap (bit_xor (shift 8 (bit_xor (r / 2 ^ 16) x * 2 ^ 16))) (low_moved r)
    ∙ sym (with_byte_split r x hr hx)

-- the first byte's share of the register after all bytes
first_byte : (r x : ℕ) (xs : List ℕ) → r < 2 ^ 24 → x < 2 ^ 8 → crc_from r (x ∷ xs) ≡ bit_xor (shift (8 * length xs + 8) (bit_xor (r / 2 ^ 16) x * 2 ^ 16)) (crc_from (r % 2 ^ 16 * 2 ^ 8) xs)
unfolding crc_from
first_byte r x xs hr hx =
    let head : ℕ = bit_xor (r / 2 ^ 16) x * 2 ^ 16 in
    let fits : head < 2 ^ 24 = head_fits (bit_xor (r / 2 ^ 16) x) (head_of r x hr hx) in
    ap (λ n. crc_from n xs) (with_byte_split r x hr hx)
    ∙ crc_from-xor (shift 8 head) (r % 2 ^ 16 * 2 ^ 8) xs (shift-lt 8 head fits) (omega arith)
    ∙ ap (λ n. bit_xor n (crc_from (r % 2 ^ 16 * 2 ^ 8) xs)) (sym (shift-add (8 * length xs) 8 head))

-- the register after four bytes by four look-ups
pub four_bytes : (r a b c d : ℕ) → r < 2 ^ 24 → a < 2 ^ 8 → b < 2 ^ 8 → c < 2 ^ 8 → d < 2 ^ 8
    → crc_from r (a ∷ b ∷ c ∷ d ∷ [])
    ≡ bit_xor (shift 32 (bit_xor (r / 2 ^ 16) a * 2 ^ 16))
    (bit_xor (shift 24 (bit_xor (r / 2 ^ 8 % 2 ^ 8) b * 2 ^ 16)) (bit_xor (shift 16 (bit_xor (r % 2 ^ 8) c * 2 ^ 16)) (shift 8 (d * 2 ^ 16))))
unfolding crc_from
four_bytes r a b c d hr ha hb hc hd =
    let one : ℕ = r % 2 ^ 16 * 2 ^ 8 in
    let two : ℕ = r % 2 ^ 8 * 2 ^ 16 in
    let one_on : one % 2 ^ 16 * 2 ^ 8 ≡ two = omega arith in
    let two_on : two % 2 ^ 16 * 2 ^ 8 ≡ 0 = omega arith in
    let second : one / 2 ^ 16 ≡ r / 2 ^ 8 % 2 ^ 8 = omega arith in
    let third : two / 2 ^ 16 ≡ r % 2 ^ 8 = omega arith in
    first_byte r a (b ∷ c ∷ d ∷ []) hr ha
    ∙ ap (bit_xor (shift 32 (bit_xor (r / 2 ^ 16) a * 2 ^ 16)))
    (first_byte one b (c ∷ d ∷ []) (omega arith) hb
    ∙ ap (λ n. bit_xor (shift 24 (bit_xor n b * 2 ^ 16)) (crc_from (one % 2 ^ 16 * 2 ^ 8) (c ∷ d ∷ []))) second
    ∙ ap (bit_xor (shift 24 (bit_xor (r / 2 ^ 8 % 2 ^ 8) b * 2 ^ 16)))
    (ap (λ n. crc_from n (c ∷ d ∷ [])) one_on ∙ first_byte two c (d ∷ []) (omega arith) hc
    ∙ ap (λ n. bit_xor (shift 16 (bit_xor n c * 2 ^ 16)) (crc_from (two % 2 ^ 16 * 2 ^ 8) (d ∷ []))) third
    ∙ ap (bit_xor (shift 16 (bit_xor (r % 2 ^ 8) c * 2 ^ 16)))
    (ap (λ n. crc_from n (d ∷ [])) two_on ∙ first_byte 0 d [] (omega arith) hd ∙ xor_zero_r (shift 8 (d * 2 ^ 16)))))

-- ---- the register advanced

pub one_place : (r : ℕ) → r * 2 % 2 ^ 32 < 2 ^ 24 → r < 2 ^ 24 → r * 2 % 2 ^ 32 ≡ stepped r
one_place r less h =
    let small : r < 2 ^ 23 = omega arith in
    let whole : r * 2 % 2 ^ 32 ≡ r * 2 = omega arith in
    whole ∙ sym (stepped_small r small)

pub one_place_back : (r : ℕ) → 2 ^ 24 ≤ r * 2 % 2 ^ 32 → r < 2 ^ 24 → bit_xor (r * 2 % 2 ^ 32) generator ≡ stepped r
unfolding stepped
one_place_back r more h =
    let whole : r * 2 % 2 ^ 32 ≡ r * 2 = omega arith in
    let top : generator ≡ r / 2 ^ 23 * generator = omega arith in
    ap (λ n. bit_xor n generator) whole ∙ ap (bit_xor (r * 2)) top

-- four bits at the head of a register, by the table of eight
pub four_bits : (h : ℕ) → h < 2 ^ 4 → shift 4 (h * 2 ^ 20) ≡ shift 8 (h * 2 ^ 16)
four_bits h less =
    let inside : h * 2 ^ 16 < 2 ^ 20 = omega arith in
    let places : h * 2 ^ 16 * 2 ^ 4 ≡ h * 2 ^ 20 = omega arith in
    sym (shift-add 4 4 (h * 2 ^ 16) ∙ ap (shift 4) (shift_small 4 20 (h * 2 ^ 16) refl inside ∙ places))

pub four_places : (r entry : ℕ) → r < 2 ^ 24 → entry ≡ shift 8 (r / 2 ^ 20 * 2 ^ 16) → bit_xor entry (bit_and r 0xfffff * 2 ^ 4 % 2 ^ 32) ≡ shift 4 r
four_places r entry h is =
    let head : r / 2 ^ 20 < 2 ^ 4 = omega arith in
    let low : r % 2 ^ 20 < 2 ^ 20 = omega arith in
    let mask : bit_and r 0xfffff ≡ r % 2 ^ 20 = and_mask r 20 in
    let moved : bit_and r 0xfffff * 2 ^ 4 % 2 ^ 32 ≡ r % 2 ^ 20 * 2 ^ 4 = omega (arith, mask) in
    let whole : r / 2 ^ 20 * 2 ^ 20 + r % 2 ^ 20 ≡ r = omega arith in
    ap (λ n. bit_xor n (bit_and r 0xfffff * 2 ^ 4 % 2 ^ 32)) (is ∙ sym (four_bits (r / 2 ^ 20) head))
    ∙ ap (bit_xor (shift 4 (r / 2 ^ 20 * 2 ^ 20))) (moved ∙ sym (shift_small 4 20 (r % 2 ^ 20) refl low))
    ∙ sym (shift-xor 4 (r / 2 ^ 20 * 2 ^ 20) (r % 2 ^ 20) (omega arith) (omega arith))
    ∙ ap (shift 4) (xor_shifted (r / 2 ^ 20) 20 (r % 2 ^ 20) low ∙ whole)

-- four more bits of the register that is advanced
pub next_bits : (n m d : ℕ) → m < 2 ^ 20 → d < 2 ^ 4 → shift n (m * 16 + d) ≡ bit_xor (shift 4 (shift n m)) (shift n d)
next_bits n m d hm hd =
    let inside : m * 2 ^ 4 < 2 ^ 24 = omega arith in
    let order : n + 4 ≡ 4 + n = omega arith in
    ap (shift n) (sym (xor_shifted m 4 d hd)) ∙ shift-xor n (m * 2 ^ 4) d inside (omega arith)
    ∙ ap (λ k. bit_xor k (shift n d))
    (ap (shift n) (sym (shift_small 4 20 m refl hm)) ∙ sym (shift-add n 4 m) ∙ ap (λ k. shift k m) order ∙ shift-add 4 n m)

pub four_looked_up : (r a b c d first second third fourth : ℕ) → r < 2 ^ 24 → a < 2 ^ 8 → b < 2 ^ 8 → c < 2 ^ 8 → d < 2 ^ 8
    → first ≡ shift 32 (bit_xor (r / 2 ^ 16) a * 2 ^ 16)
    → second ≡ shift 24 (bit_xor (bit_and (r / 2 ^ 8) 255) b * 2 ^ 16)
    → third ≡ shift 16 (bit_xor (bit_and r 255) c * 2 ^ 16)
    → fourth ≡ shift 8 (d * 2 ^ 16)
    → bit_xor first (bit_xor second (bit_xor third fourth)) ≡ crc_from r (a ∷ b ∷ c ∷ d ∷ [])
four_looked_up r a b c d first second third fourth hr ha hb hc hd one two three four =
    let middle : bit_and (r / 2 ^ 8) 255 ≡ r / 2 ^ 8 % 2 ^ 8 = and_mask (r / 2 ^ 8) 8 in
    let low : bit_and r 255 ≡ r % 2 ^ 8 = and_mask r 8 in
    let two_is : second ≡ shift 24 (bit_xor (r / 2 ^ 8 % 2 ^ 8) b * 2 ^ 16) = two ∙ ap (λ n. shift 24 (bit_xor n b * 2 ^ 16)) middle in
    let three_is : third ≡ shift 16 (bit_xor (r % 2 ^ 8) c * 2 ^ 16) = three ∙ ap (λ n. shift 16 (bit_xor n c * 2 ^ 16)) low in
    ap (λ n. bit_xor n (bit_xor second (bit_xor third fourth))) one
    ∙ ap (bit_xor (shift 32 (bit_xor (r / 2 ^ 16) a * 2 ^ 16)))
    (ap (λ n. bit_xor n (bit_xor third fourth)) two_is
    ∙ ap (bit_xor (shift 24 (bit_xor (r / 2 ^ 8 % 2 ^ 8) b * 2 ^ 16)))
    (ap (λ n. bit_xor n fourth) three_is ∙ ap (bit_xor (shift 16 (bit_xor (r % 2 ^ 8) c * 2 ^ 16))) four))
    ∙ sym (four_bytes r a b c d hr ha hb hc hd)

-- the register after four bytes, advanced by m bits, by four look-ups
pub four_far : (m r a b c d first second third fourth : ℕ) → r < 2 ^ 24 → a < 2 ^ 8 → b < 2 ^ 8 → c < 2 ^ 8 → d < 2 ^ 8
    → first ≡ shift (m + 32) (bit_xor (r / 2 ^ 16) a * 2 ^ 16)
    → second ≡ shift (m + 24) (bit_xor (bit_and (r / 2 ^ 8) 255) b * 2 ^ 16)
    → third ≡ shift (m + 16) (bit_xor (bit_and r 255) c * 2 ^ 16)
    → fourth ≡ shift (m + 8) (d * 2 ^ 16)
    → bit_xor first (bit_xor second (bit_xor third fourth)) ≡ shift m (crc_from r (a ∷ b ∷ c ∷ d ∷ []))
four_far m r a b c d first second third fourth hr ha hb hc hd one two three four =
    let middle : bit_and (r / 2 ^ 8) 255 ≡ r / 2 ^ 8 % 2 ^ 8 = and_mask (r / 2 ^ 8) 8 in
    let low : bit_and r 255 ≡ r % 2 ^ 8 = and_mask r 8 in
    let x : ℕ = bit_xor (r / 2 ^ 16) a * 2 ^ 16 in
    let y : ℕ = bit_xor (bit_and (r / 2 ^ 8) 255) b * 2 ^ 16 in
    let z : ℕ = bit_xor (bit_and r 255) c * 2 ^ 16 in
    let w : ℕ = d * 2 ^ 16 in
    let x_lt : shift 32 x < 2 ^ 24 = shift-lt 32 x (head_fits (bit_xor (r / 2 ^ 16) a) (head_of r a hr ha)) in
    let y_lt : shift 24 y < 2 ^ 24 = shift-lt 24 y (head_fits (bit_xor (bit_and (r / 2 ^ 8) 255) b) (xor_lt 8 (bit_and (r / 2 ^ 8) 255) b (omega (arith, middle)) hb)) in
    let z_lt : shift 16 z < 2 ^ 24 = shift-lt 16 z (head_fits (bit_xor (bit_and r 255) c) (xor_lt 8 (bit_and r 255) c (omega (arith, low)) hc)) in
    let w_lt : shift 8 w < 2 ^ 24 = shift-lt 8 w (head_fits d hd) in
    let zw_lt : bit_xor (shift 16 z) (shift 8 w) < 2 ^ 24 = xor_lt 24 (shift 16 z) (shift 8 w) z_lt w_lt in
    let yzw_lt : bit_xor (shift 24 y) (bit_xor (shift 16 z) (shift 8 w)) < 2 ^ 24 = xor_lt 24 (shift 24 y) (bit_xor (shift 16 z) (shift 8 w)) y_lt zw_lt in
    ap (λ n. bit_xor n (bit_xor second (bit_xor third fourth))) (one ∙ shift-add m 32 x)
    ∙ ap (bit_xor (shift m (shift 32 x)))
    (ap (λ n. bit_xor n (bit_xor third fourth)) (two ∙ shift-add m 24 y)
    ∙ ap (bit_xor (shift m (shift 24 y)))
    (ap (λ n. bit_xor n fourth) (three ∙ shift-add m 16 z) ∙ ap (bit_xor (shift m (shift 16 z))) (four ∙ shift-add m 8 w)
    ∙ sym (shift-xor m (shift 16 z) (shift 8 w) z_lt w_lt))
    ∙ sym (shift-xor m (shift 24 y) (bit_xor (shift 16 z) (shift 8 w)) y_lt zw_lt))
    ∙ sym (shift-xor m (shift 32 x) (bit_xor (shift 24 y) (bit_xor (shift 16 z) (shift 8 w))) x_lt yzw_lt)
    ∙ ap (shift m) (four_looked_up r a b c d (shift 32 x) (shift 24 y) (shift 16 z) (shift 8 w) hr ha hb hc hd refl refl refl refl)
