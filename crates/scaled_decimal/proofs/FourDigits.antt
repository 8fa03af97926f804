-- Four digits that are read at once.
use Rattle.std.proofs.Common.{◌≡◌, ℕ, ◌+◌, ◌-◌, ◌*◌, ◌/◌, ◌%◌, ◌^◌, ◌<◌, ◌≤◌, true, false, List, [], ◌∷◌, length, get_or, drop, bit_and, w32, refl, sym, ap, ◌∙◌, arith}
use Rattle.std.specs.Int.{from_le_bytes}
use Rattle.std.proofs.lemmas.Nat.{and_block, and_mask, and_le_r}
use Rattle.scaled_decimal.specs.NumberReading.{span, is_decimal}
use Rattle.scaled_decimal.specs.Mirrors.{IsUsualMantissa}
use Rattle.scaled_decimal.proofs.UsualLemmas.{run_more, usual_mantissa_is}

-- the higher four bits of a byte
high_part : (x : ℕ) → x < 256 → bit_and x 240 ≡ x / 16 * 16
high_part x h =
    let parts : x ≡ x / 16 * 2 ^ 4 + x % 16 = omega arith in
    let block : bit_and (x / 16 * 2 ^ 4 + x % 16) (15 * 2 ^ 4 + 0) ≡ bit_and (x / 16) 15 * 2 ^ 4 + bit_and (x % 16) 0
    = and_block 4 (x / 16) 15 (x % 16) 0 (omega arith) (omega arith) in
    let mask : bit_and (x / 16) (2 ^ 4 - 1) ≡ x / 16 % 2 ^ 4 = and_mask (x / 16) 4 in
    let none : bit_and (x % 16) 0 ≤ 0 = and_le_r (x % 16) 0 in
    ap (λ n. bit_and n 240) parts ∙ block ∙ omega arith

-- the higher four bits of four bytes
high_parts : (a b c d : ℕ) → a < 256 → b < 256 → c < 256 → d < 256
    → bit_and (((d * 2 ^ 8 + c) * 2 ^ 8 + b) * 2 ^ 8 + a) 4042322160 ≡ ((d / 16 * 16 * 2 ^ 8 + c / 16 * 16) * 2 ^ 8 + b / 16 * 16) * 2 ^ 8 + a / 16 * 16
high_parts a b c d ha hb hc hd =
    and_block 8 ((d * 2 ^ 8 + c) * 2 ^ 8 + b) 15790320 a 240 ha (omega arith)
    ∙ ap (λ n. n * 2 ^ 8 + bit_and a 240) (and_block 8 (d * 2 ^ 8 + c) 61680 b 240 hb (omega arith)
    ∙ ap (λ n. n * 2 ^ 8 + bit_and b 240) (and_block 8 d 240 c 240 hc (omega arith)))
    ∙ ap (λ n. ((n * 2 ^ 8 + bit_and c 240) * 2 ^ 8 + bit_and b 240) * 2 ^ 8 + bit_and a 240) (high_part d hd)
    ∙ ap (λ n. ((d / 16 * 16 * 2 ^ 8 + n) * 2 ^ 8 + bit_and b 240) * 2 ^ 8 + bit_and a 240) (high_part c hc)
    ∙ ap (λ n. ((d / 16 * 16 * 2 ^ 8 + c / 16 * 16) * 2 ^ 8 + n) * 2 ^ 8 + bit_and a 240) (high_part b hb)
    ∙ ap (λ n. ((d / 16 * 16 * 2 ^ 8 + c / 16 * 16) * 2 ^ 8 + b / 16 * 16) * 2 ^ 8 + n) (high_part a ha)

-- the number of four bytes, least first
pub four_bytes : (a b c d : ℕ) → from_le_bytes w32 (a ∷ b ∷ c ∷ d ∷ []) ≡ ((d * 2 ^ 8 + c) * 2 ^ 8 + b) * 2 ^ 8 + a
four_bytes a b c d = omega arith

-- the four are from 48 to 63
pub record AreFour (a b c d m : ℕ) : Type 0 where
  pub a_from : 48 ≤ a
  pub b_from : 48 ≤ b
  pub c_from : 48 ≤ c
  pub d_from : 48 ≤ d
  pub a_to : a ≤ m
  pub b_to : b ≤ m
  pub c_to : c ≤ m
  pub d_to : d ≤ m

pub are_high : (a b c d n : ℕ) → a < 256 → b < 256 → c < 256 → d < 256 → n ≡ ((d * 2 ^ 8 + c) * 2 ^ 8 + b) * 2 ^ 8 + a
    → bit_and n 4042322160 ≡ 808464432 → AreFour a b c d 63
are_high a b c d n ha hb hc hd is high =
    let same : ((d / 16 * 16 * 2 ^ 8 + c / 16 * 16) * 2 ^ 8 + b / 16 * 16) * 2 ^ 8 + a / 16 * 16 ≡ 808464432
    = sym (high_parts a b c d ha hb hc hd) ∙ ap (λ i. bit_and i 4042322160) (sym is) ∙ high in
    record {
      a_from = omega arith;
      b_from = omega arith;
      c_from = omega arith;
      d_from = omega arith;
      a_to = omega arith;
      b_to = omega arith;
      c_to = omega arith;
      d_to = omega arith;
    }

-- the four bytes of a text from an offset on
abbrev pub are_four_at : List ℕ → ℕ → ℕ → Type 0
are_four_at t i m = AreFour (get_or t i 0) (get_or t (i + 1) 0) (get_or t (i + 2) 0) (get_or t (i + 3) 0) m

-- their number, least first
abbrev pub bytes_at : List ℕ → ℕ → ℕ
bytes_at t i = ((get_or t (i + 3) 0 * 2 ^ 8 + get_or t (i + 2) 0) * 2 ^ 8 + get_or t (i + 1) 0) * 2 ^ 8 + get_or t i 0

pub number_at : (t : List ℕ) (i n : ℕ) → n ≡ from_le_bytes w32 (get_or t i 0 ∷ get_or t (i + 1) 0 ∷ get_or t (i + 2) 0 ∷ get_or t (i + 3) 0 ∷ []) → n ≡ bytes_at t i
number_at t i n is = is ∙ four_bytes (get_or t i 0) (get_or t (i + 1) 0) (get_or t (i + 2) 0) (get_or t (i + 3) 0)

pub high_at : (t : List ℕ) (i n : ℕ) → ((j : ℕ) → get_or t j 0 < 256) → n ≡ bytes_at t i → bit_and n 4042322160 ≡ 808464432 → are_four_at t i 63
high_at t i n fit is high = are_high _ _ _ _ n (fit i) (fit (i + 1)) (fit (i + 2)) (fit (i + 3)) is high

-- the four are digits
pub are_digits : (a b c d n : ℕ) → AreFour a b c d 63 → n ≡ ((d * 2 ^ 8 + c) * 2 ^ 8 + b) * 2 ^ 8 + a
    → bit_and (n + 101058054) 4042322160 ≡ 808464432 → AreFour a b c d 57
are_digits a b c d n h is high =
    let more = are_high (a + 6) (b + 6) (c + 6) (d + 6) (n + 101058054) (omega (arith, h.a_to)) (omega (arith, h.b_to)) (omega (arith, h.c_to))
    (omega (arith, h.d_to)) (omega (arith, is)) high in
    record {
      a_from = h.a_from;
      b_from = h.b_from;
      c_from = h.c_from;
      d_from = h.d_from;
      a_to = omega (arith, more.a_to);
      b_to = omega (arith, more.b_to);
      c_to = omega (arith, more.c_to);
      d_to = omega (arith, more.d_to);
    }

pub high_fits : (a b c d n : ℕ) → AreFour a b c d 63 → n ≡ ((d * 2 ^ 8 + c) * 2 ^ 8 + b) * 2 ^ 8 + a → n ≤ 1061109567
high_fits a b c d n h is = omega (arith, is, h.a_to, h.b_to, h.c_to, h.d_to)

pub digits_fit : (a b c d n : ℕ) → AreFour a b c d 57 → n ≡ ((d * 2 ^ 8 + c) * 2 ^ 8 + b) * 2 ^ 8 + a → n ≤ 960051513
digits_fit a b c d n h is = omega (arith, is, h.a_to, h.b_to, h.c_to, h.d_to)

-- the number of the four, by their pairs
pub by_pairs : (a b c d n p : ℕ) → AreFour a b c d 57 → n ≡ ((d * 2 ^ 8 + c) * 2 ^ 8 + b) * 2 ^ 8 + a
    → p ≡ (n - 808464432) * 10 + (n - 808464432) / 256
    → p % 256 * 100 + p / 65536 % 256 ≡ (((a - 48) * 10 + (b - 48)) * 10 + (c - 48)) * 10 + (d - 48)
by_pairs a b c d n p h is p_is =
    let e : ℕ = a - 48 in
    let f : ℕ = b - 48 in
    let g : ℕ = c - 48 in
    let i : ℕ = d - 48 in
    let whole : n - 808464432 ≡ ((i * 256 + g) * 256 + f) * 256 + e = omega (arith, is, h.a_from, h.b_from, h.c_from, h.d_from) in
    let shifted : (n - 808464432) / 256 ≡ (i * 256 + g) * 256 + f = omega (arith, whole, h.a_to) in
    let pairs : p ≡ (i * 10 * 65536 + (10 * g + i) * 256) * 256 + (10 * f + g) * 256 + (10 * e + f) = omega (arith, p_is, whole, shifted) in
    let first : p % 256 ≡ 10 * e + f = omega (arith, pairs, h.a_to, h.b_to) in
    let third : p / 65536 % 256 ≡ 10 * g + i = omega (arith, pairs, h.a_to, h.b_to, h.c_to, h.d_to) in
    omega (arith, first, third)

decimal_is : (c : ℕ) → 48 ≤ c → c ≤ 57 → is_decimal c ≡ true
decimal_is c from to = grind arith

pub four_read : (text : List ℕ) (at n m k : ℕ) → at + 4 ≤ length text → AreFour (get_or text at 0) (get_or text (at + 1) 0) (get_or text (at + 2) 0) (get_or text (at + 3) 0) 57
    → n ≡ (((get_or text at 0 - 48) * 10 + (get_or text (at + 1) 0 - 48)) * 10 + (get_or text (at + 2) 0 - 48)) * 10 + (get_or text (at + 3) 0 - 48)
    → span m k (drop at text) ≡ span (m * 10000 + n) (k + 4) (drop (at + 4) text)
four_read text at n m k inside h is =
    let a : ℕ = get_or text at 0 - 48 in
    let b : ℕ = get_or text (at + 1) 0 - 48 in
    let c : ℕ = get_or text (at + 2) 0 - 48 in
    let d : ℕ = get_or text (at + 3) 0 - 48 in
    let number : (((m * 10 + a) * 10 + b) * 10 + c) * 10 + d ≡ m * 10000 + n = omega (arith, is) in
    let count : k + 1 + 1 + 1 + 1 ≡ k + 4 = omega arith in
    let second : at + 1 + 1 ≡ at + 2 = omega arith in
    let third : at + 2 + 1 ≡ at + 3 = omega arith in
    let fourth : at + 3 + 1 ≡ at + 4 = omega arith in
    run_more text m k at a (omega (arith, inside)) (decimal_is (get_or text at 0) h.a_from h.a_to) refl
    ∙ run_more text (m * 10 + a) (k + 1) (at + 1) b (omega (arith, inside)) (decimal_is (get_or text (at + 1) 0) h.b_from h.b_to) refl
    ∙ ap (λ i. span ((m * 10 + a) * 10 + b) (k + 1 + 1) (drop i text)) second
    ∙ run_more text ((m * 10 + a) * 10 + b) (k + 1 + 1) (at + 2) c (omega (arith, inside)) (decimal_is (get_or text (at + 2) 0) h.c_from h.c_to) refl
    ∙ ap (λ i. span (((m * 10 + a) * 10 + b) * 10 + c) (k + 1 + 1 + 1) (drop i text)) third
    ∙ run_more text (((m * 10 + a) * 10 + b) * 10 + c) (k + 1 + 1 + 1) (at + 3) d (omega (arith, inside)) (decimal_is (get_or text (at + 3) 0) h.d_from h.d_to) refl
    ∙ ap (λ i. span ((((m * 10 + a) * 10 + b) * 10 + c) * 10 + d) (k + 1 + 1 + 1 + 1) (drop i text)) fourth
    ∙ ap (λ i. span i (k + 1 + 1 + 1 + 1) (drop (at + 4) text)) number
    ∙ ap (λ j. span (m * 10000 + n) j (drop (at + 4) text)) count

pub four_below : (a b c d n : ℕ) → AreFour a b c d 57 → n ≡ (((a - 48) * 10 + (b - 48)) * 10 + (c - 48)) * 10 + (d - 48) → n < 10000
four_below a b c d n h is = omega (arith, is, h.a_to, h.b_to, h.c_to, h.d_to)

-- twelve digits in fours behind the first
pub mantissa_in_fours : (text : List ℕ) (d a b c n : ℕ) → length text ≡ 19 → is_decimal (get_or text 1 0) ≡ true → d ≡ get_or text 1 0 - 48 → d < 10
    → get_or text 2 0 ≡ 46 → is_decimal (get_or text 15 0) ≡ false → a < 10000 → b < 10000 → c < 10000
    → ((m k : ℕ) → span m k (drop 3 text) ≡ span (m * 10000 + a) (k + 4) (drop 7 text))
    → ((m k : ℕ) → span m k (drop 7 text) ≡ span (m * 10000 + b) (k + 4) (drop 11 text))
    → ((m k : ℕ) → span m k (drop 11 text) ≡ span (m * 10000 + c) (k + 4) (drop 15 text))
    → n ≡ ((d * 10000 + a) * 10000 + b) * 10000 + c → IsUsualMantissa text n
mantissa_in_fours text d a b c n long digit d_is d_to point other a_to b_to c_to first second third is =
    usual_mantissa_is text d n long digit d_is point other
    (λ k.
    let count : k + 4 + 4 + 4 ≡ k + 12 = omega arith in
    first d k ∙ second (d * 10000 + a) (k + 4) ∙ third ((d * 10000 + a) * 10000 + b) (k + 4 + 4)
    ∙ ap (λ i. span i (k + 4 + 4 + 4) (drop 15 text)) (sym is) ∙ ap (λ j. span n j (drop 15 text)) count)
    (omega (arith, is, d_to, a_to, b_to, c_to))
