-- The text of parts is read as their number, and has 19 columns.
use Rattle.std.proofs.Common.{◌≡◌, ℕ, zero, suc, ◌+◌, ◌*◌, ◌/◌, ◌%◌, ◌^◌, ◌<◌, ◌≤◌, Bool, true, false, ◌==◌, ◌&&◌, nat_le, if◌then◌else◌, List, [], ◌∷◌, ◌++◌, length, Some, None, Option, option_map, refl, sym, ap, ◌∙◌, arith, ℤ, pos, negsuc, ◌-ℤ◌, ◌≤ℤ◌, unsigned_abs, append-nil, inl, inr, ◌⊎◌, length-append}
use Rattle.std.proofs.lemmas.Int.{ints}
use Rattle.scaled_decimal.specs.NumberText.{Parts, digits, body, exponent_sign, exponent_text}
use Rattle.scaled_decimal.specs.NumberReading.{Span, span, is_nothing, Mantissa, mantissa, with_places, after_whole, Reading, reading, exponent_after, exponent_digits, signed, trim_start, trim_end, Decimal, decimal_of, with_sign}
use Rattle.scaled_decimal.proofs.Surface.{kept_behind, no_blank, span-digits}
use Rattle.rinex_lines.specs.ExactText.{number_of, text_of}
use Rattle.rinex_lines.specs.Mirrors.{ArePrinted}

two_digits_read : (minus : Bool) (k : ℕ) → k ≤ 99 → exponent_digits minus (digits 2 k) ≡ Some (signed minus k)
two_digits_read minus k small =
    let read : span 0 0 (digits 2 k) ≡ record { number = k; count = 2; rest = [] }
    = ap (span 0 0) (sym (append-nil (digits 2 k))) ∙ span-digits 2 0 0 k [] (omega arith) ∙ ap (λ i. span i 2 []) (omega arith) in
    ap (λ (s : Span). if is_nothing s.rest && nat_le 1 s.count && nat_le s.count 3 then Some (signed minus s.number) else None) read

exponent_read : (z : ℤ) → negsuc 98 ≤ℤ z → z ≤ℤ pos 99 → exponent_after (68 ∷ exponent_text z) ≡ Some z
exponent_read (pos k) low high = two_digits_read false k (omega (arith, ints))
exponent_read (negsuc k) low high = two_digits_read true (suc k) (omega (arith, ints))

abbrev read_from : Mantissa → Option Reading
read_from m =
    if nat_le 1 m.count && nat_le m.count 18
    then option_map (λ e. record { digits = m.number; exponent = e -ℤ pos m.places }) (exponent_after m.rest)
    else None

abbrev after_span : Span → Mantissa
after_span s = after_whole s.number s.count s.rest

-- thirteen digits with a point after the first are read as their number
mantissa_read : (n : ℕ) (tail : List ℕ) → n < 10 ^ 13
    → mantissa (digits 1 (n / 10 ^ 12) ++ 46 ∷ (digits 12 (n % 10 ^ 12) ++ 68 ∷ tail)) ≡ record { number = n; count = 13; places = 12; rest = 68 ∷ tail }
mantissa_read n tail h =
    let first = span-digits 1 0 0 (n / 10 ^ 12) (46 ∷ (digits 12 (n % 10 ^ 12) ++ 68 ∷ tail)) (omega arith) in
    let second = span-digits 12 (0 * 10 ^ 1 + n / 10 ^ 12) 1 (n % 10 ^ 12) (68 ∷ tail) (omega arith) in
    let number : (0 * 10 ^ 1 + n / 10 ^ 12) * 10 ^ 12 + n % 10 ^ 12 ≡ n = omega arith in
    ap after_span first ∙ ap (with_places 1) second ∙ ap (λ i. with_places 1 (span i 13 (68 ∷ tail))) number

reading_body : (p : Parts) → ArePrinted p.digits p.exponent → reading (body p) ≡ Some (number_of p)
reading_body p h =
    ap read_from (mantissa_read p.digits (exponent_text p.exponent) h.below)
    ∙ ap (option_map (λ e. record { digits = p.digits; exponent = e -ℤ pos 12 })) (exponent_read p.exponent h.from h.to)

-- the last byte of a body is a digit
exponent_kept : (z : ℤ) → trim_end (68 ∷ exponent_text z) ≡ 68 ∷ exponent_text z
unfolding digits
exponent_kept z =
    let k = unsigned_abs z in
    kept_behind (68 ∷ exponent_sign z ∷ (48 + k / 10 % 10) ∷ []) (48 + k % 10) [] (no_blank (48 + k % 10) (omega arith))

body_kept : (c : ℕ) (p : Parts) → trim_end (c ∷ body p) ≡ c ∷ body p
body_kept c p =
    let tail : List ℕ = digits 12 (p.digits % 10 ^ 12) in
    let end = kept_behind (46 ∷ tail) 68 (exponent_text p.exponent) (exponent_kept p.exponent) in
    kept_behind (c ∷ digits 1 (p.digits / 10 ^ 12)) 46 (tail ++ 68 ∷ exponent_text p.exponent) end

no_digit : (x c : ℕ) → c < 48 → (48 + x % 10 == c) ≡ false
no_digit x c h = grind arith

read_blank : (p : Parts) → ArePrinted p.digits p.exponent → decimal_of (trim_end (trim_start (32 ∷ body p))) ≡ Some (record { minus = false; value = number_of p })
unfolding digits
read_blank p h =
    let c = 48 + p.digits / 10 ^ 12 % 10 in
    let tail : List ℕ = digits 12 (p.digits % 10 ^ 12) in
    let end = kept_behind (46 ∷ tail) 68 (exponent_text p.exponent) (exponent_kept p.exponent) in
    let kept : trim_end (body p) ≡ body p
    = kept_behind (c ∷ []) 46 (tail ++ 68 ∷ exponent_text p.exponent) end in
    ap (λ b. decimal_of (trim_end (if b then trim_start (46 ∷ (tail ++ 68 ∷ exponent_text p.exponent)) else body p))) (no_digit (p.digits / 10 ^ 12) 32 (omega arith))
    ∙ ap decimal_of kept
    ∙ ap (λ b. if b then with_sign true (reading (46 ∷ (tail ++ 68 ∷ exponent_text p.exponent)))
    else if c == 43 then with_sign false (reading (46 ∷ (tail ++ 68 ∷ exponent_text p.exponent))) else with_sign false (reading (body p))) (no_digit (p.digits / 10 ^ 12) 45 (omega arith))
    ∙ ap (λ b. if b then with_sign false (reading (46 ∷ (tail ++ 68 ∷ exponent_text p.exponent))) else with_sign false (reading (body p))) (no_digit (p.digits / 10 ^ 12) 43 (omega arith))
    ∙ ap (with_sign false) (reading_body p h)

read_minus : (p : Parts) → ArePrinted p.digits p.exponent → decimal_of (trim_end (trim_start (45 ∷ body p))) ≡ Some (record { minus = true; value = number_of p })
read_minus p h = ap decimal_of (body_kept 45 p) ∙ ap (with_sign true) (reading_body p h)

-- a text is read as its parts; of zero without a sign
pub record IsReadAs (minus : Bool) (p : Parts) (text : List ℕ) : Type 0 where
  pub decimal : Decimal
  pub read : decimal_of (trim_end (trim_start text)) ≡ Some decimal
  pub value : decimal.value ≡ number_of p
  pub sign : (decimal.minus ≡ minus) ⊎ (decimal.value.digits ≡ 0)

pub text_read : (minus : Bool) (p : Parts) → ArePrinted p.digits p.exponent → IsReadAs minus p (text_of minus p)
text_read false p h = record {
  decimal = record { minus = false; value = number_of p };
  read = read_blank p h;
  value = refl;
  sign = inl refl;
}
text_read true p h = by (p.digits == 0) refl
  where
    by : (b : Bool) → (p.digits == 0) ≡ b → IsReadAs true p ((if b then 32 else 45) ∷ body p)
    by true e = record {
      decimal = record { minus = false; value = number_of p };
      read = read_blank p h;
      value = refl;
      sign = inr (grind (arith, e));
    }
    by false e = record {
      decimal = record { minus = true; value = number_of p };
      read = read_minus p h;
      value = refl;
      sign = inl refl;
    }

length-digits : (k n : ℕ) → length (digits k n) ≡ k
unfolding digits
length-digits zero n = refl
length-digits (suc k) n = length-append (digits k (n / 10)) ((48 + n % 10) ∷ []) ∙ omega (arith, length-digits k (n / 10))

pub length-text_of : (minus : Bool) (p : Parts) → length (text_of minus p) ≡ 19
length-text_of minus p =
    let first : List ℕ = digits 1 (p.digits / 10 ^ 12) in
    let tail : List ℕ = digits 12 (p.digits % 10 ^ 12) in
    omega (
      arith,
      length-append first (46 ∷ (tail ++ 68 ∷ exponent_text p.exponent)),
      length-append tail (68 ∷ exponent_text p.exponent),
      length-digits 1 (p.digits / 10 ^ 12),
      length-digits 12 (p.digits % 10 ^ 12),
      length-digits 2 (unsigned_abs p.exponent),
    )
