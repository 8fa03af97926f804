-- The parts of a number are its exact parts, and no others are.
use Rattle.std.proofs.Common.{◌≡◌, ◌⊎◌, ℕ, zero, suc, ◌+◌, ◌-◌, ◌*◌, ◌/◌, ◌%◌, ◌^◌, ◌<◌, ◌≤◌, ◌==◌, ◌&&◌, nat_le, Bool, true, false, if◌then◌else◌, List, length, Option, None, Some, refl, sym, ap, ◌∙◌, subst, inl, inr, arith, ℤ, pos, negsuc, ◌+ℤ◌, ◌-ℤ◌, ◌≤ℤ◌, int_le, eqb-true, eq-eqb, leb-true, leb-false, le-leb, rules, option_map}
use Rattle.std.proofs.lemmas.Bool.{cases_lt, eqb-false, lt-leb}
use Rattle.std.proofs.lemmas.Int.{ints}
use Rattle.std.proofs.lemmas.Nat.{pow-add, div-mul-add, mod-mul-add}
use Rattle.std.proofs.Common.{mul-le-mul_right, mul-lt-mul_of_pos_right}
use Rattle.scaled_decimal.specs.NumberReading.{decimal_of, trim_start, trim_end}
use Rattle.scaled_decimal.specs.NumberText.{Parts}
use Rattle.scaled_decimal.specs.Values.{Reading, Decimal}
use Rattle.rinex_lines.specs.ExactText.{HasZeros, AreEqual, number_of, AreThirteen, none, AreExactPartsOf, place_from, thirteen, parts_with, parts_of, text_of, decimal_text}
use Rattle.rinex_lines.specs.Mirrors.{ArePrinted}
use Rattle.rinex_lines.proofs.Spans.{power_pos}
use Rattle.rinex_lines.proofs.Places.{IsFirstAt, parts_by, place_found, place_below, lifted_below, lifted_least, lowered_below, lowered_is, lowered_least}
use Rattle.rinex_lines.proofs.Texts.{text_read, length-text_of}

int_true : (a b : ℤ) → a ≤ℤ b → int_le a b ≡ true
int_true a b h = grind (arith, ints)

int_from : (a b : ℤ) → int_le a b ≡ true → a ≤ℤ b
int_from a b h = grind (arith, ints)

-- ---- zero

gap : (a b : ℤ) → (k : ℕ) × ((a ≡ b +ℤ pos k) ⊎ (b ≡ a +ℤ pos k))
gap a b = by (a -ℤ b) refl
  where
    by : (d : ℤ) → a -ℤ b ≡ d → (k : ℕ) × ((a ≡ b +ℤ pos k) ⊎ (b ≡ a +ℤ pos k))
    by (pos k) e = (k, inl (omega (arith, ints, e)))
    by (negsuc k) e = (suc k, inr (omega (arith, ints, e)))

zeros_equal : (a b : Reading) → a.digits ≡ 0 → b.digits ≡ 0 → AreEqual a b
zeros_equal a b p q = let found = gap a.exponent b.exponent in by found.0 found.1
  where
    nothing : (x y : Reading) (k : ℕ) → x.digits ≡ 0 → y.digits ≡ 0 → x.exponent ≡ y.exponent +ℤ pos k → HasZeros k x y
    nothing x y k e f h = record { digits = ap (λ i. i * 10 ^ k) e ∙ omega (arith, f); exponent = h }

    by : (k : ℕ) → (a.exponent ≡ b.exponent +ℤ pos k) ⊎ (b.exponent ≡ a.exponent +ℤ pos k) → AreEqual a b
    by k (inl h) = (k, inl (nothing a b k p q h))
    by k (inr h) = (k, inr (nothing b a k q p h))

-- ---- the parts are exact

record IsWith (e : ℤ) (d : ℕ) (p : Parts) : Type 0 where
  parts : p ≡ record { digits = d; exponent = e }
  from : negsuc 98 ≤ℤ e
  to : e ≤ℤ pos 99

is_with : (e : ℤ) (d : ℕ) (p : Parts) → parts_with e (Some d) ≡ Some p → IsWith e d p
is_with e d p h = by (int_le (negsuc 98) e) (int_le e (pos 99)) refl refl h
  where
    by : (a b : Bool) → int_le (negsuc 98) e ≡ a → int_le e (pos 99) ≡ b
        → ◌≡◌ {A = Option Parts} (if a && b then Some (record { digits = d; exponent = e }) else None) (Some p) → IsWith e d p
    by true true low high is = record { parts = cc; from = int_from _ _ low; to = int_from _ _ high }
    by true false low high is = absurd (cc)
    by false b low high is = absurd (cc)

thirteen_are : (e : ℤ) (d : ℕ) (p : Parts) → IsWith e d p → 10 ^ 12 ≤ d → d < 10 ^ 13 → AreThirteen p
thirteen_are e d p w least below =
    subst AreThirteen (sym w.parts) (record { least = least; below = below; from = w.from; to = w.to })

lifted : (r : Reading) (p : Parts) (k j : ℕ) → k + j ≡ 12 → IsFirstAt r.digits k → IsWith (r.exponent +ℤ pos k) (r.digits * 10 ^ j) p → AreExactPartsOf r p
lifted r p k j e first w = record {
  equal = (
    j,
    inl (record {
      digits = ap (λ (q : Parts). q.digits) (sym w.parts);
      exponent = omega (arith, ints, e, ap (λ (q : Parts). q.exponent) w.parts);
    }),
  );
  written = inl (thirteen_are _ _ p w (lifted_least r.digits k j e first.at_most) (lifted_below r.digits k j e first.below));
}

lowered : (r : Reading) (p : Parts) (k j : ℕ) → k ≡ 12 + j → IsFirstAt r.digits k → r.digits % 10 ^ j ≡ 0
    → IsWith (r.exponent +ℤ pos k) (r.digits / 10 ^ j) p → AreExactPartsOf r p
lowered r p k j e first zeros w = record {
  equal = (
    j,
    inr (record {
      digits = ap (λ (q : Parts). q.digits * 10 ^ j) w.parts ∙ lowered_is r.digits j zeros;
      exponent = omega (arith, ints, e, ap (λ (q : Parts). q.exponent) w.parts);
    }),
  );
  written = inl (thirteen_are _ _ p w (lowered_least r.digits k j e first.at_most zeros) (lowered_below r.digits k j e first.below));
}

some_exact : (r : Reading) (p : Parts) (k : ℕ) → IsFirstAt r.digits k → parts_with (r.exponent +ℤ pos k) (thirteen k r.digits) ≡ Some p → AreExactPartsOf r p
some_exact r p k first h = by (nat_le k 12) refl h
  where
    n : ℕ
    n = r.digits

    behind : 12 < k → (b : Bool) → (n % 10 ^ (k - 12) == 0) ≡ b
        → parts_with (r.exponent +ℤ pos k) (if b then Some (n / 10 ^ (k - 12)) else None) ≡ Some p → AreExactPartsOf r p
    behind more true e is = lowered r p k (k - 12) (omega (arith, more)) first (eqb-true _ _ e) (is_with _ _ p is)
    behind more false e is = absurd (cc)

    by : (b : Bool) → nat_le k 12 ≡ b
        → parts_with (r.exponent +ℤ pos k) (if b then Some (n * 10 ^ (12 - k)) else if n % 10 ^ (k - 12) == 0 then Some (n / 10 ^ (k - 12)) else None) ≡ Some p
        → AreExactPartsOf r p
    by true e is = let few = leb-true k 12 e in lifted r p k (12 - k) (omega (arith, few)) first (is_with _ _ p is)
    by false e is = behind (leb-false k 12 e) (n % 10 ^ (k - 12) == 0) refl is

pub parts_exact : (r : Reading) (p : Parts) → r.digits < 10 ^ 18 → parts_of r ≡ Some p → AreExactPartsOf r p
parts_exact r p small h = by (r.digits == 0) refl h
  where
    k : ℕ
    k = place_from 17 r.digits

    by : (b : Bool) → (r.digits == 0) ≡ b → (if b then Some none else parts_with (r.exponent +ℤ pos k) (thirteen k r.digits)) ≡ Some p → AreExactPartsOf r p
    by true e is = let same : p ≡ none = cc in record {
      equal = zeros_equal r (number_of p) (eqb-true _ _ e) (ap (λ (q : Parts). q.digits) same);
      written = inr same;
    }
    by false e is =
        let other = eqb-false r.digits 0 e in
        some_exact r p k (place_found 17 r.digits (omega (arith, other)) small).0 is

-- ---- and no others are

with_is : (e : ℤ) (d : ℕ) → negsuc 98 ≤ℤ e → e ≤ℤ pos 99 → parts_with e (Some d) ≡ Some (record { digits = d; exponent = e })
with_is e d low high =
    ap (λ b. if b && int_le e (pos 99) then Some (record { digits = d; exponent = e }) else None) (int_true _ _ low)
    ∙ ap (λ b. if b then Some (record { digits = d; exponent = e }) else None) (int_true _ _ high)

-- the parts of a number that is not 0, whose first digit is at 10^k
parts_at : (r : Reading) (p : Parts) (k : ℕ) → r.digits < 10 ^ 18 → IsFirstAt r.digits k → thirteen k r.digits ≡ Some p.digits
    → r.exponent +ℤ pos k ≡ p.exponent → AreThirteen p → parts_of r ≡ Some p
parts_at r p k small first digits exponent are =
    sym (parts_by r.digits k r.exponent p.exponent (Some p.digits) first small (sym exponent) (sym digits))
    ∙ with_is p.exponent p.digits are.from are.to

-- the digits of the number with zeros behind them are the thirteen
few : (r : Reading) (p : Parts) (z : ℕ) → r.digits < 10 ^ 18 → HasZeros z r (number_of p) → AreThirteen p → parts_of r ≡ Some p
few r p z small zeros are =
    let some : 0 < r.digits = by_some (cases_lt 0 r.digits) in
    let found = place_found 17 r.digits some small in
    at (place_from 17 r.digits) found.0
  where
    n : ℕ
    n = r.digits

    by_some : (0 < n) ⊎ (n ≤ 0) → 0 < n
    by_some (inl h) = h
    by_some (inr h) =
        let no_digits : n ≡ 0 = omega (arith, h) in
        let nothing : n * 10 ^ z ≡ 0 * 10 ^ z = ap (λ i. i * 10 ^ z) no_digits in
        absurd (omega (arith, nothing, zeros.digits, are.least))

    sum_is : (k : ℕ) → IsFirstAt n k → k + z ≡ 12
    sum_is k first =
        let low : 10 ^ (k + z) ≤ p.digits = let times : 10 ^ k * 10 ^ z ≤ n * 10 ^ z = mul-le-mul_right (10 ^ z) first.at_most in omega (arith, times, zeros.digits, pow-add 10 k z) in
        let high : p.digits < 10 ^ (suc k + z) = let times : n * 10 ^ z < 10 ^ suc k * 10 ^ z = mul-lt-mul_of_pos_right first.below (power_pos z) in omega (arith, times, zeros.digits, pow-add 10 (suc k) z) in
        let above = place_below p.digits (k + z) 13 low are.below in
        let below = place_below p.digits 12 (suc k + z) are.least high in
        omega (arith, above, below)

    at : (k : ℕ) → IsFirstAt n k → parts_of r ≡ Some p
    at k first =
        let sum = sum_is k first in
        let gap_is : 12 - k ≡ z = omega (arith, sum) in
        parts_at r p k small first
        (ap (λ b. if b then Some (n * 10 ^ (12 - k)) else if n % 10 ^ (k - 12) == 0 then Some (n / 10 ^ (k - 12)) else None) (le-leb k 12 (omega (arith, sum)))
        ∙ ap (λ i. Some (n * 10 ^ i)) gap_is ∙ ap Some zeros.digits)
        (omega (arith, ints, sum, zeros.exponent)) are

-- the thirteen digits with zeros behind them are the digits of the number
many : (r : Reading) (p : Parts) (z : ℕ) → r.digits < 10 ^ 18 → HasZeros (suc z) (number_of p) r → AreThirteen p → parts_of r ≡ Some p
many r p z small zeros are =
    parts_at r p (12 + suc z) small (record { at_most = low; below = high })
    (ap (λ b. if b then Some (n * 10 ^ (12 - (12 + suc z))) else if n % 10 ^ (12 + suc z - 12) == 0 then Some (n / 10 ^ (12 + suc z - 12)) else None) (lt-leb (12 + suc z) 12 (omega arith))
    ∙ ap (λ i. if n % 10 ^ i == 0 then Some (n / 10 ^ i) else None) gap_is
    ∙ ap (λ b. if b then Some (n / 10 ^ suc z) else None) (eq-eqb _ _ rest) ∙ ap Some whole)
    (omega (arith, ints, zeros.exponent)) are
  where
    n : ℕ
    n = r.digits

    gap_is : 12 + suc z - 12 ≡ suc z
    gap_is = omega arith

    split : p.digits * 10 ^ suc z + 0 ≡ n
    split = omega (arith, zeros.digits)

    whole : n / 10 ^ suc z ≡ p.digits
    whole = ap (λ i. i / 10 ^ suc z) (sym split) ∙ div-mul-add p.digits (10 ^ suc z) 0 (power_pos (suc z))

    rest : n % 10 ^ suc z ≡ 0
    rest = ap (λ i. i % 10 ^ suc z) (sym split) ∙ mod-mul-add p.digits (10 ^ suc z) 0 (power_pos (suc z))

    low : 10 ^ (12 + suc z) ≤ n
    low = let times : 10 ^ 12 * 10 ^ suc z ≤ p.digits * 10 ^ suc z = mul-le-mul_right (10 ^ suc z) are.least in omega (arith, times, split, pow-add 10 12 (suc z))

    high : n < 10 ^ suc (12 + suc z)
    high =
        let times : p.digits * 10 ^ suc z < 10 ^ 13 * 10 ^ suc z = mul-lt-mul_of_pos_right are.below (power_pos (suc z)) in
        let sum : suc (12 + suc z) ≡ 13 + suc z = omega arith in
        let power : 10 ^ suc (12 + suc z) ≡ 10 ^ 13 * 10 ^ suc z = ap (λ i. 10 ^ i) sum ∙ pow-add 10 13 (suc z) in
        omega (arith, times, split, power)

turned : (a b : Reading) → HasZeros 0 a b → HasZeros 0 b a
turned a b h = record { digits = omega (arith, h.digits); exponent = omega (arith, ints, h.exponent) }

zero_digits : (r : Reading) → AreEqual r (number_of none) → r.digits ≡ 0
zero_digits r (k, inl h) = by (cases_lt 0 r.digits)
  where
    by : (0 < r.digits) ⊎ (r.digits ≤ 0) → r.digits ≡ 0
    by (inl some) = let times : 0 * 10 ^ k < r.digits * 10 ^ k = mul-lt-mul_of_pos_right some (power_pos k) in absurd (omega (arith, times, h.digits))
    by (inr none) = omega (arith, none)
zero_digits r (k, inr h) = let nothing : 0 * 10 ^ k ≡ r.digits = h.digits in omega (arith, nothing)

pub exact_parts : (r : Reading) (p : Parts) → r.digits < 10 ^ 18 → AreExactPartsOf r p → parts_of r ≡ Some p
exact_parts r p small are = by are.written are.equal
  where
    by : AreThirteen p ⊎ (p ≡ none) → AreEqual r (number_of p) → parts_of r ≡ Some p
    by (inr is) equal =
        let no_digits : r.digits ≡ 0 = zero_digits r (subst (λ (q : Parts). AreEqual r (number_of q)) is equal) in
        ap (λ b. if b then Some none else parts_with (r.exponent +ℤ pos (place_from 17 r.digits)) (thirteen (place_from 17 r.digits) r.digits)) (eq-eqb r.digits 0 no_digits)
        ∙ ap Some (sym is)
    by (inl thirteen) (k, inl h) = few r p k small h thirteen
    by (inl thirteen) (zero, inr h) = few r p zero small (turned (number_of p) r h) thirteen
    by (inl thirteen) (suc k, inr h) = many r p k small h thirteen

-- ---- texts

pub printed : (p : Parts) → AreThirteen p ⊎ (p ≡ none) → ArePrinted p.digits p.exponent
printed p (inl h) = record { below = h.below; from = h.from; to = h.to }
printed p (inr e) = subst (λ (q : Parts). ArePrinted q.digits q.exponent) (sym e) (record { below = omega arith; from = search rules; to = search rules })

pub record IsKept (d : Decimal) (text : List ℕ) : Type 0 where
  pub decimal : Decimal
  pub read : decimal_of (trim_end (trim_start text)) ≡ Some decimal
  pub equal : AreEqual d.value decimal.value
  pub sign : (decimal.minus ≡ d.minus) ⊎ (decimal.value.digits ≡ 0)

pub text_kept : (d : Decimal) (text : List ℕ) → d.value.digits < 10 ^ 18 → decimal_text d ≡ Some text → IsKept d text
text_kept d text small h = by (parts_of d.value) refl h
  where
    by : (o : Option Parts) → parts_of d.value ≡ o → option_map (text_of d.minus) o ≡ Some text → IsKept d text
    by None e is = absurd (cc)
    by (Some p) e is =
        let exact = parts_exact d.value p small e in
        let read = text_read d.minus p (printed p exact.written) in
        let same : text_of d.minus p ≡ text = cc in
        record {
          decimal = read.decimal;
          read = ap (λ t. decimal_of (trim_end (trim_start t))) (sym same) ∙ read.read;
          equal = subst (AreEqual d.value) (sym read.value) exact.equal;
          sign = read.sign;
        }

pub text_columns : (d : Decimal) (text : List ℕ) → decimal_text d ≡ Some text → length text ≡ 19
text_columns d text h = by (parts_of d.value) h
  where
    by : (o : Option Parts) → option_map (text_of d.minus) o ≡ Some text → length text ≡ 19
    by None is = absurd (cc)
    by (Some p) is = let same : text_of d.minus p ≡ text = cc in ap length (sym same) ∙ length-text_of d.minus p
