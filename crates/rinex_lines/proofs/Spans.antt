-- Digits behind other digits, and what a mantissa and an exponent say.
use Rattle.std.proofs.Common.{◌≡◌, ℕ, ◌+◌, ◌-◌, ◌*◌, ◌^◌, ◌<◌, ◌≤◌, Bool, true, false, ◌&&◌, nat_le, if◌then◌else◌, List, [], ◌∷◌, Some, None, Option, option_map, refl, sym, ap, ap₂, ◌∙◌, arith, ℤ, pos, ◌-ℤ◌, le-leb, mul-le-mul_right}
use Rattle.std.proofs.Math.Nat.{one-le-pow, pow-le-pow_right}
use Rattle.std.proofs.lemmas.Nat.{pow-add}
use Rattle.scaled_decimal.specs.NumberReading.{Span, span, is_decimal, Mantissa, mantissa, Reading, reading, exponent_after}

pub power_pos : (k : ℕ) → 0 < 10 ^ k
power_pos k = let one : 1 ≤ 10 ^ k = one-le-pow k 10 (omega arith) in omega arith

-- digits behind the k digits of n
abbrev behind : ℕ → ℕ → Span → Span
behind n k s = record { number = n * 10 ^ s.count + s.number; count = k + s.count; rest = s.rest }

spans : (cs : List ℕ) (n k m j : ℕ) → span (n * 10 ^ j + m) (k + j) cs ≡ behind n k (span m j cs)
spans [] n k m j = refl
spans (c ∷ cs) n k m j = by (is_decimal c) (spans cs n k (m * 10 + (c - 48)) (j + 1))
  where
    power : 10 ^ (j + 1) ≡ 10 ^ j * 10
    power = pow-add 10 j 1

    product : n * 10 ^ (j + 1) ≡ n * (10 ^ j * 10)
    product = ap (λ i. n * i) power

    number : (n * 10 ^ j + m) * 10 + (c - 48) ≡ n * 10 ^ (j + 1) + (m * 10 + (c - 48))
    number = omega (arith, product)

    count : k + j + 1 ≡ k + (j + 1)
    count = omega arith

    by : (b : Bool) → span (n * 10 ^ (j + 1) + (m * 10 + (c - 48))) (k + (j + 1)) cs ≡ behind n k (span (m * 10 + (c - 48)) (j + 1) cs)
        → (if b then span ((n * 10 ^ j + m) * 10 + (c - 48)) (k + j + 1) cs else record { number = n * 10 ^ j + m; count = k + j; rest = c ∷ cs })
        ≡ behind n k (if b then span (m * 10 + (c - 48)) (j + 1) cs else record { number = m; count = j; rest = c ∷ cs })
    by true more = ap₂ (λ x y. span x y cs) number count ∙ more
    by false more = refl

-- the digits at the start of a text, read on their own
pub span_behind : (n k : ℕ) (cs : List ℕ) (s : Span) → s ≡ span 0 0 cs
    → ◌≡◌ {A = Span} (record { number = n * 10 ^ s.count + s.number; count = k + s.count; rest = s.rest }) (span n k cs)
span_behind n k cs s e =
    let number : n * 10 ^ 0 + 0 ≡ n = omega arith in
    let count : k + 0 ≡ k = omega arith in
    ap (behind n k) e ∙ sym (spans cs n k 0 0) ∙ ap₂ (λ x y. span x y cs) number count

pub below_behind : (n k m j : ℕ) → n < 10 ^ k → m < 10 ^ j → n * 10 ^ j + m < 10 ^ (k + j)
below_behind n k m j p q =
    let power : 10 ^ (k + j) ≡ 10 ^ k * 10 ^ j = pow-add 10 k j in
    let times : (n + 1) * 10 ^ j ≤ 10 ^ k * 10 ^ j = mul-le-mul_right (10 ^ j) (omega arith) in
    omega (arith, power, times)

pub below_power : (n k j : ℕ) → n < 10 ^ k → k ≤ j → n < 10 ^ j
below_power n k j p q = let more : 10 ^ k ≤ 10 ^ j = pow-le-pow_right (omega arith) q in omega (arith, more)

abbrev read_from : Mantissa → Option Reading
read_from m =
    if nat_le 1 m.count && nat_le m.count 18
    then option_map (λ e. record { digits = m.number; exponent = e -ℤ pos m.places }) (exponent_after m.rest)
    else None

-- a mantissa of 1 to 18 digits and an exponent give a value
pub reading_is : (text : List ℕ) (m : Mantissa) (e x : ℤ) → m ≡ mantissa text → 1 ≤ m.count → m.count ≤ 18 → exponent_after m.rest ≡ Some e
    → x ≡ e -ℤ pos m.places → reading text ≡ Some (record { digits = m.number; exponent = x })
reading_is text m e x is from to after exponent =
    ap read_from (sym is)
    ∙ ap (λ b. if b && nat_le m.count 18 then option_map (λ i. record { digits = m.number; exponent = i -ℤ pos m.places }) (exponent_after m.rest) else None) (le-leb 1 m.count from)
    ∙ ap (λ b. if b then option_map (λ i. record { digits = m.number; exponent = i -ℤ pos m.places }) (exponent_after m.rest) else None) (le-leb m.count 18 to)
    ∙ ap (option_map (λ i. record { digits = m.number; exponent = i -ℤ pos m.places })) after
    ∙ ap (λ i. Some (record { digits = m.number; exponent = i })) (sym exponent)
