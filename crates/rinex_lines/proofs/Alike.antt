-- Equal numbers have one exact text, and an exact text is its own.
use Rattle.std.proofs.Common.{◌≡◌, ◌⊎◌, ℕ, ◌+◌, ◌-◌, ◌*◌, ◌^◌, ◌<◌, ◌≤◌, Bool, true, false, if◌then◌else◌, List, ◌∷◌, Option, None, Some, option_map, refl, sym, ap, ◌∙◌, subst, inl, inr, arith, le_of_mul-le-mul_right, eq-eqb}
use Rattle.std.proofs.lemmas.Bool.{cases_lt}
use Rattle.std.proofs.lemmas.Int.{ints}
use Rattle.std.proofs.lemmas.Nat.{pow-add}
use Rattle.scaled_decimal.specs.NumberReading.{decimal_of, trim_start, trim_end}
use Rattle.scaled_decimal.specs.NumberText.{Parts, body}
use Rattle.scaled_decimal.specs.Values.{Reading, Decimal}
use Rattle.rinex_lines.specs.ExactText.{HasZeros, AreEqual, number_of, parts_of, sign_column, text_of, decimal_text, exact_by, exact_text}
use Rattle.rinex_lines.proofs.Spans.{power_pos}
use Rattle.rinex_lines.proofs.PartsLemmas.{parts_exact, exact_parts, printed}
use Rattle.rinex_lines.proofs.Texts.{text_read}

-- ---- equality

split : (n k j : ℕ) → n * 10 ^ (k + j) ≡ n * 10 ^ k * 10 ^ j
split n k j = let power : n * 10 ^ (k + j) ≡ n * (10 ^ k * 10 ^ j) = ap (λ i. n * i) (pow-add 10 k j) in omega (arith, power)

cancelled : (m n k : ℕ) → m * 10 ^ k ≡ n * 10 ^ k → m ≡ n
cancelled m n k e =
    let low : m ≤ n = le_of_mul-le-mul_right {k = 10 ^ k} (omega (arith, e)) (power_pos k) in
    let high : n ≤ m = le_of_mul-le-mul_right {k = 10 ^ k} (omega (arith, e)) (power_pos k) in
    omega (arith, low, high)

on : (a b c : Reading) (k j : ℕ) → HasZeros k a b → HasZeros j b c → HasZeros (k + j) a c
on a b c k j p q = record {
  digits = split a.digits k j ∙ ap (λ i. i * 10 ^ j) p.digits ∙ q.digits;
  exponent = omega (arith, ints, p.exponent, q.exponent);
}

-- where both have the same number with zeros, or both are it with zeros
under : (a b c : Reading) (k i : ℕ) → HasZeros (i + k) c b → HasZeros k a b → HasZeros i c a
under a b c k i p q = record {
  digits = cancelled (c.digits * 10 ^ i) a.digits k (sym (split c.digits i k) ∙ p.digits ∙ sym q.digits);
  exponent = omega (arith, ints, p.exponent, q.exponent);
}

over : (a b c : Reading) (k i : ℕ) → HasZeros k b a → HasZeros (k + i) b c → HasZeros i a c
over a b c k i p q = record {
  digits = ap (λ n. n * 10 ^ i) (sym p.digits) ∙ sym (split b.digits k i) ∙ q.digits;
  exponent = omega (arith, ints, p.exponent, q.exponent);
}

at : (j k : ℕ) (a b : Reading) → j ≡ k → HasZeros j a b → HasZeros k a b
at j k a b e h = subst (λ i. HasZeros i a b) e h

pub equal_trans : (a b c : Reading) → AreEqual a b → AreEqual b c → AreEqual a c
equal_trans a b c (k, inl p) (j, inl q) = (k + j, inl (on a b c k j p q))
equal_trans a b c (k, inr p) (j, inr q) = (j + k, inr (on c b a j k q p))
equal_trans a b c (k, inl p) (j, inr q) =
    elim (cases_lt k j) [
      | inl h ↦ (j - k, inr (under a b c k (j - k) (at j (j - k + k) c b (omega arith) q) p))
      | inr h ↦ (k - j, inl (under c b a j (k - j) (at k (k - j + j) a b (omega arith) p) q))
    ]
equal_trans a b c (k, inr p) (j, inl q) =
    elim (cases_lt k j) [
      | inl h ↦ (j - k, inl (over a b c k (j - k) p (at j (k + (j - k)) b c (omega arith) q)))
      | inr h ↦ (k - j, inr (over c b a j (k - j) q (at k (j + (k - j)) b a (omega arith) p)))
    ]

pub equal_sym : (a b : Reading) → AreEqual a b → AreEqual b a
equal_sym a b (k, inl h) = (k, inr h)
equal_sym a b (k, inr h) = (k, inl h)

moved : (a b : Reading) (p : Parts) → a.digits < 10 ^ 18 → b.digits < 10 ^ 18 → AreEqual a b → parts_of a ≡ Some p → parts_of b ≡ Some p
moved a b p small few same e =
    let exact = parts_exact a p small e in
    exact_parts b p few (record { equal = equal_trans b a (number_of p) (equal_sym a b same) exact.equal; written = exact.written })

parts_same : (a b : Reading) → a.digits < 10 ^ 18 → b.digits < 10 ^ 18 → AreEqual a b → parts_of a ≡ parts_of b
parts_same a b small few same = by (parts_of a) (parts_of b) refl refl
  where
    by : (x y : Option Parts) → parts_of a ≡ x → parts_of b ≡ y → x ≡ y
    by (Some p) y e f = sym (moved a b p small few same e) ∙ f
    by None None e f = refl
    by None (Some q) e f = sym e ∙ moved b a q few small (equal_sym a b same) f

pub texts_same : (d e : Decimal) → d.value.digits < 10 ^ 18 → e.value.digits < 10 ^ 18 → AreEqual d.value e.value → d.minus ≡ e.minus → decimal_text d ≡ decimal_text e
texts_same d e small few same sign =
    ap (λ m. option_map (text_of m) (parts_of d.value)) sign ∙ ap (option_map (text_of e.minus)) (parts_same d.value e.value small few same)

-- ---- an exact text is its own

sign_zero : (m : Bool) (n : ℕ) → n ≡ 0 → sign_column m n ≡ 32
sign_zero false n e = refl
sign_zero true n e = ap (λ b. if b then 32 else 45) (eq-eqb n 0 e)

same_sign : (l m : Bool) (p : Parts) → (l ≡ m) ⊎ (p.digits ≡ 0) → text_of l p ≡ text_of m p
same_sign l m p (inl e) = ap (λ b. text_of b p) e
same_sign l m p (inr e) = ap (λ c. c ∷ body p) (sign_zero l p.digits e ∙ sym (sign_zero m p.digits e))

itself : (r : Reading) → AreEqual r r
itself r = (0, inl (record { digits = omega arith; exponent = omega (arith, ints) }))

pub text_stays : (d : Decimal) (text : List ℕ) → d.value.digits < 10 ^ 18 → decimal_text d ≡ Some text → exact_text text ≡ Some text
unfolding exact_text
text_stays d text small h = by (parts_of d.value) refl h
  where
    by : (o : Option Parts) → parts_of d.value ≡ o → option_map (text_of d.minus) o ≡ Some text → exact_by (decimal_of (trim_end (trim_start text))) ≡ Some text
    by None e is = absurd (cc)
    by (Some p) e is =
        let exact = parts_exact d.value p small e in
        let print = printed p exact.written in
        let read = text_read d.minus p print in
        let same : text_of d.minus p ≡ text = cc in
        let again : parts_of (number_of p) ≡ Some p
        = exact_parts (number_of p) p (omega (arith, print.below)) (record { equal = itself (number_of p); written = exact.written }) in
        let sign : (read.decimal.minus ≡ d.minus) ⊎ (p.digits ≡ 0)
        = subst (λ (r : Reading). (read.decimal.minus ≡ d.minus) ⊎ (r.digits ≡ 0)) read.value read.sign in
        ap (λ t. exact_by (decimal_of (trim_end (trim_start t)))) (sym same)
        ∙ ap exact_by read.read
        ∙ ap (λ r. option_map (text_of read.decimal.minus) (parts_of r)) read.value
        ∙ ap (option_map (text_of read.decimal.minus)) again
        ∙ ap Some (same_sign read.decimal.minus d.minus p sign ∙ same)
