-- The value of an accepted scale: its parts, and that each number at it is in range.
use Rattle.std.proofs.Common.{◌≡◌, ℕ, zero, suc, ◌+◌, ◌-◌, ◌*◌, ◌%◌, ◌^◌, ◌<◌, ◌≤◌, Bool, true, false, refl, sym, ap, ap₂, ◌∙◌, subst, arith, ℤ, pos, negsuc, ◌≤ℤ◌, unsigned_abs, mul-pos, mul-le-mul}
use Rattle.std.proofs.Math.Nat.{pow-le-pow_right, one-le-pow}
use Rattle.std.proofs.lemmas.Int.{ints}
use Rattle.scaled_decimal.specs.declared.scales.Scale.{Scale}
use Rattle.scaled_decimal.specs.Fractions.{two_to, ten_to}
use Rattle.scaled_decimal.specs.ScaleValue.{size_of, pi_part, AreWithin, IsScale}
use Rattle.scaled_decimal.specs.Mirrors.{IsSize}
use Rattle.scaled_decimal.proofs.PowerLemmas.{crossed}

-- numerator and denominator of a power of two from 2^-59 to 2^16
pub record AreTwoParts (a b : ℕ) : Type 0 where
  pub over : 0 < a
  pub over_to : a ≤ 2 ^ 16
  pub under : 0 < b
  pub under_to : b ≤ 2 ^ 59

pub two_parts : (z : ℤ) → negsuc 58 ≤ℤ z → z ≤ℤ pos 16 → AreTwoParts (two_to z).over (two_to z).under
two_parts (pos k) low high =
    let one : 1 ≤ 2 ^ k = one-le-pow k 2 (omega arith) in
    let fits : k ≤ 16 = omega (arith, ints) in
    let most : 2 ^ k ≤ 2 ^ 16 = pow-le-pow_right (omega arith) fits in
    record { over = omega arith; over_to = most; under = omega arith; under_to = omega arith }
two_parts (negsuc k) low high =
    let one : 1 ≤ 2 ^ (k + 1) = one-le-pow (k + 1) 2 (omega arith) in
    let fits : k + 1 ≤ 59 = omega (arith, ints) in
    let most : 2 ^ (k + 1) ≤ 2 ^ 59 = pow-le-pow_right (omega arith) fits in
    record { over = omega arith; over_to = omega arith; under = omega arith; under_to = most }

-- numerator and denominator of 1, 1/10 or 1/100
pub record AreTenParts (t u : ℕ) : Type 0 where
  pub over : t ≡ 1
  pub under : 0 < u
  pub under_to : u ≤ 100

pub ten_parts : (z : ℤ) → negsuc 1 ≤ℤ z → z ≤ℤ pos 0 → AreTenParts (ten_to z).over (ten_to z).under
ten_parts (pos zero) low high = record { over = refl; under = omega arith; under_to = omega arith }
ten_parts (pos (suc k)) low high = absurd (omega (arith, ints))
ten_parts (negsuc zero) low high = record { over = refl; under = omega arith; under_to = omega arith }
ten_parts (negsuc (suc zero)) low high = record { over = refl; under = omega arith; under_to = omega arith }
ten_parts (negsuc (suc (suc k))) low high = absurd (omega (arith, ints))

-- numerator and denominator of pi or 1
pub record ArePiParts (p q : ℕ) : Type 0 where
  pub under : 0 < q
  pub from : q ≤ p
  pub to : p ≤ 4 * q

pub pi_parts : (b : Bool) → ArePiParts (pi_part b).over (pi_part b).under
pi_parts true = record { under = omega arith; from = omega arith; to = omega arith }
pi_parts false = record { under = omega arith; from = omega arith; to = omega arith }

least_of : (f a t p b u q : ℕ) → 0 < f → 0 < a → 0 < t → b ≤ 2 ^ 59 → u ≤ 100 → q ≤ p
    → 1 * (b * (u * q)) ≤ (f * (a * (t * p))) * 10 ^ 20
least_of f a t p b u q hf ha ht hb hu hq =
    let under : b * (u * q) ≤ 2 ^ 59 * (100 * p) = mul-le-mul hb (mul-le-mul hu hq) in
    let over : 1 * (1 * (1 * p)) ≤ f * (a * (t * p)) = mul-le-mul hf (mul-le-mul ha (mul-le-mul ht (omega arith))) in
    omega arith

most_of : (f a t p b u q : ℕ) → f ≤ 60 → a ≤ 2 ^ 16 → t ≡ 1 → p ≤ 4 * q → 0 < q → 0 < b → 0 < u
    → 4294967295 * (f * (a * (t * p))) < 10 ^ 17 * (1 * (b * (u * q)))
most_of f a t p b u q hf ha ht hp some hb hu =
    let over : f * (a * (t * p)) ≤ 60 * (2 ^ 16 * (1 * (4 * q))) = mul-le-mul hf (mul-le-mul ha (mul-le-mul (omega arith) hp)) in
    let under : 1 * (1 * q) ≤ b * (u * q) = mul-le-mul hb (mul-le-mul hu (omega arith)) in
    omega arith

pub near_scale : (s : Scale) → AreWithin s.factor s.two s.ten → IsScale (size_of s)
near_scale s h =
    let two = two_parts s.two h.2 h.3 in
    let ten = ten_parts s.ten h.4 h.5 in
    let pi = pi_parts s.pi in
    let ten_over : 0 < (ten_to s.ten).over = omega (arith, ten.over) in
    let pi_over : 0 < (pi_part s.pi).over = omega (arith, pi.under, pi.from) in
    record {
      some = mul-pos h.0 (mul-pos two.over (mul-pos ten_over pi_over));
      under = mul-pos (omega arith) (mul-pos two.under (mul-pos ten.under pi.under));
      least = least_of s.factor _ _ _ _ _ _ h.0 two.over ten_over two.under_to ten.under_to pi.from;
      most = most_of s.factor _ _ _ _ _ _ h.1 two.over_to ten.over pi.to pi.under two.under ten.under;
    }

-- the parts of the size of a scale, the factor f times pi or 1 times a power of ten as the whole number r
sized : (f a t p b u q g w : ℕ) → t * 100 ≡ u * g → p * 10 ^ 18 ≡ q * w
    → (f * (a * (t * p))) * (b * 10 ^ 20) ≡ (((f * w) * g) * a) * (1 * (b * (u * q)))
sized f a t p b u q g w tens pis =
    let both : (t * 100) * (p * 10 ^ 18) ≡ (u * g) * (q * w) = ap₂ (λ x y. x * y) tens pis in
    let all : ((t * 100) * (p * 10 ^ 18)) * (f * (a * b)) ≡ ((u * g) * (q * w)) * (f * (a * b)) = ap (λ x. x * (f * (a * b))) both in
    omega arith

-- the size of a scale from its parts: the factor f, 10^18 times pi or 1, 100 times the power of ten, the power of two
pub record IsSized (s : Scale) (f w g a b : ℕ) : Type 0 where
  pub same : (size_of s).over * (b * 10 ^ 20) ≡ (((f * w) * g) * a) * (size_of s).under
  pub some : 0 < b
  pub under : b ≤ 2 ^ 59
  pub first_to : f * w ≤ 60 * 3141592653589800000
  pub second_to : (f * w) * g ≤ (60 * 3141592653589800000) * 100
  pub over_from : 10 ^ 18 ≤ ((f * w) * g) * a
  pub over_to : ((f * w) * g) * a ≤ ((60 * 3141592653589800000) * 100) * 2 ^ 16

sized_plainly : (s : Scale) (w g : ℕ) → AreWithin s.factor s.two s.ten
    → (pi_part s.pi).over * 10 ^ 18 ≡ (pi_part s.pi).under * w → 10 ^ 18 ≤ w → w ≤ 3141592653589800000
    → (ten_to s.ten).over * 100 ≡ (ten_to s.ten).under * g → 1 ≤ g → g ≤ 100
    → IsSized s s.factor w g (two_to s.two).over (two_to s.two).under
sized_plainly s w g h pi wf wt ten gf gt =
    let two = two_parts s.two h.2 h.3 in
    let from : (1 * 10 ^ 18) * 1 ≤ (s.factor * w) * g = mul-le-mul (mul-le-mul h.0 wf) gf in
    let first_to : s.factor * w ≤ 60 * 3141592653589800000 = mul-le-mul h.1 wt in
    let second_to : (s.factor * w) * g ≤ (60 * 3141592653589800000) * 100 = mul-le-mul first_to gt in
    let over_from : ((1 * 10 ^ 18) * 1) * 1 ≤ ((s.factor * w) * g) * (two_to s.two).over = mul-le-mul from two.over in
    record {
      same = sized s.factor _ _ _ _ _ _ g w ten pi;
      some = two.under;
      under = two.under_to;
      first_to = first_to;
      second_to = second_to;
      over_from = over_from;
      over_to = mul-le-mul second_to two.over_to;
    }

pub is_sized : (s : Scale) (two ten : ℤ) (f w g a b : ℕ) → AreWithin s.factor s.two s.ten → two ≡ s.two → ten ≡ s.ten
    → f ≡ s.factor → a ≡ (two_to two).over → b ≡ (two_to two).under
    → (pi_part s.pi).over * 10 ^ 18 ≡ (pi_part s.pi).under * w → 10 ^ 18 ≤ w → w ≤ 3141592653589800000
    → (ten_to ten).over * 100 ≡ (ten_to ten).under * g → 1 ≤ g → g ≤ 100 → IsSized s f w g a b
is_sized s two ten f w g a b h two_is ten_is f_is a_is b_is pi wf wt tens gf gt =
    let plain = sized_plainly s w g h pi wf wt (subst (λ z. (ten_to z).over * 100 ≡ (ten_to z).under * g) ten_is tens) gf gt in
    let a_plain : a ≡ (two_to s.two).over = a_is ∙ ap (λ z. (two_to z).over) two_is in
    let b_plain : b ≡ (two_to s.two).under = b_is ∙ ap (λ z. (two_to z).under) two_is in
    subst (λ y. IsSized s f w g a y) (sym b_plain)
    (subst (λ x. IsSized s f w g x (two_to s.two).under) (sym a_plain)
    (subst (λ n. IsSized s n w g (two_to s.two).over (two_to s.two).under) (sym f_is) plain))

-- the same product in another order, which fits in 128 bits
pub product_is : (f w g a x y : ℕ) → x ≡ f * g → y ≡ w → ((f * w) * g) * a ≤ ((60 * 3141592653589800000) * 100) * 2 ^ 16
    → ((x * y) * a) % 2 ^ 128 ≡ ((f * w) * g) * a
product_is f w g a x y x_is y_is most =
    let turned : (x * y) * a ≡ ((f * g) * w) * a = ap₂ (λ m n. (m * n) * a) x_is y_is in
    let same : (x * y) * a ≡ ((f * w) * g) * a = omega arith in
    omega arith

-- the parts of the size of a scale as factors: pi or 1 as the whole number w at 10^c, the power of ten at 10^x
factored : (f a t p b u q w c x : ℕ) → t * 10 ^ c ≡ u * 10 ^ x → p * 10 ^ 20 ≡ q * (w * 10 ^ c)
    → (f * (a * (t * p))) * (b * 10 ^ 20) ≡ ((f * w) * 10 ^ x * a) * (1 * (b * (u * q)))
factored f a t p b u q w c x tens pis =
    let first : (p * 10 ^ 20) * (f * (a * (t * b))) ≡ (q * (w * 10 ^ c)) * (f * (a * (t * b))) = ap (λ n. n * (f * (a * (t * b)))) pis in
    let second : (t * 10 ^ c) * (f * (a * (b * (q * w)))) ≡ (u * 10 ^ x) * (f * (a * (b * (q * w)))) = ap (λ n. n * (f * (a * (b * (q * w))))) tens in
    omega arith

ten_lower : (z : ℤ) (c : ℕ) → negsuc 1 ≤ℤ z → z ≤ℤ pos 0 → 7 ≤ c → (ten_to z).over * 10 ^ c ≡ (ten_to z).under * 10 ^ (c - unsigned_abs z)
ten_lower (pos k) c low high h =
    let none : k ≡ 0 = omega (arith, ints) in
    crossed (pos k) (c - k) c (omega (arith, ints))
ten_lower (negsuc k) c low high h =
    let few : k ≤ 1 = omega (arith, ints) in
    crossed (negsuc k) (c - suc k) c (omega (arith, ints))

abs_few : (z : ℤ) → negsuc 1 ≤ℤ z → z ≤ℤ pos 0 → unsigned_abs z ≤ 2
abs_few (pos k) low high = omega (arith, ints)
abs_few (negsuc k) low high = omega (arith, ints)

sized_in_factors : (s : Scale) (w c a b : ℕ) → AreWithin s.factor s.two s.ten → 2 ^ a ≡ (two_to s.two).over → 2 ^ b ≡ (two_to s.two).under
    → a ≤ 16 → b ≤ 59 → (pi_part s.pi).over * 10 ^ 20 ≡ (pi_part s.pi).under * (w * 10 ^ c) → 1 ≤ w → w ≤ 31415926535898 → 7 ≤ c → c ≤ 20
    → IsSize (size_of s) (s.factor * w) (c - unsigned_abs s.ten) a b
sized_in_factors s w c a b h over under up down pis wf wt cf ct =
    let few = abs_few s.ten h.4 h.5 in
    let same = factored s.factor (two_to s.two).over (ten_to s.ten).over (pi_part s.pi).over (two_to s.two).under (ten_to s.ten).under (pi_part s.pi).under
    w c (c - unsigned_abs s.ten) (ten_lower s.ten c h.4 h.5 cf) pis in
    record {
      same = subst (λ y. (size_of s).over * (y * 10 ^ 20) ≡ ((s.factor * w) * 10 ^ (c - unsigned_abs s.ten) * 2 ^ a) * (size_of s).under) (sym under)
          (subst (λ x. (size_of s).over * ((two_to s.two).under * 10 ^ 20) ≡ ((s.factor * w) * 10 ^ (c - unsigned_abs s.ten) * x) * (size_of s).under) (sym over) same);
      some = mul-pos h.0 wf;
      most = mul-le-mul h.1 wt;
      tens_from = omega arith;
      tens_to = omega arith;
      up = up;
      down = down;
    }

pub is_size : (s : Scale) (two ten : ℤ) (f w c j a b : ℕ) → AreWithin s.factor s.two s.ten → two ≡ s.two → ten ≡ s.ten → f ≡ s.factor
    → 2 ^ a ≡ (two_to two).over → 2 ^ b ≡ (two_to two).under → a ≤ 16 → b ≤ 59
    → (pi_part s.pi).over * 10 ^ 20 ≡ (pi_part s.pi).under * (w * 10 ^ c) → 1 ≤ w → w ≤ 31415926535898 → 7 ≤ c → c ≤ 20
    → j ≡ unsigned_abs ten → IsSize (size_of s) (f * w) (c - j) a b
is_size s two ten f w c j a b h two_is ten_is f_is over under up down pis wf wt cf ct j_is =
    let plain = sized_in_factors s w c a b h (over ∙ ap (λ z. (two_to z).over) two_is) (under ∙ ap (λ z. (two_to z).under) two_is) up down pis wf wt cf ct in
    subst (λ n. IsSize (size_of s) (n * w) (c - j) a b) (sym f_is)
    (subst (λ n. IsSize (size_of s) (s.factor * w) (c - n) a b) (sym (j_is ∙ ap unsigned_abs ten_is)) plain)
