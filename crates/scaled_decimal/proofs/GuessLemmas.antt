-- Numbers that are read by a guess, and its confirmation.
use Rattle.std.proofs.Common.{◌≡◌, ℕ, ◌+◌, ◌-◌, ◌*◌, ◌/◌, ◌%◌, ◌^◌, ◌<◌, ◌≤◌, Option, Some, None, MatchOption, sym, ap, ◌∙◌, subst, arith, ℤ, pos, ◌+ℤ◌, mul-pos, mul-le-mul}
use Rattle.std.proofs.Math.Nat.{pow-le-pow_right, eq_of_mul-eq-mul_right}
use Rattle.std.proofs.lemmas.Nat.{pow-add, mul-pow, pow_pos}
use Rattle.scaled_decimal.specs.Fractions.{Fraction, IsNearest, nearest_to, ten_to}
use Rattle.scaled_decimal.specs.NumberReading.{Reading, at_size}
use Rattle.scaled_decimal.specs.Mirrors.{IsSize, IsLifted, IsLowered, IsNumberAt}
use Rattle.scaled_decimal.proofs.PowerLemmas.{power_pos}
use Rattle.scaled_decimal.proofs.QuotientLemmas.{five_pos}
use Rattle.scaled_decimal.proofs.NearestLemmas.{same_nearest}
use Rattle.scaled_decimal.proofs.ReadLemmas.{value_near}

-- n is nearer than half a denominator
pub told : (o u n : ℕ) → n * u < o + u / 2 → o + u / 2 < n * u + u → IsNearest (record { over = o; under = u }) n
told o u n low high = record {
  above = omega arith;
  below = omega arith;
  even_above = λ x. absurd (omega arith);
  even_below = λ x. absurd (omega arith);
}

pub few_taken : (g u : ℕ) → g ≤ 2 ^ 32 → u < 2 ^ 95 → g * u < 2 ^ 128
few_taken g u few less =
    let to : u ≤ 2 ^ 95 = omega arith in
    let most : g * u ≤ 2 ^ 32 * 2 ^ 95 = mul-le-mul few to in
    omega arith

-- the power of ten that is the difference of two
pub ten_over : (i j k : ℕ) → i ≡ j + k → 10 ^ i ≡ 10 ^ j * 10 ^ k
ten_over i j k is = ap (λ n. 10 ^ n) is ∙ pow-add 10 j k

pub lifted_none : (d i j k : ℕ) → i ≤ j → k ≡ j - i → d < 10 ^ 18 → k ≤ 20 → IsLifted d i j d k
lifted_none d i j k less is below few =
    let power : 10 ^ j ≡ 10 ^ i * 10 ^ k = ten_over j i k (omega arith) in
    let turned : d * 10 ^ j ≡ d * (10 ^ i * 10 ^ k) = ap (λ n. d * n) power in
    record { same = omega arith; below = below; few = few }

pub lifted_few : (t k : ℕ) → t ≡ 10 ^ k → k ≤ 5 → t ≤ 10 ^ 5
lifted_few t k is few = let most : 10 ^ k ≤ 10 ^ 5 = pow-le-pow_right (omega arith) few in omega arith

pub lifted_below : (d t k : ℕ) → d < 10 ^ 13 → t ≡ 10 ^ k → k ≤ 5 → d * t < 10 ^ 18
lifted_below d t k below is few =
    let to : d ≤ 10 ^ 13 - 1 = omega arith in
    let most : d * t ≤ (10 ^ 13 - 1) * 10 ^ 5 = mul-le-mul to (lifted_few t k is few) in
    omega arith

pub lifted_some : (d i j t k : ℕ) → j < i → k ≡ i - j → k ≤ 5 → d < 10 ^ 13 → t ≡ 10 ^ k → IsLifted d i j (d * t) 0
lifted_some d i j t k more is few below t_is =
    let power : 10 ^ i ≡ 10 ^ j * 10 ^ k = ten_over i j k (omega arith) in
    let turned : d * 10 ^ i ≡ d * (10 ^ j * 10 ^ k) = ap (λ n. d * n) power in
    let times_t : (d * t) * 10 ^ j ≡ (d * 10 ^ k) * 10 ^ j = ap (λ n. (d * n) * 10 ^ j) t_is in
    record { same = omega arith; below = lifted_below d t k below t_is few; few = omega arith }

five_to : (k n : ℕ) → k ≤ n → 5 ^ k ≤ 5 ^ n
five_to k n h = pow-le-pow_right (omega arith) h

two_to_power : (k n : ℕ) → k ≤ n → 2 ^ k ≤ 2 ^ n
two_to_power k n h = pow-le-pow_right (omega arith) h

ten_is : (k : ℕ) → 10 ^ k ≡ 2 ^ k * 5 ^ k
ten_is k = mul-pow 2 5 k

pub under_fits : (f v k : ℕ) → f ≤ 31415926535898 → v ≡ 5 ^ k → k ≤ 20 → f * v < 2 ^ 95
under_fits f v k to is few =
    let power : 5 ^ k ≤ 5 ^ 20 = five_to k 20 few in
    let v_to : v ≤ 5 ^ 20 = omega arith in
    let most : f * v ≤ 31415926535898 * 5 ^ 20 = mul-le-mul to v_to in
    omega arith

over_fits : (e j : ℕ) → e < 10 ^ 18 → j ≤ 59 → e * 2 ^ j < 2 ^ 126
over_fits e j below few =
    let power : 2 ^ j ≤ 2 ^ 59 = two_to_power j 59 few in
    let to : e ≤ 10 ^ 18 = omega arith in
    let most : e * 2 ^ j ≤ 10 ^ 18 * 2 ^ 59 = mul-le-mul to power in
    omega arith

-- the numerator takes the twos that are left
pub lowered_over : (e k f b v o u : ℕ) → e < 10 ^ 18 → k ≤ 20 → 0 < f → f ≤ 31415926535898 → b ≤ 59 → k ≤ b → v ≡ 5 ^ k → u ≡ f * v
    → o ≡ (e * 2 ^ (b - k)) % 2 ^ 128 → IsLowered e k f b o u
lowered_over e k f b v o u below few some to bits less v_is u_is o_is =
    let fits = over_fits e (b - k) below (omega arith) in
    let whole : o ≡ e * 2 ^ (b - k) = omega arith in
    let twos : 2 ^ b ≡ 2 ^ (b - k) * 2 ^ k = ap (λ n. 2 ^ n) (omega arith) ∙ pow-add 2 (b - k) k in
    let a : o * (f * 10 ^ k) ≡ (e * 2 ^ (b - k)) * (f * (2 ^ k * 5 ^ k)) = ap (λ n. n * (f * 10 ^ k)) whole ∙ ap (λ n. (e * 2 ^ (b - k)) * (f * n)) (ten_is k) in
    let c : e * 2 ^ b * u ≡ (e * (2 ^ (b - k) * 2 ^ k)) * (f * 5 ^ k)
    = ap (λ n. e * n * u) twos ∙ ap (λ n. (e * (2 ^ (b - k) * 2 ^ k)) * n) (u_is ∙ ap (λ n. f * n) v_is) in
    record {
      same = omega arith;
      some = subst (λ n. 0 < n) (sym u_is) (mul-pos some (five_pos k v v_is));
      over_fits = omega arith;
      under_fits = omega (arith, under_fits f v k to v_is few);
    }

small_under : (f v k j : ℕ) → f ≤ 60 → v ≡ 5 ^ k → k ≤ 20 → j ≤ 20 → (f * v) * 2 ^ j < 2 ^ 95
small_under f v k j to is few less =
    let power : 5 ^ k ≤ 5 ^ 20 = five_to k 20 few in
    let v_to : v ≤ 5 ^ 20 = omega arith in
    let first : f * v ≤ 60 * 5 ^ 20 = mul-le-mul to v_to in
    let most : (f * v) * 2 ^ j ≤ (60 * 5 ^ 20) * 2 ^ 20 = mul-le-mul first (two_to_power j 20 less) in
    omega arith

-- the denominator keeps the twos that are left
lowered_plainly : (e k f b v u : ℕ) → e < 10 ^ 18 → k ≤ 20 → 0 < f → f ≤ 60 → b < k → v ≡ 5 ^ k → u ≡ ((f * v) * 2 ^ (k - b)) % 2 ^ 128
    → IsLowered e k f b e u
lowered_plainly e k f b v u below few some to less v_is u_is =
    let fits = small_under f v k (k - b) to v_is few (omega arith) in
    let whole : u ≡ (f * v) * 2 ^ (k - b) = omega arith in
    let twos : 2 ^ k ≡ 2 ^ b * 2 ^ (k - b) = ap (λ n. 2 ^ n) (omega arith) ∙ pow-add 2 b (k - b) in
    let a : e * (f * 10 ^ k) ≡ e * (f * ((2 ^ b * 2 ^ (k - b)) * 5 ^ k)) = ap (λ n. e * (f * n)) (ten_is k ∙ ap (λ n. n * 5 ^ k) twos) in
    let c : e * 2 ^ b * u ≡ e * 2 ^ b * ((f * 5 ^ k) * 2 ^ (k - b)) = ap (λ n. e * 2 ^ b * n) (whole ∙ ap (λ n. (f * n) * 2 ^ (k - b)) v_is) in
    record {
      same = omega arith;
      some = subst (λ n. 0 < n) (sym whole) (mul-pos (mul-pos some (five_pos k v v_is)) (pow_pos (k - b)));
      over_fits = omega arith;
      under_fits = omega arith;
    }

pub lowered_under : (e k f b v o u : ℕ) → o ≡ e → e < 10 ^ 18 → k ≤ 20 → 0 < f → f ≤ 60 → b < k → v ≡ 5 ^ k → u ≡ ((f * v) * 2 ^ (k - b)) % 2 ^ 128
    → IsLowered e k f b o u
lowered_under e k f b v o u o_is below few some to less v_is u_is =
    subst (λ n. IsLowered e k f b n u) (sym o_is) (lowered_plainly e k f b v u below few some to less v_is u_is)

-- the fraction of a value at a size
crossed_over : (d i j t e k f b o u : ℕ) → IsLifted d i (j + t) e k → IsLowered e k f b o u
    → o * (f * 10 ^ t * 2 ^ 0 * 10 ^ j) ≡ (d * 10 ^ i * 2 ^ b) * u
crossed_over d i j t e k f b o u lift low =
    let tens : 10 ^ (j + t) ≡ 10 ^ j * 10 ^ t = pow-add 10 j t in
    let a : (o * (f * 10 ^ k)) * 10 ^ (j + t) ≡ (e * 2 ^ b * u) * 10 ^ (j + t) = ap (λ n. n * 10 ^ (j + t)) low.same in
    let c : (d * 10 ^ i * 10 ^ k) * (2 ^ b * u) ≡ (e * 10 ^ (j + t)) * (2 ^ b * u) = ap (λ n. n * (2 ^ b * u)) lift.same in
    let turned : (o * (f * 10 ^ k)) * 10 ^ (j + t) ≡ (o * (f * 10 ^ k)) * (10 ^ j * 10 ^ t) = ap (λ n. (o * (f * 10 ^ k)) * n) tens in
    let both : (o * (f * 10 ^ t * 2 ^ 0 * 10 ^ j)) * 10 ^ k ≡ ((d * 10 ^ i * 2 ^ b) * u) * 10 ^ k = omega arith in
    eq_of_mul-eq-mul_right (10 ^ k) (power_pos k) (o * (f * 10 ^ t * 2 ^ 0 * 10 ^ j)) ((d * 10 ^ i * 2 ^ b) * u) both

pub number_at : (s : Fraction) (d i j t e k f a b o u n : ℕ) → IsSize s f t a b → a ≡ 0 → IsLifted d i (j + t) e k → IsLowered e k f b o u
    → IsNearest (record { over = o; under = u }) n → IsNumberAt s d i j n
number_at s d i j t e k f a b o u n size none lift low near =
    let some : 0 < f * 10 ^ t * 2 ^ 0 * 10 ^ j = mul-pos (mul-pos (mul-pos size.some (power_pos t)) (pow_pos 0)) (power_pos j) in
    record {
      factor = f;
      tens = t;
      bits = b;
      size = subst (λ x. IsSize s f t x b) none size;
      nearest = same_nearest (record { over = o; under = u }) (record { over = d * 10 ^ i * 2 ^ b; under = f * 10 ^ t * 2 ^ 0 * 10 ^ j }) n
          (crossed_over d i j t e k f b o u lift low) low.some some near;
    }

pub number_near : (s : Fraction) (r : Reading) (x : ℤ) (i j n : ℕ) → 0 < s.over → x ≡ r.exponent +ℤ pos 20 → (ten_to x).over ≡ 10 ^ i → (ten_to x).under ≡ 10 ^ j
    → IsNumberAt s r.digits i j n → n ≡ nearest_to (at_size s r)
number_near s r x i j n some shift over under at =
    value_near s r x i j (at.factor * 10 ^ at.tens * 2 ^ 0) (2 ^ at.bits) n
    (record {
      some = some;
      pos_o = mul-pos (mul-pos at.size.some (power_pos at.tens)) (pow_pos 0);
      size = at.size.same;
      shift = shift;
      over_is = over;
      under_is = under;
    })
    at.nearest

-- a property of what is found
pub found_as : {A : Type 0} (o : Option A) (P Q : A → Type 0) → MatchOption o (Unit {0}) P → ((x : A) → P x → Q x) → MatchOption o (Unit {0}) Q
found_as None P Q h more = tt
found_as (Some x) P Q h more = more x h
