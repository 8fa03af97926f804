-- The thirteen digits of a number by one product with a power of five.
use Rattle.std.proofs.Common.{◌≡◌, ◌≢◌, ℕ, zero, suc, ◌+◌, ◌-◌, ◌*◌, ◌/◌, ◌%◌, ◌^◌, ◌<◌, ◌≤◌, ◌⊎◌, Bool, true, false, refl, sym, ap, ◌∙◌, subst, inl, inr, arith, ℤ, pos, ◌-ℤ◌, mul-pos, mul-le-mul, mul-le-mul_right, mul-lt-mul_of_pos_right, le_of_mul-le-mul_right, lt_of_mul-lt-mul_right}
use Rattle.std.proofs.Math.Nat.{pow-le-pow_right}
use Rattle.std.proofs.lemmas.Nat.{pow-add, mul-pow, pow_pos, shr_split, mod_below}
use Rattle.std.proofs.lemmas.Int.{ints}
use Rattle.scaled_decimal.specs.Fractions.{Fraction, IsNearest, scaled}
use Rattle.scaled_decimal.specs.NumberText.{Parts, carried, parts_to}
use Rattle.scaled_decimal.specs.ScaleValue.{IsScale}
use Rattle.scaled_decimal.specs.Mirrors.{IsSize, IsMoved, AreDigitsAt, IsReportedPlace}
use Rattle.scaled_decimal.proofs.PowerLemmas.{power_pos}
use Rattle.scaled_decimal.proofs.PrintLemmas.{printed, carried_same}
use Rattle.scaled_decimal.proofs.InReachLemmas.{in_reach}
use Rattle.scaled_decimal.proofs.NearestLemmas.{same_nearest}
use Rattle.scaled_decimal.proofs.GuessLemmas.{told}

-- a sum that is shifted, and was no tie
pub halved_near : (o b p s w : ℕ) → p ≡ 2 ^ b → s ≡ o + p / 2 → w ≡ s / 2 ^ b → w * 2 ^ b ≢ s → IsNearest (record { over = o; under = 2 ^ b }) w
halved_near o b p s w p_is s_is w_is other =
    let parts : s / 2 ^ b * 2 ^ b + s % 2 ^ b ≡ s = shr_split s b in
    let rest : s % 2 ^ b < 2 ^ b = mod_below s (2 ^ b) (pow_pos b) in
    let same : w * 2 ^ b ≡ s / 2 ^ b * 2 ^ b = ap (λ n. n * 2 ^ b) w_is in
    let low : w * 2 ^ b ≤ s = omega arith in
    let half : s ≡ o + 2 ^ b / 2 = s_is ∙ ap (λ n. o + n / 2) p_is in
    told o (2 ^ b) w (omega (arith, other, low)) (omega arith)

-- a tenth of the whole part, and was no tie
pub tenth_near : (o b p w : ℕ) → p ≡ o / 2 ^ b → w ≡ (p + 5) / 10 → (w * 10 ≡ p + 5 → p * 2 ^ b ≢ o) → IsNearest (record { over = o; under = 2 ^ b * 10 }) w
tenth_near o b p w p_is w_is other =
    let u : ℕ = 2 ^ b in
    let r : ℕ = (p + 5) % 10 in
    let parts : o / 2 ^ b * 2 ^ b + o % 2 ^ b ≡ o = shr_split o b in
    let rest : o % 2 ^ b < 2 ^ b = mod_below o (2 ^ b) (pow_pos b) in
    let same : p * u ≡ o / 2 ^ b * 2 ^ b = ap (λ n. n * 2 ^ b) p_is in
    let whole : w * 10 + r ≡ p + 5 = omega arith in
    let product : (w * 10 + r) * u ≡ (p + 5) * u = ap (λ n. n * u) whole in
    let most : r * u ≤ 9 * u = mul-le-mul_right u (omega arith) in
    go o u p w r (o % 2 ^ b) (omega arith) rest product most whole other
  where
    go : (o u p w r l : ℕ) → p * u + l ≡ o → l < u → (w * 10 + r) * u ≡ (p + 5) * u → r * u ≤ 9 * u → w * 10 + r ≡ p + 5
        → (w * 10 ≡ p + 5 → p * u ≢ o) → IsNearest (record { over = o; under = u * 10 }) w
    go o u p w zero l parts rest product most whole other =
        let none : p * u ≢ o = other (omega arith) in
        told o (u * 10) w (omega (arith, none)) (omega arith)
    go o u p w (suc r) l parts rest product most whole other =
        let some : 1 * u ≤ suc r * u = mul-le-mul_right u (omega arith) in
        told o (u * 10) w (omega arith) (omega arith)

five_to : (k n : ℕ) → k ≤ n → 5 ^ k ≤ 5 ^ n
five_to k n h = pow-le-pow_right (omega arith) h

-- a product with few fives has at most 128 bits
pub wide_fits : (o k t : ℕ) → o < 2 ^ 83 → k ≤ 19 → t ≡ 5 ^ k → o * t < 2 ^ 127 + 2 ^ 126
wide_fits o k t less few is =
    let power : 5 ^ k ≤ 5 ^ 19 = five_to k 19 few in
    let to : o ≤ 2 ^ 83 = omega arith in
    let t_to : t ≤ 5 ^ 19 = omega arith in
    let most : o * t ≤ 2 ^ 83 * 5 ^ 19 = mul-le-mul to t_to in
    omega arith

pub wider_fits : (o k t : ℕ) → o < 2 ^ 56 → k ≤ 30 → t ≡ 5 ^ k → o * t < 2 ^ 127 + 2 ^ 126
wider_fits o k t less few is =
    let power : 5 ^ k ≤ 5 ^ 30 = five_to k 30 few in
    let to : o ≤ 2 ^ 56 = omega arith in
    let t_to : t ≤ 5 ^ 30 = omega arith in
    let most : o * t ≤ 2 ^ 56 * 5 ^ 30 = mul-le-mul to t_to in
    omega arith

-- o x 10^k x 2^a in fives
tens_of : (o k a t : ℕ) → t ≡ 5 ^ k → o * 10 ^ k * 2 ^ a ≡ (o * t) * 2 ^ (k + a)
tens_of o k a t is =
    let power : 2 ^ (k + a) ≡ 2 ^ k * 2 ^ a = pow-add 2 k a in
    let ten : 10 ^ k ≡ 2 ^ k * 5 ^ k = mul-pow 2 5 k in
    let x : o * 10 ^ k * 2 ^ a ≡ o * (2 ^ k * 5 ^ k) * 2 ^ a = ap (λ n. o * n * 2 ^ a) ten in
    let y : (o * t) * 2 ^ (k + a) ≡ (o * 5 ^ k) * (2 ^ k * 2 ^ a) = ap (λ n. (o * t) * n) power ∙ ap (λ n. (o * n) * (2 ^ k * 2 ^ a)) is in
    omega arith

pub lifted_half : (o k a b t n : ℕ) → t ≡ 5 ^ k → k + a < b → IsNearest (record { over = o * t; under = 2 ^ (b - (k + a)) }) n
    → IsNearest (record { over = o * 10 ^ k * 2 ^ a; under = 2 ^ b }) n
lifted_half o k a b t n is less near =
    let whole = tens_of o k a t is in
    let power : 2 ^ b ≡ 2 ^ (k + a) * 2 ^ (b - (k + a)) = ap (λ i. 2 ^ i) (omega arith) ∙ pow-add 2 (k + a) (b - (k + a)) in
    let left : (o * t) * 2 ^ b ≡ (o * t) * (2 ^ (k + a) * 2 ^ (b - (k + a))) = ap (λ i. (o * t) * i) power in
    let right : (o * 10 ^ k * 2 ^ a) * 2 ^ (b - (k + a)) ≡ ((o * t) * 2 ^ (k + a)) * 2 ^ (b - (k + a)) = ap (λ i. i * 2 ^ (b - (k + a))) whole in
    same_nearest (record { over = o * t; under = 2 ^ (b - (k + a)) }) (record { over = o * 10 ^ k * 2 ^ a; under = 2 ^ b }) n
    (omega arith) (pow_pos (b - (k + a))) (pow_pos b) near

whole_near : (o u n : ℕ) → 0 < u → n * u ≡ o → IsNearest (record { over = o; under = u }) n
whole_near o u n some is = record {
  above = omega arith;
  below = omega arith;
  even_above = λ x. absurd (omega arith);
  even_below = λ x. absurd (omega arith);
}

shifted_fits : (x j : ℕ) → x < 2 ^ 64 → j ≤ 46 → x * 2 ^ j < 2 ^ 128
shifted_fits x j less few =
    let power : 2 ^ j ≤ 2 ^ 46 = pow-le-pow_right (omega arith) few in
    let to : x ≤ 2 ^ 64 = omega arith in
    let most : x * 2 ^ j ≤ 2 ^ 64 * 2 ^ 46 = mul-le-mul to power in
    omega arith

pub lifted_whole : (o k a b t n : ℕ) → t ≡ 5 ^ k → b ≤ k + a → k ≤ 30 → a ≤ 16 → o * t < 2 ^ 64 → n ≡ ((o * t) * 2 ^ (k + a - b)) % 2 ^ 128
    → IsNearest (record { over = o * 10 ^ k * 2 ^ a; under = 2 ^ b }) n
lifted_whole o k a b t n is less few up small n_is =
    let fits = shifted_fits (o * t) (k + a - b) small (omega arith) in
    let whole : n ≡ (o * t) * 2 ^ (k + a - b) = omega arith in
    let power : 2 ^ (k + a) ≡ 2 ^ (k + a - b) * 2 ^ b = ap (λ i. 2 ^ i) (omega arith) ∙ pow-add 2 (k + a - b) b in
    let product : n * 2 ^ b ≡ ((o * t) * 2 ^ (k + a - b)) * 2 ^ b = ap (λ i. i * 2 ^ b) whole in
    let turned : (o * t) * 2 ^ (k + a) ≡ (o * t) * (2 ^ (k + a - b) * 2 ^ b) = ap (λ i. (o * t) * i) power in
    let same = tens_of o k a t is in
    whole_near (o * 10 ^ k * 2 ^ a) (2 ^ b) n (pow_pos b) (omega arith)

pub at_lift : (m r a b d : ℕ) → r ≤ 1245 → IsNearest (record { over = m * 10 ^ (1245 - r) * 2 ^ a; under = 2 ^ b }) d → AreDigitsAt m r a b d
at_lift m r a b d less near =
    let under : 2 ^ b ≡ 2 ^ b * 10 ^ 0 = omega arith in
    record {
      lift = 1245 - r;
      lower = 0;
      place = omega arith;
      one = inr refl;
      nearest = subst (λ u. IsNearest (record { over = m * 10 ^ (1245 - r) * 2 ^ a; under = u }) d) under near;
    }

pub at_tenth : (m r a b d : ℕ) → r ≡ 1246 → a ≡ 0 → IsNearest (record { over = m; under = 2 ^ b * 10 }) d → AreDigitsAt m r a b d
at_tenth m r a b d is none near =
    let over : m ≡ m * 10 ^ 0 * 2 ^ a = sym (ap (λ i. m * 10 ^ 0 * 2 ^ i) none ∙ omega arith) in
    let under : 2 ^ b * 10 ≡ 2 ^ b * 10 ^ 1 = omega arith in
    record {
      lift = 0;
      lower = 1;
      place = omega arith;
      one = inl refl;
      nearest = subst (λ o. IsNearest (record { over = o; under = 2 ^ b * 10 ^ 1 }) d) over
          (subst (λ u. IsNearest (record { over = m; under = u }) d) under near);
    }

-- digits above 10^12 are those of a number of at least 10^12
at_least : (o u d : ℕ) → IsNearest (record { over = o; under = u }) d → 10 ^ 12 < d → 10 ^ 12 * u ≤ o
at_least o u d near more =
    let above : 2 * (d * u) ≤ 2 * o + u = near.above in
    let product : (10 ^ 12 + 1) * u ≤ d * u = mul-le-mul_right u (omega arith) in
    omega arith

at_least_whole : (o u d : ℕ) → IsNearest (record { over = o; under = u }) d → u ≡ 1 → 10 ^ 12 ≤ d → 10 ^ 12 * u ≤ o
at_least_whole o u d near one more =
    let above : 2 * (d * u) ≤ 2 * o + u = near.above in
    let product : d * u ≡ d * 1 = ap (λ n. d * n) one in
    omega arith

at_most : (o u d : ℕ) → IsNearest (record { over = o; under = u }) d → 0 < u → d < 10 ^ 13 → o < 10 ^ 13 * u
at_most o u d near some less =
    let below : 2 * o ≤ 2 * (d * u) + u = near.below in
    let product : d * u ≤ (10 ^ 13 - 1) * u = mul-le-mul_right u (omega arith) in
    omega arith

-- both sides times a power of ten that makes the places agree
power_sums : (x k c y : ℕ) → k + x ≡ c + 12 + y → 10 ^ k * 10 ^ x ≡ 10 ^ c * 10 ^ 12 * 10 ^ y
power_sums x k c y is =
    let left : 10 ^ (k + x) ≡ 10 ^ k * 10 ^ x = pow-add 10 k x in
    let right : 10 ^ (c + 12 + y) ≡ 10 ^ (c + 12) * 10 ^ y = pow-add 10 (c + 12) y in
    let more : 10 ^ (c + 12) ≡ 10 ^ c * 10 ^ 12 = pow-add 10 c 12 in
    sym left ∙ ap (λ n. 10 ^ n) is ∙ right ∙ ap (λ n. n * 10 ^ y) more

-- digits of rank k, and m x 10^c x 2^a / 2^b as a number of 10^20ths
pub lifted_print : (s : Fraction) (n m f c a b x y k d : ℕ) → IsScale s → IsSize s f c a b → 0 < n → n ≤ 4294967295 → m ≡ n * f
    → k + x ≡ c + 12 + y → IsNearest (record { over = m * 10 ^ x * 2 ^ a; under = 2 ^ b * 10 ^ y }) d
    → 10 ^ 12 * (2 ^ b * 10 ^ y) ≤ m * 10 ^ x * 2 ^ a → d < 10 ^ 13 → carried d (pos k -ℤ pos 20) ≡ parts_to (scaled n s)
lifted_print s n m f c a b x y k d scale size some small m_is place near low less =
    let o : ℕ = m * 10 ^ c * 2 ^ a in
    let u : ℕ = 2 ^ b in
    let powers = power_sums x k c y place in
    let some_y : 0 < 2 ^ b * 10 ^ y = mul-pos (pow_pos b) (power_pos y) in
    let high : m * 10 ^ x * 2 ^ a < 10 ^ 13 * (2 ^ b * 10 ^ y) = at_most _ _ d near some_y less in
    let next : 10 ^ (k + 1) ≡ 10 ^ k * 10 ^ 1 = pow-add 10 k 1 in
    let low_c : (10 ^ 12 * (2 ^ b * 10 ^ y)) * 10 ^ c ≤ (m * 10 ^ x * 2 ^ a) * 10 ^ c = mul-le-mul_right (10 ^ c) low in
    let high_c : (m * 10 ^ x * 2 ^ a) * 10 ^ c < (10 ^ 13 * (2 ^ b * 10 ^ y)) * 10 ^ c = mul-lt-mul_of_pos_right high (power_pos c) in
    let turned : 2 ^ b * (10 ^ k * 10 ^ x) ≡ 2 ^ b * (10 ^ c * 10 ^ 12 * 10 ^ y) = ap (λ i. 2 ^ b * i) powers in
    let next_u : u * 10 ^ (k + 1) ≡ u * (10 ^ k * 10 ^ 1) = ap (λ i. u * i) next in
    let next_x : (u * 10 ^ (k + 1)) * 10 ^ x ≡ (u * (10 ^ k * 10 ^ 1)) * 10 ^ x = ap (λ i. i * 10 ^ x) next_u in
    let at_place : u * 10 ^ k ≤ o = le_of_mul-le-mul_right {k = 10 ^ x} (omega arith) (power_pos x) in
    let below : o < u * 10 ^ (k + 1) = lt_of_mul-lt-mul_right (10 ^ x) (omega arith) in
    let moved : IsMoved o u k (o * 10 ^ 12) (u * 10 ^ k) = record {
      p = 10 ^ 12;
      q = 10 ^ k;
      some = power_pos 12;
      some_under = mul-pos (pow_pos b) (power_pos k);
      power = omega arith;
      over_is = refl;
      under_is = refl;
      below = omega arith;
    } in
    let products : (m * 2 ^ a * 2 ^ b) * (10 ^ k * 10 ^ x) ≡ (m * 2 ^ a * 2 ^ b) * (10 ^ c * 10 ^ 12 * 10 ^ y) = ap (λ i. (m * 2 ^ a * 2 ^ b) * i) powers in
    let near_o : IsNearest (record { over = o * 10 ^ 12; under = u * 10 ^ k }) d
    = same_nearest (record { over = m * 10 ^ x * 2 ^ a; under = 2 ^ b * 10 ^ y }) (record { over = o * 10 ^ 12; under = u * 10 ^ k }) d
    (omega arith) some_y (mul-pos (pow_pos b) (power_pos k)) near in
    let first : n * (s.over * (2 ^ b * 10 ^ 20)) ≡ n * ((f * 10 ^ c * 2 ^ a) * s.under) = ap (λ i. n * i) size.same in
    let over_is : o ≡ (n * f) * 10 ^ c * 2 ^ a = ap (λ i. i * 10 ^ c * 2 ^ a) m_is in
    let both : o * s.under ≡ ((n * f) * 10 ^ c * 2 ^ a) * s.under = ap (λ i. i * s.under) over_is in
    printed (scaled n s) o u k (o * 10 ^ 12) (u * 10 ^ k) d (in_reach s n scale some small) (pow_pos b) (omega arith) at_place below moved near_o

one_under : (b y : ℕ) → b ≡ 0 → y ≡ 0 → 2 ^ b * 10 ^ y ≡ 1
one_under b y none_b none_y = ap (λ i. 2 ^ i * 10 ^ y) none_b ∙ ap (λ i. 2 ^ 0 * 10 ^ i) none_y

no_lower : (r x y : ℕ) → r ≤ 1245 → r + x ≡ 1245 + y → (x ≡ 0) ⊎ (y ≡ 0) → y ≡ 0
no_lower r x y less is (inl none) = omega arith
no_lower r x y less is (inr none) = none

low_of : (m r a b d : ℕ) (whole : Bool) → (w : AreDigitsAt m r a b d) → (whole ≡ true → (b ≡ 0) × (r ≤ 1245)) → 10 ^ 12 ≤ d → (whole ≡ false → 10 ^ 12 < d)
    → 10 ^ 12 * (2 ^ b * 10 ^ w.lower) ≤ m * 10 ^ w.lift * 2 ^ a
low_of m r a b d true w is from more =
    let none = no_lower r w.lift w.lower (is refl).1 w.place w.one in
    at_least_whole _ _ d w.nearest (one_under b w.lower (is refl).0 none) from
low_of m r a b d false w is from more = at_least _ _ d w.nearest (more refl)

-- the parts that are told
pub told_parts : (s : Fraction) (n m f c a b r d : ℕ) (whole : Bool) (digits : ℕ) (e : ℤ) → IsScale s → IsSize s f c a b → 0 < n → n ≤ 4294967295 → m ≡ n * f
    → AreDigitsAt m r a b d → (whole ≡ true → (b ≡ 0) × (r ≤ 1245)) → IsReportedPlace d (r + c) whole digits e
    → ◌≡◌ {A = Parts} (record { digits = digits; exponent = e }) (parts_to (scaled n s))
told_parts s n m f c a b r d whole digits e scale size some small m_is at is told =
    let k : ℕ = r + c - 1233 in
    let exponent : e ≡ pos k -ℤ pos 20 = told.exponent_is ∙ omega (arith, ints, told.place) in
    let printed_is = lifted_print s n m f c a b at.lift at.lower k d scale size some small m_is (omega (arith, at.place, told.place)) at.nearest
    (low_of m r a b d whole at is told.from told.more) told.to in
    ap (λ i. record { digits = i; exponent = e }) told.digits_are
    ∙ carried_same d (pos k -ℤ pos 20) e (λ x. omega (arith, x, told.to)) exponent ∙ printed_is

pub number_fits : (n f m : ℕ) → n ≤ 4294967295 → f ≤ 1884955592153880 → m ≡ n * f → m < 2 ^ 83
number_fits n f m small most is =
    let product : n * f ≤ 4294967295 * 1884955592153880 = mul-le-mul small most in
    omega arith
