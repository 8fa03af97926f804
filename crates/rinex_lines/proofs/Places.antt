-- The place of the first digit of a number, and its digits as thirteen.
use Rattle.std.proofs.Common.{◌≡◌, ℕ, zero, suc, ◌+◌, ◌*◌, ◌/◌, ◌%◌, ◌^◌, ◌<◌, ◌≤◌, Bool, true, false, nat_le, if◌then◌else◌, Option, Some, refl, sym, ap, ap₂, ◌∙◌, inl, inr, arith, ℤ, pos, ◌+ℤ◌, ne_eqb, pow-suc, mul-le-mul_right, mul-lt-mul_of_pos_right, le_of_mul-le-mul_right, lt_of_mul-lt-mul_right, leb-true, leb-false}
use Rattle.std.proofs.Math.Nat.{pow-le-pow_right}
use Rattle.std.proofs.lemmas.Bool.{cases_lt}
use Rattle.std.proofs.lemmas.Nat.{pow-add, div-add-mod'}
use Rattle.rinex_lines.specs.ExactText.{none, parts_of, parts_with, place_from, thirteen}
use Rattle.rinex_lines.proofs.Spans.{power_pos}

-- the first digit of n is at 10^k
pub record IsFirstAt (n k : ℕ) : Type 0 where
  pub at_most : 10 ^ k ≤ n
  pub below : n < 10 ^ suc k

pub first_at : (n k : ℕ) → 10 ^ k ≤ n → n < 10 * 10 ^ k → IsFirstAt n k
first_at n k p q = let power : 10 ^ suc k ≡ 10 ^ k * 10 = pow-suc 10 k in record { at_most = p; below = omega (arith, power) }

pub below_next : (n k : ℕ) → n < 10 * 10 ^ k → n < 10 ^ suc k
below_next n k q = let power : 10 ^ suc k ≡ 10 ^ k * 10 = pow-suc 10 k in omega (arith, power)

-- the place is among those tried
pub place_found : (m n : ℕ) → 0 < n → n < 10 ^ suc m → IsFirstAt n (place_from m n) × (place_from m n ≤ m)
place_found zero n some h = (record { at_most = omega arith; below = h }, omega arith)
place_found (suc m) n some h = go (nat_le (10 ^ suc m) n) refl (place_found m n some)
  where
    go : (b : Bool) → nat_le (10 ^ suc m) n ≡ b → (n < 10 ^ suc m → IsFirstAt n (place_from m n) × (place_from m n ≤ m))
        → IsFirstAt n (if b then suc m else place_from m n) × ((if b then suc m else place_from m n) ≤ suc m)
    go true e rest = (record { at_most = leb-true _ _ e; below = h }, omega arith)
    go false e rest = let found = rest (leb-false _ _ e) in (found.0, omega (arith, found.1))

not_before : (n j k : ℕ) → IsFirstAt n j → IsFirstAt n k → j < k → ⊥
not_before n j k p q h =
    let more : 10 ^ suc j ≤ 10 ^ k = pow-le-pow_right (omega arith) (omega arith) in
    omega (arith, more, p.below, q.at_most)

one_place : (n j k : ℕ) → IsFirstAt n j → IsFirstAt n k → j ≡ k
one_place n j k p q =
    elim (cases_lt j k) [
      | inl h ↦ absurd (not_before n j k p q h)
      | inr h ↦ elim (cases_lt k j) [ inl i ↦ absurd (not_before n k j q p i) | inr i ↦ omega arith ]
    ]

pub some_first : (n k : ℕ) → IsFirstAt n k → 0 < n
some_first n k p = omega (arith, power_pos k, p.at_most)

pub place_is : (m n k : ℕ) → IsFirstAt n k → n < 10 ^ suc m → place_from m n ≡ k
place_is m n k p h = one_place n (place_from m n) k (place_found m n (some_first n k p) h).0 p

-- a number below 10^m has its first digit before 10^m
pub place_below : (n k m : ℕ) → 10 ^ k ≤ n → n < 10 ^ m → k < m
place_below n k m p h =
    elim (cases_lt k m) [
      | inl i ↦ i
      | inr i ↦ let more : 10 ^ m ≤ 10 ^ k = pow-le-pow_right (omega arith) i in absurd (omega (arith, more, p, h))
    ]

-- ---- thirteen digits

pub lifted_below : (n k j : ℕ) → k + j ≡ 12 → n < 10 ^ suc k → n * 10 ^ j < 10 ^ 13
lifted_below n k j e h =
    let sum : 13 ≡ suc k + j = omega (arith, e) in
    let power : 10 ^ 13 ≡ 10 ^ suc k * 10 ^ j = ap (λ i. 10 ^ i) sum ∙ pow-add 10 (suc k) j in
    let times : n * 10 ^ j < 10 ^ suc k * 10 ^ j = mul-lt-mul_of_pos_right h (power_pos j) in
    omega (arith, power, times)

pub lifted_least : (n k j : ℕ) → k + j ≡ 12 → 10 ^ k ≤ n → 10 ^ 12 ≤ n * 10 ^ j
lifted_least n k j e h =
    let sum : 12 ≡ k + j = omega (arith, e) in
    let power : 10 ^ 12 ≡ 10 ^ k * 10 ^ j = ap (λ i. 10 ^ i) sum ∙ pow-add 10 k j in
    let times : 10 ^ k * 10 ^ j ≤ n * 10 ^ j = mul-le-mul_right (10 ^ j) h in
    omega (arith, power, times)

pub lowered_below : (n k j : ℕ) → k ≡ 12 + j → n < 10 ^ suc k → n / 10 ^ j < 10 ^ 13
lowered_below n k j e h =
    let sum : suc k ≡ 13 + j = omega (arith, e) in
    let power : 10 ^ suc k ≡ 10 ^ 13 * 10 ^ j = ap (λ i. 10 ^ i) sum ∙ pow-add 10 13 j in
    let whole : n / 10 ^ j * 10 ^ j + n % 10 ^ j ≡ n = div-add-mod' n (10 ^ j) in
    lt_of_mul-lt-mul_right (10 ^ j) (omega (arith, power, whole))

pub lowered_is : (n j : ℕ) → n % 10 ^ j ≡ 0 → n / 10 ^ j * 10 ^ j ≡ n
lowered_is n j e = let whole : n / 10 ^ j * 10 ^ j + n % 10 ^ j ≡ n = div-add-mod' n (10 ^ j) in omega (arith, whole, e)

pub lowered_least : (n k j : ℕ) → k ≡ 12 + j → 10 ^ k ≤ n → n % 10 ^ j ≡ 0 → 10 ^ 12 ≤ n / 10 ^ j
lowered_least n k j e h none =
    let power : 10 ^ k ≡ 10 ^ 12 * 10 ^ j = ap (λ i. 10 ^ i) e ∙ pow-add 10 12 j in
    le_of_mul-le-mul_right {k = 10 ^ j} (omega (arith, power, lowered_is n j none)) (power_pos j)

-- the parts of a number whose first digit is at 10^k
pub parts_by : (n k : ℕ) (e x : ℤ) (d : Option ℕ) → IsFirstAt n k → n < 10 ^ 18 → x ≡ e +ℤ pos k → d ≡ thirteen k n
    → parts_with x d ≡ parts_of (record { digits = n; exponent = e })
parts_by n k e x d first small x_is d_is =
    let some = some_first n k first in
    ap₂ parts_with x_is d_is
    ∙ ap (λ i. parts_with (e +ℤ pos i) (thirteen i n)) (sym (place_is 17 n k first small))
    ∙ ap (λ b. if b then Some none else parts_with (e +ℤ pos (place_from 17 n)) (thirteen (place_from 17 n) n)) (sym (ne_eqb n 0 (λ z. omega (arith, some, z))))
