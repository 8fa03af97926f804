-- The value of a scale of the further boxes.
use Rattle.std.proofs.Common.{◌≡◌, inl, inr, ℕ, suc, ◌+◌, ◌-◌, ◌*◌, ◌^◌, ◌≤◌, Bool, true, false, refl, sym, ap, ap₂, ◌∙◌, subst, arith, ℤ, pos, negsuc, ◌≤ℤ◌, unsigned_abs, mul-le-mul}
use Rattle.std.proofs.Math.Nat.{pow-le-pow_right, one-le-pow}
use Rattle.std.proofs.lemmas.Nat.{pow-add}
use Rattle.std.proofs.lemmas.Int.{ints}
use Rattle.scaled_decimal.specs.declared.scales.Scale.{Scale}
use Rattle.scaled_decimal.specs.Fractions.{Fraction}
use Rattle.scaled_decimal.specs.ScaleValue.{size_of, AreFar, IsAccepted, IsScale}
use Rattle.scaled_decimal.proofs.SizeLemmas.{near_scale}

-- over / 2^bits is 10^20 times the scale size s
pub record IsRatio (s : Fraction) (over bits : ℕ) : Type 0 where
  pub scale : IsScale s
  pub same : s.over * (2 ^ bits * 10 ^ 20) ≡ over * s.under
  pub few : bits ≤ 46
  pub least : 2 ^ bits ≤ over
  pub most : over ≤ 1000 * 10 ^ 20

-- f x 10^20 over 2^(20 + j)
halves : (f j a u : ℕ) → 1 ≤ f → f ≤ 1000 → j ≤ 46 → a ≡ f → u ≡ 2 ^ (20 + j) → IsRatio (record { over = a; under = u }) (f * 95367431640625) j
halves f j a u from to few a_is u_is =
    let power : 2 ^ (20 + j) ≡ 2 ^ 20 * 2 ^ j = pow-add 2 20 j in
    let one : 1 ≤ 2 ^ j = one-le-pow j 2 (omega arith) in
    let least : 2 ^ j ≤ 2 ^ 46 = pow-le-pow_right (omega arith) few in
    let under : u ≡ 2 ^ 20 * 2 ^ j = u_is ∙ power in
    let same : f * (2 ^ j * 10 ^ 20) ≡ (f * 95367431640625) * (2 ^ 20 * 2 ^ j) = omega arith in
    record {
      scale = record { some = omega arith; under = omega arith; least = omega arith; most = omega arith };
      same = ap (λ n. n * (2 ^ j * 10 ^ 20)) a_is ∙ same ∙ ap (λ n. (f * 95367431640625) * n) (sym under);
      few = few;
      least = omega arith;
      most = omega arith;
    }

-- f x 10^20 over 10^k
tenths : (f k j a u : ℕ) → 1 ≤ f → f ≤ 1000 → k + j ≡ 20 → k ≤ 10 → a ≡ f → u ≡ 10 ^ k → IsRatio (record { over = a; under = u }) (f * 10 ^ j) 0
tenths f k j a u from to sum few a_is u_is =
    let power : 10 ^ 20 ≡ 10 ^ k * 10 ^ j = ap (λ n. 10 ^ n) (sym sum) ∙ pow-add 10 k j in
    let one : 1 ≤ 10 ^ k = one-le-pow k 10 (omega arith) in
    let other : 1 ≤ 10 ^ j = one-le-pow j 10 (omega arith) in
    let part : j ≤ 20 = omega arith in
    let most : 10 ^ j ≤ 10 ^ 20 = pow-le-pow_right (omega arith) part in
    let less : 10 ^ k ≤ 10 ^ 10 = pow-le-pow_right (omega arith) few in
    let same : f * (1 * (10 ^ k * 10 ^ j)) ≡ (f * 10 ^ j) * 10 ^ k = omega arith in
    record {
      scale = record { some = omega arith; under = omega arith; least = omega arith; most = omega arith };
      same = ap (λ n. n * (1 * 10 ^ 20)) a_is ∙ ap (λ n. f * (1 * n)) power ∙ same ∙ ap (λ n. (f * 10 ^ j) * n) (sym u_is);
      few = omega arith;
      least = mul-le-mul from other;
      most = mul-le-mul to most;
    }

pub far_halves : (p : Bool) (f : ℕ) (two ten : ℤ) → p ≡ false → 1 ≤ f → f ≤ 1000 → negsuc 65 ≤ℤ two → two ≤ℤ negsuc 59 → ten ≡ pos 0
    → IsRatio (size_of (record { pi = p; factor = f; two = two; ten = ten })) (f * 95367431640625) (unsigned_abs two - 20)
far_halves true f two ten plain from to low high whole = absurd cc
far_halves false f (pos n) ten plain from to low high whole = absurd (omega (arith, ints))
far_halves false f (negsuc n) (negsuc m) plain from to low high whole = absurd cc
far_halves false f (negsuc n) (pos m) plain from to low high whole =
    let few : n ≤ 65 = omega (arith, ints) in
    let many : 59 ≤ n = omega (arith, ints) in
    let none : m ≡ 0 = omega (arith, ints) in
    let ten : 10 ^ m ≡ 1 = ap (λ n. 10 ^ n) none in
    let over : f * (1 * (10 ^ m * 1)) ≡ f = ap (λ x. f * (1 * (x * 1))) ten ∙ omega arith in
    halves f (suc n - 20) _ _ from to (omega arith) over
    (let same : 1 * (2 ^ (n + 1) * (1 * 1)) ≡ 2 ^ (n + 1) = omega arith in same ∙ ap (λ n. 2 ^ n) (omega arith))

pub far_tenths : (p : Bool) (f : ℕ) (two ten : ℤ) → p ≡ false → 1 ≤ f → f ≤ 1000 → two ≡ pos 0 → negsuc 9 ≤ℤ ten → ten ≤ℤ pos 0
    → IsRatio (size_of (record { pi = p; factor = f; two = two; ten = ten })) (f * 10 ^ (20 - unsigned_abs ten)) 0
far_tenths true f two ten plain from to whole low high = absurd cc
far_tenths false f (negsuc n) ten plain from to whole low high = absurd cc
far_tenths false f (pos n) (pos m) plain from to whole low high =
    let none : m ≡ 0 = omega (arith, ints) in
    let no : n ≡ 0 = omega (arith, ints) in
    let ten : 10 ^ m ≡ 1 = ap (λ n. 10 ^ n) none in
    let two : 2 ^ n ≡ 1 = ap (λ n. 2 ^ n) no in
    let over : f * (2 ^ n * (10 ^ m * 1)) ≡ f = ap₂ (λ x y. f * (x * (y * 1))) two ten ∙ omega arith in
    let value = tenths f 0 20 (f * (2 ^ n * (10 ^ m * 1))) 1 from to refl (omega arith) over refl in
    let rest : 20 ≡ 20 - m = omega arith in
    subst (λ j. IsRatio (size_of (record { pi = false; factor = f; two = pos n; ten = pos m })) (f * 10 ^ j) 0) rest value
far_tenths false f (pos n) (negsuc m) plain from to whole low high =
    let few : m ≤ 9 = omega (arith, ints) in
    let no : n ≡ 0 = omega (arith, ints) in
    let two : 2 ^ n ≡ 1 = ap (λ n. 2 ^ n) no in
    let over : f * (2 ^ n * (1 * 1)) ≡ f = ap (λ x. f * (x * (1 * 1))) two ∙ omega arith in
    tenths f (m + 1) (20 - suc m) _ _ from to (omega arith) (omega arith) over (omega arith)

far_scale : (s : Scale) → AreFar s.pi s.factor s.two s.ten → IsScale (size_of s)
far_scale s (plain, from, to, inl h) = (far_halves s.pi s.factor s.two s.ten plain from to h.0 h.1 h.2).scale
far_scale s (plain, from, to, inr h) = (far_tenths s.pi s.factor s.two s.ten plain from to h.0 h.1 h.2).scale

-- an accepted scale is a scale
pub is_scale : (s : Scale) → IsAccepted s → IsScale (size_of s)
is_scale s (inl h) = near_scale s h
is_scale s (inr h) = far_scale s h

-- the size of a far scale, told by its exponent of two
pub far_whole : (s : Scale) (g n : ℕ) → AreFar s.pi s.factor s.two s.ten → s.two ≡ pos 0 → g ≡ s.factor → n ≡ unsigned_abs s.ten
    → IsRatio (size_of s) (g * 10 ^ (20 - n)) 0
far_whole s g n (plain, from, to, inl h) two g_is n_is = absurd (omega (arith, ints, h.1))
far_whole s g n (plain, from, to, inr h) two g_is n_is =
    subst (λ x. IsRatio (size_of s) (x * 10 ^ (20 - n)) 0) (sym g_is)
    (subst (λ x. IsRatio (size_of s) (s.factor * 10 ^ (20 - x)) 0) (sym n_is) (far_tenths s.pi s.factor s.two s.ten plain from to h.0 h.1 h.2))

pub far_part : (s : Scale) (g n : ℕ) → AreFar s.pi s.factor s.two s.ten → (s.two ≡ pos 0 → ⊥) → g ≡ s.factor → n ≡ unsigned_abs s.two
    → IsRatio (size_of s) (g * 95367431640625) (n - 20)
far_part s g n (plain, from, to, inr h) two g_is n_is = absurd (two h.0)
far_part s g n (plain, from, to, inl h) two g_is n_is =
    subst (λ x. IsRatio (size_of s) (x * 95367431640625) (n - 20)) (sym g_is)
    (subst (λ x. IsRatio (size_of s) (s.factor * 95367431640625) (x - 20)) (sym n_is) (far_halves s.pi s.factor s.two s.ten plain from to h.0 h.1 h.2))
