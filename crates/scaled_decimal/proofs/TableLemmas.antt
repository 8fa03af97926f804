-- The tables of powers, each entry checked against the one before it.
use Rattle.std.proofs.Common.{◌≡◌, ℕ, zero, suc, ◌+◌, ◌*◌, ◌/◌, ◌%◌, ◌^◌, ◌<◌, Bool, true, false, nat_eq, ◌&&◌, List, [], ◌∷◌, length, get_or, refl, sym, ap, ap₂, ◌∙◌, subst, arith}
use Rattle.std.proofs.lemmas.Bool.{eqb-true}
use Rattle.std.proofs.Math.Nat.{pow-zero, pow-suc}
use Rattle.scaled_decimal.specs.NumberText.{digits}
use Rattle.scaled_decimal.specs.declared.printing.TheConstants.{PAIRS}
use Rattle.scaled_decimal.specs.declared.powers.TheConstants.{TENS, FIVES, WIDE_FIVES}

-- the numbers are t, t times b, and so on
abbrev pub are_powers : ℕ → ℕ → List ℕ → Bool
are_powers b t [] = true
are_powers b t (u ∷ us) = nat_eq u t && are_powers b (t * b) us

both_true : (a b : Bool) → (a && b) ≡ true → (a ≡ true) × (b ≡ true)
both_true true b e = (refl, e)
both_true false b e = absurd (cc)

power_is : (b t : ℕ) (us : List ℕ) → are_powers b t us ≡ true → (k : ℕ) → k < length us → get_or us k 0 ≡ t * b ^ k
power_is b t [] right k h = absurd (omega arith)
power_is b t (u ∷ us) right zero h =
    let first : t ≡ t * 1 = omega arith in
    eqb-true u t (both_true (nat_eq u t) (are_powers b (t * b) us) right).0 ∙ first ∙ ap (λ n. t * n) (sym (pow-zero b))
power_is b t (u ∷ us) right (suc k) h =
    let rest : get_or us k 0 ≡ (t * b) * b ^ k = power_is b (t * b) us (both_true (nat_eq u t) (are_powers b (t * b) us) right).1 k (omega arith) in
    let more : t * b ^ suc k ≡ t * (b ^ k * b) = ap (λ n. t * n) (pow-suc b k) in
    let turned : t * b ^ suc k ≡ (t * b) * b ^ k = more ∙ omega arith in
    rest ∙ sym turned

pub ten_is : (k : ℕ) → k < 39 → get_or TENS k 0 ≡ 10 ^ k
ten_is k h = power_is 10 1 TENS refl k h ∙ omega arith

pub five_is : (k : ℕ) → k < 25 → get_or FIVES k 0 ≡ 5 ^ k
five_is k h = power_is 5 1 FIVES refl k h ∙ omega arith

pub wide_five_is : (k : ℕ) → k < 31 → get_or WIDE_FIVES k 0 ≡ 5 ^ k
wide_five_is k h = power_is 5 1 WIDE_FIVES refl k h ∙ omega arith

-- the characters are the two digits of k, of the number after k, and so on
abbrev pub are_pairs : ℕ → List ℕ → Bool
are_pairs k [] = true
are_pairs k (a ∷ []) = false
are_pairs k (a ∷ b ∷ cs) = (nat_eq a (48 + k / 10 % 10) && nat_eq b (48 + k % 10)) && are_pairs (suc k) cs

-- the two characters at 2 x k
pub record IsPair (cs : List ℕ) (k n : ℕ) : Type 0 where
  pub first : get_or cs (2 * k) 0 ≡ 48 + n / 10 % 10
  pub second : get_or cs (2 * k + 1) 0 ≡ 48 + n % 10

pair_on : (a b : ℕ) (cs : List ℕ) (k n : ℕ) → IsPair cs k n → IsPair (a ∷ b ∷ cs) (suc k) n
pair_on a b cs k n p = record {
  first = ap (λ i. get_or (a ∷ b ∷ cs) i 0) (let two : 2 * suc k ≡ suc (suc (2 * k)) = omega arith in two) ∙ p.first;
  second = ap (λ i. get_or (a ∷ b ∷ cs) i 0) (let two : 2 * suc k + 1 ≡ suc (suc (2 * k + 1)) = omega arith in two) ∙ p.second;
}

pair_is : (i : ℕ) (cs : List ℕ) → are_pairs i cs ≡ true → (k : ℕ) → 2 * k + 1 < length cs → IsPair cs k (i + k)
pair_is i [] right k h = absurd (omega arith)
pair_is i (a ∷ []) right k h = absurd (cc)
pair_is i (a ∷ b ∷ cs) right zero h =
    let here = both_true (nat_eq a (48 + i / 10 % 10)) (nat_eq b (48 + i % 10)) (both_true _ (are_pairs (suc i) cs) right).0 in
    let same : i ≡ i + 0 = omega arith in
    record {
      first = eqb-true a (48 + i / 10 % 10) here.0 ∙ ap (λ n. 48 + n / 10 % 10) same;
      second = eqb-true b (48 + i % 10) here.1 ∙ ap (λ n. 48 + n % 10) same;
    }
pair_is i (a ∷ b ∷ cs) right (suc k) h =
    let rest : are_pairs (suc i) cs ≡ true = (both_true (nat_eq a (48 + i / 10 % 10) && nat_eq b (48 + i % 10)) (are_pairs (suc i) cs) right).1 in
    let next : suc i + k ≡ i + suc k = omega arith in
    subst (λ n. IsPair (a ∷ b ∷ cs) (suc k) n) next (pair_on a b cs k (suc i + k) (pair_is (suc i) cs rest k (omega arith)))

pub two_is : (k : ℕ) → k < 100 → get_or PAIRS (2 * k) 0 ∷ get_or PAIRS (2 * k + 1) 0 ∷ [] ≡ digits 2 k
unfolding digits
two_is k h =
    let pair = pair_is 0 PAIRS refl k (omega arith) in
    let same : 0 + k ≡ k = omega arith in
    ap₂ (λ a b. a ∷ b ∷ []) pair.first pair.second ∙ ap (λ n. (48 + n / 10 % 10) ∷ (48 + n % 10) ∷ []) same
