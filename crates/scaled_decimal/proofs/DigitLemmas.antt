-- The digits of numbers, one by one.
use Rattle.std.proofs.Common.{◌≡◌, ℕ, zero, suc, ◌+◌, ◌*◌, ◌/◌, ◌%◌, ◌^◌, ◌<◌, List, [], ◌∷◌, ◌++◌, get_or, refl, sym, ap, ap₂, ◌∙◌, arith}
use Rattle.std.proofs.Math.Nat.{div-div-eq-div-mul}
use Rattle.std.proofs.lemmas.Nat.{pow-add, div-add-mod'}
use Rattle.scaled_decimal.specs.NumberText.{digits}

-- the last digits do not depend on higher ones
digits_behind : (k q r : ℕ) → digits k (q * 10 ^ k + r) ≡ digits k r
unfolding digits
digits_behind zero q r = refl
digits_behind (suc k) q r =
    let power : 10 ^ suc k ≡ 10 ^ k * 10 ^ 1 = ap (λ n. 10 ^ n) (omega arith) ∙ pow-add 10 k 1 in
    let more : q * 10 ^ suc k ≡ q * (10 ^ k * 10 ^ 1) = ap (λ n. q * n) power in
    let tens : q * 10 ^ suc k + r ≡ (q * 10 ^ k) * 10 + r = omega arith in
    let prefix : (q * 10 ^ suc k + r) / 10 ≡ q * 10 ^ k + r / 10 = omega arith in
    let last : (q * 10 ^ suc k + r) % 10 ≡ r % 10 = omega arith in
    ap₂ (λ n d. digits k n ++ (48 + d) ∷ []) prefix last
    ∙ ap (λ t. t ++ (48 + r % 10) ∷ []) (digits_behind k q (r / 10))

six_on : (n : ℕ) → n / 10 / 10 / 10 / 10 / 10 / 10 ≡ n / 10 ^ 6
six_on n =
    ap (λ x. x / 10 / 10 / 10 / 10) (div-div-eq-div-mul n 10 10)
    ∙ ap (λ x. x / 10 / 10 / 10) (div-div-eq-div-mul n 100 10)
    ∙ ap (λ x. x / 10 / 10) (div-div-eq-div-mul n 1000 10)
    ∙ ap (λ x. x / 10) (div-div-eq-div-mul n 10000 10)
    ∙ div-div-eq-div-mul n 100000 10

-- twelve digits are six and six
twelve : (n : ℕ) → digits 6 (n / 10 ^ 6) ++ digits 6 (n % 10 ^ 6) ≡ digits 12 n
unfolding digits
twelve n =
    let whole : n / 10 ^ 6 * 10 ^ 6 + n % 10 ^ 6 ≡ n = div-add-mod' n (10 ^ 6) in
    let last : digits 6 (n % 10 ^ 6) ≡ digits 6 n = sym (digits_behind 6 (n / 10 ^ 6) (n % 10 ^ 6)) ∙ ap (digits 6) whole in
    ap₂ (λ s t. s ++ t) (ap (digits 6) (sym (six_on n))) last

pub six : (n a b c d e f : ℕ) → a ≡ 48 + n / 10 / 10 / 10 / 10 / 10 % 10 → b ≡ 48 + n / 10 / 10 / 10 / 10 % 10 → c ≡ 48 + n / 10 / 10 / 10 % 10
    → d ≡ 48 + n / 10 / 10 % 10 → e ≡ 48 + n / 10 % 10 → f ≡ 48 + n % 10
    → a ∷ b ∷ c ∷ d ∷ e ∷ f ∷ [] ≡ digits 6 n
unfolding digits
six n a b c d e f ea eb ec ed ee ef =
    ap₂ (λ x t. x ∷ t) ea (ap₂ (λ x t. x ∷ t) eb (ap₂ (λ x t. x ∷ t) ec (ap₂ (λ x t. x ∷ t) ed (ap₂ (λ x y. x ∷ y ∷ []) ee ef))))

-- a text assembled from its pieces
pub assembled : (sign plus m n k first x y : ℕ) (s t : List ℕ) → first ≡ 48 + m % 10 → s ≡ digits 6 (n / 10 ^ 6) → t ≡ digits 6 (n % 10 ^ 6)
    → x ≡ 48 + k / 10 % 10 → y ≡ 48 + k % 10
    → sign ∷ first ∷ 46 ∷ get_or s 0 0 ∷ get_or s 1 0 ∷ get_or s 2 0 ∷ get_or s 3 0 ∷ get_or s 4 0 ∷ get_or s 5 0
    ∷ get_or t 0 0 ∷ get_or t 1 0 ∷ get_or t 2 0 ∷ get_or t 3 0 ∷ get_or t 4 0 ∷ get_or t 5 0 ∷ 68 ∷ plus ∷ x ∷ y ∷ []
    ≡ sign ∷ (digits 1 m ++ 46 ∷ (digits 12 n ++ 68 ∷ plus ∷ digits 2 k))
unfolding digits
assembled sign plus m n k first x y s t first_is s_is t_is x_is y_is =
    ap₂ (λ s t. sign ∷ first ∷ 46 ∷ get_or s 0 0 ∷ get_or s 1 0 ∷ get_or s 2 0 ∷ get_or s 3 0 ∷ get_or s 4 0 ∷ get_or s 5 0
    ∷ get_or t 0 0 ∷ get_or t 1 0 ∷ get_or t 2 0 ∷ get_or t 3 0 ∷ get_or t 4 0 ∷ get_or t 5 0 ∷ 68 ∷ plus ∷ x ∷ y ∷ []) s_is t_is
    ∙ ap (λ u. sign ∷ first ∷ 46 ∷ (u ++ 68 ∷ plus ∷ x ∷ y ∷ [])) (twelve n)
    ∙ ap (λ f. sign ∷ f ∷ 46 ∷ (digits 12 n ++ 68 ∷ plus ∷ x ∷ y ∷ [])) first_is
    ∙ ap₂ (λ x y. sign ∷ (48 + m % 10) ∷ 46 ∷ (digits 12 n ++ 68 ∷ plus ∷ x ∷ y ∷ [])) x_is y_is

last_two : (n : ℕ) → digits 2 (n % 100) ≡ digits 2 n
last_two n =
    let whole : n / 10 ^ 2 * 10 ^ 2 + n % 10 ^ 2 ≡ n = div-add-mod' n (10 ^ 2) in
    sym (digits_behind 2 (n / 10 ^ 2) (n % 10 ^ 2)) ∙ ap (digits 2) whole

-- six digits are three pairs
pub six_of : (n : ℕ) (s t u : List ℕ) → s ≡ digits 2 (n / 100 / 100 % 100) → t ≡ digits 2 (n / 100 % 100) → u ≡ digits 2 (n % 100)
    → get_or s 0 0 ∷ get_or s 1 0 ∷ get_or t 0 0 ∷ get_or t 1 0 ∷ get_or u 0 0 ∷ get_or u 1 0 ∷ [] ≡ digits 6 n
unfolding digits
six_of n s t u s_is t_is u_is =
    let hundred : n / 100 ≡ n / 10 / 10 = sym (div-div-eq-div-mul n 10 10) in
    let second : n / 100 / 100 ≡ n / 10 / 10 / 10 / 10 = ap (λ x. x / 100) hundred ∙ sym (div-div-eq-div-mul (n / 10 / 10) 10 10) in
    ap (λ s. get_or s 0 0 ∷ get_or s 1 0 ∷ get_or t 0 0 ∷ get_or t 1 0 ∷ get_or u 0 0 ∷ get_or u 1 0 ∷ []) (s_is ∙ last_two (n / 100 / 100) ∙ ap (digits 2) second)
    ∙ ap₂ (λ t u. get_or (digits 2 (n / 10 / 10 / 10 / 10)) 0 0 ∷ get_or (digits 2 (n / 10 / 10 / 10 / 10)) 1 0 ∷ get_or t 0 0 ∷ get_or t 1 0 ∷ get_or u 0 0 ∷ get_or u 1 0 ∷ [])
    (t_is ∙ last_two (n / 100) ∙ ap (digits 2) hundred) (u_is ∙ last_two n)

-- six digits of a number that has no more
pub six_few : (n : ℕ) (s t u : List ℕ) → n < 1000000 → s ≡ digits 2 (n / 100 / 100) → t ≡ digits 2 (n / 100 % 100) → u ≡ digits 2 (n % 100)
    → get_or s 0 0 ∷ get_or s 1 0 ∷ get_or t 0 0 ∷ get_or t 1 0 ∷ get_or u 0 0 ∷ get_or u 1 0 ∷ [] ≡ digits 6 n
six_few n s t u few s_is t_is u_is =
    let same : n / 100 / 100 ≡ n / 100 / 100 % 100 = omega arith in
    six_of n s t u (s_is ∙ ap (digits 2) same) t_is u_is

pub pair_first : (k : ℕ) (t : List ℕ) → t ≡ digits 2 k → get_or t 0 0 ≡ 48 + k / 10 % 10
unfolding digits
pair_first k t is = ap (λ s. get_or s 0 0) is

pub pair_second : (k : ℕ) (t : List ℕ) → t ≡ digits 2 k → get_or t 1 0 ≡ 48 + k % 10
unfolding digits
pair_second k t is = ap (λ s. get_or s 1 0) is
