-- The digits of numbers, one by one.
use Rattle.std.proofs.Common.{◌≡◌, ℕ, ◌+◌, ◌/◌, ◌%◌, List, [], ◌∷◌, ◌++◌, get_or, ap, ap₂, ◌∙◌}
use Rattle.scaled_decimal.specs.NumberText.{digits}

pub twelve : (n a b c d e f g h i j k l : ℕ) → a ≡ 48 + n / 10 / 10 / 10 / 10 / 10 / 10 / 10 / 10 / 10 / 10 / 10 % 10
    → b ≡ 48 + n / 10 / 10 / 10 / 10 / 10 / 10 / 10 / 10 / 10 / 10 % 10 → c ≡ 48 + n / 10 / 10 / 10 / 10 / 10 / 10 / 10 / 10 / 10 % 10
    → d ≡ 48 + n / 10 / 10 / 10 / 10 / 10 / 10 / 10 / 10 % 10 → e ≡ 48 + n / 10 / 10 / 10 / 10 / 10 / 10 / 10 % 10
    → f ≡ 48 + n / 10 / 10 / 10 / 10 / 10 / 10 % 10 → g ≡ 48 + n / 10 / 10 / 10 / 10 / 10 % 10 → h ≡ 48 + n / 10 / 10 / 10 / 10 % 10
    → i ≡ 48 + n / 10 / 10 / 10 % 10 → j ≡ 48 + n / 10 / 10 % 10 → k ≡ 48 + n / 10 % 10 → l ≡ 48 + n % 10
    → a ∷ b ∷ c ∷ d ∷ e ∷ f ∷ g ∷ h ∷ i ∷ j ∷ k ∷ l ∷ [] ≡ digits 12 n
unfolding digits
twelve n a b c d e f g h i j k l ea eb ec ed ee ef eg eh ei ej ek el =
    ap₂ (λ x t. x ∷ t) ea (ap₂ (λ x t. x ∷ t) eb (ap₂ (λ x t. x ∷ t) ec (ap₂ (λ x t. x ∷ t) ed (ap₂ (λ x t. x ∷ t) ee (ap₂ (λ x t. x ∷ t) ef
    (ap₂ (λ x t. x ∷ t) eg (ap₂ (λ x t. x ∷ t) eh (ap₂ (λ x t. x ∷ t) ei (ap₂ (λ x t. x ∷ t) ej (ap₂ (λ x y. x ∷ y ∷ []) ek el))))))))))

-- a text assembled from its pieces
pub assembled : (sign plus m n k first x y : ℕ) (t : List ℕ) → first ≡ 48 + m % 10 → t ≡ digits 12 n → x ≡ 48 + k / 10 % 10 → y ≡ 48 + k % 10
    → sign ∷ first ∷ 46 ∷ get_or t 0 0 ∷ get_or t 1 0 ∷ get_or t 2 0 ∷ get_or t 3 0 ∷ get_or t 4 0 ∷ get_or t 5 0
    ∷ get_or t 6 0 ∷ get_or t 7 0 ∷ get_or t 8 0 ∷ get_or t 9 0 ∷ get_or t 10 0 ∷ get_or t 11 0 ∷ 68 ∷ plus ∷ x ∷ y ∷ []
    ≡ sign ∷ (digits 1 m ++ 46 ∷ (digits 12 n ++ 68 ∷ plus ∷ digits 2 k))
unfolding digits
assembled sign plus m n k first x y t first_is t_is x_is y_is =
    ap (λ t. sign ∷ first ∷ 46 ∷ get_or t 0 0 ∷ get_or t 1 0 ∷ get_or t 2 0 ∷ get_or t 3 0 ∷ get_or t 4 0 ∷ get_or t 5 0
    ∷ get_or t 6 0 ∷ get_or t 7 0 ∷ get_or t 8 0 ∷ get_or t 9 0 ∷ get_or t 10 0 ∷ get_or t 11 0 ∷ 68 ∷ plus ∷ x ∷ y ∷ []) t_is
    ∙ ap (λ f. sign ∷ f ∷ 46 ∷ (digits 12 n ++ 68 ∷ plus ∷ x ∷ y ∷ [])) first_is
    ∙ ap₂ (λ x y. sign ∷ (48 + m % 10) ∷ 46 ∷ (digits 12 n ++ 68 ∷ plus ∷ x ∷ y ∷ [])) x_is y_is
