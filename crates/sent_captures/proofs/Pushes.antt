-- Appending an element to a list.
use Rattle.std.proofs.Common.{◌≡◌, ℕ, ◌+◌, ◌<◌, List, [], ◌∷◌, ◌++◌, length, get_or, sym, subst, below_more, arith}
use Rattle.std.proofs.lemmas.List.{get_or_append_left, get_or_push}

-- a property of each element with its index, kept when the new element has it
pub each_push : {X : Type 0} (P : ℕ → X → Type 0) (xs : List X) (x : X) (n : ℕ) → length xs ≡ n → ((i : ℕ) → i < n → (d : X) → P i (get_or xs i d)) → P n x
    → (i : ℕ) → i < n + 1 → (d : X) → P i (get_or (xs ++ x ∷ []) i d)
each_push {X} P xs x n len before here =
    below_more (λ k. (d : X) → P k (get_or (xs ++ x ∷ []) k d)) n
    (λ k low d. subst (P k) (sym (get_or_append_left xs (x ∷ []) d k (omega arith))) (before k low d))
    (λ d. subst (P n) (sym (get_or_push xs x d n len)) here)
