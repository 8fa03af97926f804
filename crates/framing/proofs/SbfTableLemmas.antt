-- A table whose entries pass a test that computes has the tested entry at each index.
use Rattle.std.proofs.Common.{◌≡◌, ℕ, zero, suc, ◌+◌, ◌<◌, Bool, true, false, nat_eq, ◌&&◌, List}
use Rattle.std.proofs.Common.{[], ◌∷◌, length, get_or, refl, sym, ap, ◌∙◌, arith, add-zero}
use Rattle.std.proofs.lemmas.Bool.{eqb-true}

-- the table has f at each index, counted from i
abbrev pub are_entries : (ℕ → ℕ) → ℕ → List ℕ → Bool
are_entries f i [] = true
are_entries f i (t ∷ ts) = nat_eq t (f i) && are_entries f (suc i) ts

both_true : (a b : Bool) → (a && b) ≡ true → (a ≡ true) × (b ≡ true)
both_true true b e = (refl, e)
both_true false b e = absurd (cc)

pub entry_is : (f : ℕ → ℕ) (i : ℕ) (ts : List ℕ) → are_entries f i ts ≡ true → (k : ℕ)
    → k < length ts → get_or ts k 0 ≡ f (i + k)
entry_is f i [] right k h = absurd (omega arith)
entry_is f i (t ∷ ts) right zero h =
    let parts : (nat_eq t (f i) ≡ true) × (are_entries f (suc i) ts ≡ true) =
    both_true (nat_eq t (f i)) (are_entries f (suc i) ts) right in
    eqb-true t (f i) parts.0 ∙ ap f (sym (add-zero i))
entry_is f i (t ∷ ts) right (suc k) h =
    let parts : (nat_eq t (f i) ≡ true) × (are_entries f (suc i) ts ≡ true) =
    both_true (nat_eq t (f i)) (are_entries f (suc i) ts) right in
    let next : suc i + k ≡ i + suc k = omega arith in
    entry_is f (suc i) ts parts.1 k (omega arith) ∙ ap f next
