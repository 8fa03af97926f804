-- A table whose entries pass a test that computes has the tested entry at each index.
use Rattle.std.proofs.Common.{◌≡◌, ℕ, zero, suc, ◌+◌, ◌<◌, Bool, true, false, nat_eq, ◌&&◌, List, [], ◌∷◌, length, get_or, refl, sym, ap, ◌∙◌, arith, add-zero}
use Rattle.std.proofs.lemmas.Bool.{eqb-true}

-- the table has f at each index, counted from i
abbrev pub are_entries : (ℕ → ℕ) → ℕ → List ℕ → Bool
are_entries f i [] = true
are_entries f i (t ∷ ts) = nat_eq t (f i) && are_entries f (suc i) ts

-- each number of the second list is f of the one at its index in the first
abbrev pub are_images : (ℕ → ℕ) → List ℕ → List ℕ → Bool
are_images f [] [] = true
are_images f [] (u ∷ us) = false
are_images f (t ∷ ts) [] = false
are_images f (t ∷ ts) (u ∷ us) = nat_eq u (f t) && are_images f ts us

both_true : (a b : Bool) → (a && b) ≡ true → (a ≡ true) × (b ≡ true)
both_true true b e = (refl, e)
both_true false b e = absurd (cc)

pub entry_is : (f : ℕ → ℕ) (i : ℕ) (ts : List ℕ) → are_entries f i ts ≡ true → (k : ℕ) → k < length ts → get_or ts k 0 ≡ f (i + k)
entry_is f i [] right k h = absurd (omega arith)
entry_is f i (t ∷ ts) right zero h =
    let parts : (nat_eq t (f i) ≡ true) × (are_entries f (suc i) ts ≡ true) = both_true (nat_eq t (f i)) (are_entries f (suc i) ts) right in
    eqb-true t (f i) parts.0 ∙ ap f (sym (add-zero i))
entry_is f i (t ∷ ts) right (suc k) h =
    let parts : (nat_eq t (f i) ≡ true) × (are_entries f (suc i) ts ≡ true) = both_true (nat_eq t (f i)) (are_entries f (suc i) ts) right in
    let next : suc i + k ≡ i + suc k = omega arith in
    entry_is f (suc i) ts parts.1 k (omega arith) ∙ ap f next

pub image_is : (f : ℕ → ℕ) (ts us : List ℕ) → are_images f ts us ≡ true → (k : ℕ) → k < length ts → get_or us k 0 ≡ f (get_or ts k 0)
image_is f [] us right k h = absurd (omega arith)
image_is f (t ∷ ts) [] right k h = absurd (cc)
image_is f (t ∷ ts) (u ∷ us) right zero h = eqb-true u (f t) (both_true (nat_eq u (f t)) (are_images f ts us) right).0
image_is f (t ∷ ts) (u ∷ us) right (suc k) h =
    image_is f ts us (both_true (nat_eq u (f t)) (are_images f ts us) right).1 k (omega arith)

pub images_length : (f : ℕ → ℕ) (ts us : List ℕ) → are_images f ts us ≡ true → length us ≡ length ts
images_length f [] [] right = refl
images_length f [] (u ∷ us) right = absurd (cc)
images_length f (t ∷ ts) [] right = absurd (cc)
images_length f (t ∷ ts) (u ∷ us) right =
    ap suc (images_length f ts us (both_true (nat_eq u (f t)) (are_images f ts us) right).1)

-- each table has f of the numbers of the one before it, the first those of another table
abbrev pub are_chain : (ℕ → ℕ) → List ℕ → List (List ℕ) → Bool
are_chain f ts [] = true
are_chain f ts (us ∷ rest) = are_images f ts us && are_chain f us rest

pub chain_parts : (f : ℕ → ℕ) (ts us : List ℕ) (rest : List (List ℕ)) → are_chain f ts (us ∷ rest) ≡ true
    → (are_images f ts us ≡ true) × (are_chain f us rest ≡ true)
chain_parts f ts us rest right = both_true (are_images f ts us) (are_chain f us rest) right

-- each number but the first is f of the one before it
abbrev pub steps_from : (ℕ → ℕ) → ℕ → List ℕ → Bool
steps_from f t [] = true
steps_from f t (u ∷ us) = nat_eq u (f t) && steps_from f u us

abbrev pub are_steps : (ℕ → ℕ) → List ℕ → Bool
are_steps f [] = true
are_steps f (t ∷ ts) = steps_from f t ts

step_from : (f : ℕ → ℕ) (t : ℕ) (us : List ℕ) → steps_from f t us ≡ true → (k : ℕ) → k < length us → get_or us k 0 ≡ f (get_or (t ∷ us) k 0)
step_from f t [] right k h = absurd (omega arith)
step_from f t (u ∷ us) right zero h = eqb-true u (f t) (both_true (nat_eq u (f t)) (steps_from f u us) right).0
step_from f t (u ∷ us) right (suc k) h =
    step_from f u us (both_true (nat_eq u (f t)) (steps_from f u us) right).1 k (omega arith)

pub step_is : (f : ℕ → ℕ) (ts : List ℕ) → are_steps f ts ≡ true → (k : ℕ) → suc k < length ts → get_or ts (suc k) 0 ≡ f (get_or ts k 0)
step_is f [] right k h = absurd (omega arith)
step_is f (t ∷ ts) right k h = step_from f t ts right k (omega arith)
