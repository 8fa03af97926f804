-- Ascending numbers: what an insertion leaves, and the numbers of a range.
use Rattle.std.proofs.Common.{◌≡◌, ℕ, ◌+◌, ◌-◌, ◌<◌, ◌≤◌, ◌⊎◌, ◌↔◌, List, ◌∷◌, length, get_or, inl, inr, sym, ap, ◌∙◌, ⊎_elim, arith}
use Rattle.std.proofs.lemmas.Bool.{cases_eq, cases_lt}
use Rattle.std.proofs.lemmas.List.{get_or_default}
use Rattle.std.proofs.lemmas.List.Edits.{length-insert, get_or-insert_below, get_or-insert_at, get_or-insert_above, length-between, get_or-between}
use Rattle.std.proofs.lemmas.List.Sorted.{Contains-permutation, IsPermutation-insert, IsPermutation-sym}
use Rattle.std.specs.Prelude.{Contains}
use Rattle.std.specs.List.{insert, slice_range}
use Rattle.inav.specs.Mirrors.{Rises}
use Rattle.inav.proofs.Membership.{contains_cons}

-- the numbers do not fall, which a binary search asks
pub not_falling : (xs : List ℕ) → Rises xs → (i j : ℕ) → i ≤ j → j < length xs → get_or xs i 0 ≤ get_or xs j 0
not_falling xs up i j le low =
    ⊎_elim
    (λ (same : i ≡ j). let e : get_or xs i 0 ≡ get_or xs j 0 = ap (λ k. get_or xs k 0) same in omega (arith, e))
    (λ (apart : i ≡ j → ⊥). let less = up.at i j (omega (arith, le, apart)) low in omega (arith, less))
    (cases_eq i j)

-- a number of the list, by its place
pub at_place : (xs : List ℕ) (x : ℕ) → Contains xs x → (k : ℕ) × (k < length xs) × (get_or xs k 0 ≡ x)
at_place xs x h = (h.0, h.1, get_or_default xs h.0 0 x h.1 ∙ h.2)

pub from_place : (xs : List ℕ) (x k : ℕ) → k < length xs → get_or xs k 0 ≡ x → Contains xs x
from_place xs x k low e = (k, low, get_or_default xs k x 0 low ∙ e)

-- a number between those below it and those above it is not in the list
pub not_between : (xs : List ℕ) (i x : ℕ) → ((k : ℕ) → k < i → get_or xs k 0 < x)
    → ((k : ℕ) → i ≤ k → k < length xs → x < get_or xs k 0) → Contains xs x → ⊥
not_between xs i x below above h =
    let is = at_place xs x h in
    let e = is.2 in
    ⊎_elim
    (λ (low : is.0 < i). let less = below is.0 low in omega (arith, less, e))
    (λ (high : i ≤ is.0). let less = above is.0 high is.1 in omega (arith, less, e))
    (cases_lt is.0 i)

-- ---- an insertion

pub inserted : (xs : List ℕ) (i x : ℕ) (q : ℕ) → Contains (insert xs i x) q ↔ (Contains xs q ⊎ (x ≡ q))
inserted xs i x q = (
  λ h. ⊎_elim
      (λ (here : x ≡ q). inr here)
      (λ (later : Contains xs q). inl later)
      ((contains_cons x xs q).0
      (Contains-permutation (insert xs i x) (x ∷ xs) q (IsPermutation-sym (x ∷ xs) (insert xs i x) (IsPermutation-insert xs i x)) h)),
  λ h. Contains-permutation (x ∷ xs) (insert xs i x) q (IsPermutation-insert xs i x)
      ((contains_cons x xs q).1 (⊎_elim (λ (later : Contains xs q). inr later) (λ (here : x ≡ q). inl here) h)),
)

module _ (xs : List ℕ) (i x : ℕ) (fits : i ≤ length xs) (up : Rises xs) (below : (k : ℕ) → k < i → get_or xs k 0 < x)
    (above : (k : ℕ) → i ≤ k → k < length xs → x < get_or xs k 0) where
  -- the number at a place after the insertion
  at_low : (k : ℕ) → k < i → get_or (insert xs i x) k 0 ≡ get_or xs k 0
  at_low k low = get_or-insert_below xs i x 0 k low fits

  at_high : (k : ℕ) → i < k → get_or (insert xs i x) k 0 ≡ get_or xs (k - 1) 0
  at_high k high =
      let back : k ≡ (k - 1) + 1 = omega (arith, high) in
      ap (λ n. get_or (insert xs i x) n 0) back ∙ get_or-insert_above xs i x 0 (k - 1) (omega (arith, high)) fits

  at_own : get_or (insert xs i x) i 0 ≡ x
  at_own = get_or-insert_at xs i x 0 fits

  above_own : (b : ℕ) → i < b → b < length xs + 1 → x < get_or (insert xs i x) b 0
  above_own b high low =
      let later = at_high b high in
      let less = above (b - 1) (omega (arith, high)) (omega (arith, low, high)) in
      omega (arith, later, less)

  rises_by : (a b : ℕ) → a < b → b < length xs + 1 → get_or (insert xs i x) a 0 < get_or (insert xs i x) b 0
  rises_by a b less low =
      ⊎_elim
      (λ (first : a < i).
      let early = at_low a first in
      ⊎_elim
      (λ (second : b < i). let late = at_low b second in let step = up.at a b less (omega (arith, second, fits)) in omega (arith, early, late, step))
      (λ (second : i ≤ b).
      let own = below a first in
      ⊎_elim
      (λ (here : b ≡ i). let late = ap (λ n. get_or (insert xs i x) n 0) here ∙ at_own in omega (arith, early, own, late))
      (λ (apart : b ≡ i → ⊥). let late = above_own b (omega (arith, second, apart)) low in omega (arith, early, own, late))
      (cases_eq b i))
      (cases_lt b i))
      (λ (first : i ≤ a).
      ⊎_elim
      (λ (here : a ≡ i).
      let early = ap (λ n. get_or (insert xs i x) n 0) here ∙ at_own in
      let late = above_own b (omega (arith, here, less)) low in
      omega (arith, early, late))
      (λ (apart : a ≡ i → ⊥).
      let early = at_high a (omega (arith, first, apart)) in
      let late = at_high b (omega (arith, first, apart, less)) in
      let step = up.at (a - 1) (b - 1) (omega (arith, first, apart, less)) (omega (arith, first, apart, less, low)) in
      omega (arith, early, late, step))
      (cases_eq a i))
      (cases_lt a i)

  pub rises_inserted : Rises (insert xs i x)
  rises_inserted = record { at = λ a b less low. let len = length-insert xs i x fits in rises_by a b less (omega (arith, len, low)) }

-- ---- a range

module _ (xs : List ℕ) (i j : ℕ) (order : i ≤ j) (fits : j ≤ length xs) where
  inside : (k d : ℕ) → i + k < j → get_or (slice_range xs i j) k d ≡ get_or xs (i + k) d
  inside k d low = get_or-between xs i j k d low

  length_range : length (slice_range xs i j) ≡ j - i
  length_range = length-between xs i j fits

  -- the numbers of a range are those from its first on that are below its end
  pub of_range : (first end : ℕ) → ((k : ℕ) → k < i → get_or xs k 0 < first)
      → ((k : ℕ) → i ≤ k → k < length xs → first ≤ get_or xs k 0) → ((k : ℕ) → i ≤ k → k < j → get_or xs k 0 < end)
      → ((k : ℕ) → j ≤ k → k < length xs → end ≤ get_or xs k 0) → (q : ℕ)
      → Contains (slice_range xs i j) q ↔ (Contains xs q × (first ≤ q) × (q < end))
  of_range first end before from until past q = (
    λ h. let is = at_place (slice_range xs i j) q h in
        let len = length_range in
        let low : i + is.0 < j = let l = is.1 in omega (arith, len, l) in
        let e : get_or xs (i + is.0) 0 ≡ q = sym (inside is.0 0 low) ∙ is.2 in
        let least = from (i + is.0) (omega arith) (omega (arith, low, fits)) in
        let most = until (i + is.0) (omega arith) low in
        (from_place xs q (i + is.0) (omega (arith, low, fits)) e, omega (arith, least, e), omega (arith, most, e)),
    λ h. let is = at_place xs q h.0 in
        let e = is.2 in
        let within = is.1 in
        let least = h.1 in
        let most = h.2 in
        let high : i ≤ is.0 =
        ⊎_elim (λ (l : is.0 < i). absurd (let less = before is.0 l in omega (arith, less, e, least))) (λ (l : i ≤ is.0). l) (cases_lt is.0 i) in
        let low : is.0 < j =
        ⊎_elim (λ (l : is.0 < j). l) (λ (l : j ≤ is.0). absurd (let more = past is.0 l within in omega (arith, more, e, most))) (cases_lt is.0 j) in
        let back : i + (is.0 - i) ≡ is.0 = omega (arith, high) in
        let len = length_range in
        from_place (slice_range xs i j) q (is.0 - i) (omega (arith, len, low, high))
        (inside (is.0 - i) 0 (omega (arith, back, low)) ∙ ap (λ k. get_or xs k 0) back ∙ e),
  )
