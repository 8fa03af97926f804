-- There is exactly one set of chosen offsets, whatever the sizes of the frames are.
use Rattle.std.proofs.Common.{◌≡◌, ℕ, zero, suc, ◌+◌, ◌<◌, ◌≤◌, ◌&&◌, ◌↔◌, ◌⊎◌, nat_lt, nat_le, Bool, true, false, IsTrue, inl, inr, refl, arith}
use Rattle.std.proofs.lemmas.Bool.{and_parts, and_from, leb-true, ltb-true, le-leb, lt-ltb, both_ways, cases_eq}
use Rattle.std.proofs.lemmas.Bool.Decides.{same_from_decides}
use Rattle.framing.specs.Places.{reach, chosen_by}

-- the frames at the chosen offsets before p end by m
abbrev pub End : (ℕ → ℕ) → (ℕ → Bool) → ℕ → ℕ → Type 0
End size chosen p m = (q : ℕ) → IsTrue (chosen q) → q < p → q + size q ≤ m

-- the property of the chosen offsets, at one offset
abbrev pub Fits : (ℕ → ℕ) → (ℕ → Bool) → ℕ → Type 0
Fits size chosen p = (0 < size p) × End size chosen p p

earlier : (q p : ℕ) → q < suc p → (q < p) ⊎ (q ≡ p)
earlier q p h = elim (cases_eq q p) [ inl e ↦ inr e | inr n ↦ inl (omega arith) ]

above_at : (size : ℕ → ℕ) (p : ℕ) → End size (chosen_by size) p (reach size p)
    → (b : Bool) → (nat_le (reach size p) p && nat_lt 0 (size p)) ≡ b → End size (chosen_by size) (suc p) (reach size (suc p))
above_at size p below true here = λ q c h.
    let parts = and_parts (nat_le (reach size p) p) (nat_lt 0 (size p)) here in
    let by_here : reach size p ≤ p = leb-true _ _ parts.0 in
    rw here (elim (earlier q p h) [ inl lt ↦ omega (arith, below q c lt) | inr e ↦ rw e (omega arith) ])
above_at size p below false here = λ q c h.
    rw here (elim (earlier q p h) [ inl lt ↦ below q c lt | inr e ↦ absurd (both_ways _ here (rw e at c)) ])

-- the chosen frames that begin before p end by their reach
pub reach_is_above : (size : ℕ → ℕ) (p : ℕ) → End size (chosen_by size) p (reach size p)
reach_is_above size zero = λ q c h. absurd (omega arith)
reach_is_above size (suc p) = above_at size p (reach_is_above size p) _ refl

least_at : (size : ℕ → ℕ) (p m : ℕ) → (End size (chosen_by size) p m → reach size p ≤ m)
    → (b : Bool) → (nat_le (reach size p) p && nat_lt 0 (size p)) ≡ b → End size (chosen_by size) (suc p) m → reach size (suc p) ≤ m
least_at size p m go true here ends = rw here (ends p here (omega arith))
least_at size p m go false here ends = rw here (go (λ q c h. ends q c (omega arith)))

-- and not earlier
pub reach_is_least : (size : ℕ → ℕ) (p m : ℕ) → End size (chosen_by size) p m → reach size p ≤ m
reach_is_least size zero m ends = omega arith
reach_is_least size (suc p) m ends = least_at size p m (reach_is_least size p m) _ refl ends

-- there is a set of chosen offsets
pub chosen_fits : (size : ℕ → ℕ) (p : ℕ) → IsTrue (chosen_by size p) ↔ Fits size (chosen_by size) p
chosen_fits size p = (
  λ c.
      let parts = and_parts (nat_le (reach size p) p) (nat_lt 0 (size p)) c in
      let by_here : reach size p ≤ p = leb-true _ _ parts.0 in
      (ltb-true _ _ parts.1, λ q d h. omega (arith, reach_is_above size p q d h)),
  λ fits. and_from (nat_le (reach size p) p) (nat_lt 0 (size p)) (le-leb _ _ (reach_is_least size p p fits.1)) (lt-ltb _ _ fits.0),
)

-- the set is the only one: below each offset
same_below : (size : ℕ → ℕ) (c d : ℕ → Bool) → ((p : ℕ) → IsTrue (c p) ↔ Fits size c p) → ((p : ℕ) → IsTrue (d p) ↔ Fits size d p)
    → (n p : ℕ) → p < n → c p ≡ d p
same_below size c d cs ds zero p h = absurd (omega arith)
same_below size c d cs ds (suc n) p h =
    let below : (q : ℕ) → q < n → c q ≡ d q = same_below size c d cs ds n in
    let to_c : Fits size d p → Fits size c p = λ f. (f.0, λ q t l. f.1 q (rw (below q (omega arith)) at t) l) in
    let to_d : Fits size c p → Fits size d p = λ f. (f.0, λ q t l. f.1 q (rw (below q (omega arith)) t) l) in
    same_from_decides (c p) (d p) (λ t. (cs p).0 t, λ f. (cs p).1 f) (λ t. to_c ((ds p).0 t), λ f. (ds p).1 (to_d f))

pub only_chosen : (size : ℕ → ℕ) (c d : ℕ → Bool) → ((p : ℕ) → IsTrue (c p) ↔ Fits size c p) → ((p : ℕ) → IsTrue (d p) ↔ Fits size d p)
    → (p : ℕ) → c p ≡ d p
only_chosen size c d cs ds p = same_below size c d cs ds (suc p) p (omega arith)
