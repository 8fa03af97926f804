-- The recursion from offset to offset: which offsets are chosen.
use Rattle.std.proofs.Common.{◌≡◌, ℕ, suc, ◌+◌, ◌-◌, ◌<◌, ◌≤◌, ◌⊎◌, Bool, true, false, IsTrue, List, ◌∷◌, drop, inl, inr, refl, ap, ◌∙◌, arith}
use Rattle.std.proofs.lemmas.Bool.{false_from_ne_true, both_ways, cases_eq}
use Rattle.std.proofs.lemmas.List.{drop-drop}
use Rattle.framing.specs.Places.{AreChosen, size_at}

-- at offset p, the first k bytes being inside the last chosen frame
pub record Reaches (bytes : List ℕ) (chosen : ℕ → Bool) (p k : ℕ) : Type 0 where
  pub before : (q : ℕ) → IsTrue (chosen q) → q < p → q + size_at bytes q ≤ p + k
  pub inside : (k ≡ 0) ⊎ ((q : ℕ) × IsTrue (chosen q) × (q < p) × (q + size_at bytes q ≡ p + k))

-- at the start no byte is inside a frame
pub reaches_none : (bytes : List ℕ) (chosen : ℕ → Bool) → Reaches bytes chosen 0 0
reaches_none bytes chosen = record { before = λ q c h. absurd (omega arith); inside = inl refl }

-- an offset inside a chosen frame is not chosen
pub inside_is_passed : (bytes : List ℕ) (chosen : ℕ → Bool) → AreChosen bytes chosen → (p k : ℕ) → Reaches bytes chosen p (suc k) → chosen p ≡ false
inside_is_passed bytes chosen set p k r =
    false_from_ne_true _
    (λ here.
    let fits = (set.exactly p).0 here in
    elim r.inside [
      | inl e ↦ omega arith
      | inr w ↦ let last : w.0 + size_at bytes w.0 ≡ p + suc k = w.3 in omega (arith, fits.1 w.0 w.1 w.2)
    ])

-- an offset where no frame begins is not chosen
pub none_is_passed : (bytes : List ℕ) (chosen : ℕ → Bool) → AreChosen bytes chosen → (p : ℕ) → size_at bytes p ≡ 0 → chosen p ≡ false
none_is_passed bytes chosen set p none =
    false_from_ne_true _ (λ here. let fits = (set.exactly p).0 here in omega (arith, fits.0))

-- an offset outside the chosen frames where a frame begins is chosen
pub outside_is_chosen : (bytes : List ℕ) (chosen : ℕ → Bool) → AreChosen bytes chosen → (p : ℕ) → 0 < size_at bytes p → Reaches bytes chosen p 0 → chosen p ≡ true
outside_is_chosen bytes chosen set p some r =
    (set.exactly p).1 (some, λ q c h. omega (arith, r.before q c h))

-- what ends by some place, and doesn't begin at p
before_next : (bytes : List ℕ) (chosen : ℕ → Bool) (p m : ℕ) → chosen p ≡ false → ((q : ℕ) → IsTrue (chosen q) → q < p → q + size_at bytes q ≤ m)
    → (q : ℕ) → IsTrue (chosen q) → q < p + 1 → q + size_at bytes q ≤ m
before_next bytes chosen p m closed before q c h =
    elim (cases_eq q p) [ inl e ↦ absurd (both_ways _ closed (rw e at c)) | inr n ↦ before q c (omega arith) ]

-- the next offset, inside the last chosen frame
pub next_inside : (bytes : List ℕ) (chosen : ℕ → Bool) (p k : ℕ) → chosen p ≡ false → Reaches bytes chosen p (suc k) → Reaches bytes chosen (p + 1) k
next_inside bytes chosen p k closed r = record {
  before = before_next bytes chosen p (p + 1 + k) closed (λ q c h. omega (arith, r.before q c h));
  inside = elim r.inside [ inl e ↦ absurd (omega arith) | inr w ↦ inr (w.0, w.1, omega (arith, w.2), omega (arith, w.3)) ];
}

-- the next offset, outside the chosen frames
pub next_outside : (bytes : List ℕ) (chosen : ℕ → Bool) (p : ℕ) → chosen p ≡ false → Reaches bytes chosen p 0 → Reaches bytes chosen (p + 1) 0
next_outside bytes chosen p closed r = record {
  before = before_next bytes chosen p (p + 1 + 0) closed (λ q c h. omega (arith, r.before q c h));
  inside = inl refl;
}

-- the next offset, where a chosen frame begins
pub next_begun : (bytes : List ℕ) (chosen : ℕ → Bool) (p : ℕ) → chosen p ≡ true → 0 < size_at bytes p → Reaches bytes chosen p 0 → Reaches bytes chosen (p + 1) (size_at bytes p - 1)
next_begun bytes chosen p here some r = record {
  before = λ q c h. elim (cases_eq q p) [ inl e ↦ rw e (omega arith) | inr n ↦ omega (arith, r.before q c (omega arith)) ];
  inside = inr (p, here, omega arith, omega arith);
}

-- the bytes after the first of those from offset p on
pub behind : (bytes : List ℕ) (p x : ℕ) (xs : List ℕ) → x ∷ xs ≡ drop p bytes → xs ≡ drop (p + 1) bytes
behind bytes p x xs e = ap (drop 1) e ∙ drop-drop 1 p bytes
