-- The order of keys: the elements of a range, and that it ascends.
use Rattle.std.proofs.Common.{◌≡◌, ℕ, ◌+◌, ◌<◌, ◌≤◌, ◌^◌, ◌⊎◌, Bool, true, false, inl, inr, sym, ap, ◌∙◌, ⊎_elim, arith}
use Rattle.std.proofs.lemmas.Bool.{cases_lt, cases_order, lt-ltb, le-ltb, eq-eqb, ne_eqb, cond-true, cond-false, true≢false}
use Rattle.std.specs.declared.cmp.Ordering.TheVariants.{Less, Equal, Greater}
use Rattle.std.specs.Ordering.{nat_cmp, ordering_then, is_gt}
use Rattle.std.specs.Cmp.{IsTotalOrder, nat_cmp_total, then_total, on_total}
use Rattle.std.proofs.lemmas.Map.Lookups.{CmpEqualImpliesEq, exact_pairs, exact_unsigned}
use Rattle.std.proofs.lemmas.Map.Keys.{le_from_not_gt}
use Rattle.std.proofs.lemmas.Map.Views.{IsInRange-from_range_contains, range_contains-from_IsInRange}
use Rattle.std.proofs.lemmas.Cmp.{ranked}
use Rattle.std.specs.declared.ops.Bound.TheVariants.{Included, Excluded}
use Rattle.std.specs.BTreeMap.Range.{range_contains}
use Rattle.inav.specs.declared.half.HalfKind.{HalfKind}
use Rattle.inav.specs.declared.half.HalfKind.TheVariants.{Even, Odd}
use Rattle.inav.specs.Pages.{kind_of}
use Rattle.inav.proofs.InavPageSurface.{not_both}
use Rattle.inav.specs.Mirrors.{key_cmp, other_kind, first_partner, end_of_partners}

less : (a b : ℕ) → a < b → nat_cmp a b ≡ Less
less a b h = cond-true _ _ _ (lt-ltb a b h)

greater : (a b : ℕ) → b < a → nat_cmp a b ≡ Greater
greater a b h = cond-false _ _ _ (le-ltb a b (omega arith)) ∙ cond-false _ _ _ (ne_eqb a b (λ e. omega arith))

same : (a b : ℕ) → a ≡ b → nat_cmp a b ≡ Equal
same a b e = cond-false _ _ _ (le-ltb a b (omega arith)) ∙ cond-true _ _ _ (eq-eqb a b e)

pub key_cmp_total : IsTotalOrder key_cmp
key_cmp_total = then_total (on_total (λ (k : ℕ × ℕ). k.0) nat_cmp_total) (on_total (λ (k : ℕ × ℕ). k.1) nat_cmp_total)

pub key_cmp_exact : CmpEqualImpliesEq key_cmp
key_cmp_exact = exact_pairs nat_cmp nat_cmp exact_unsigned exact_unsigned

-- a key that is not above another has no greater bucket
pub first_le : (a b : ℕ × ℕ) → is_gt (key_cmp a b) ≡ false → a.0 ≤ b.0
first_le a b h =
    ⊎_elim
    (λ (after : b.0 < a.0). absurd (true≢false (sym (ap (λ r. is_gt (ordering_then r (nat_cmp a.1 b.1))) (greater a.0 b.0 after)) ∙ h)))
    (λ (le : a.0 ≤ b.0). le)
    (cases_lt b.0 a.0)

first_less : (a b : ℕ × ℕ) → a.0 < b.0 → key_cmp a b ≡ Less
first_less a b h = ap (λ r. ordering_then r (nat_cmp a.1 b.1)) (less a.0 b.0 h)

first_greater : (a b : ℕ × ℕ) → b.0 < a.0 → key_cmp a b ≡ Greater
first_greater a b h = ap (λ r. ordering_then r (nat_cmp a.1 b.1)) (greater a.0 b.0 h)

first_same : (a b : ℕ × ℕ) → a.0 ≡ b.0 → key_cmp a b ≡ nat_cmp a.1 b.1
first_same a b e = ap (λ r. ordering_then r (nat_cmp a.1 b.1)) (same a.0 b.0 e)

pub key_lt : (a b : ℕ × ℕ) → key_cmp a b ≡ Less → (a.0 < b.0) ⊎ ((a.0 ≡ b.0) × (a.1 < b.1))
key_lt a b h =
    ⊎_elim
    (λ (e : a.0 ≡ b.0). inr (e, ranked a.1 b.1 Less (sym (sym (first_same a b e) ∙ h))))
    (⊎_elim
    (λ (low : a.0 < b.0). inl low)
    (λ (high : b.0 < a.0). absurd (true≢false (ap is_gt (sym (first_greater a b high) ∙ h)))))
    (cases_order a.0 b.0)

pub key_le : (a b : ℕ × ℕ) → is_gt (key_cmp a b) ≡ false → (a.0 < b.0) ⊎ ((a.0 ≡ b.0) × (a.1 ≤ b.1))
key_le a b h =
    ⊎_elim
    (λ (e : a.0 ≡ b.0). inr (e, le_from_not_gt a.1 b.1 (sym (ap is_gt (first_same a b e)) ∙ h)))
    (⊎_elim
    (λ (low : a.0 < b.0). inl low)
    (λ (high : b.0 < a.0). absurd (true≢false (sym (ap is_gt (first_greater a b high)) ∙ h))))
    (cases_order a.0 b.0)

same_lt : (a b : ℕ × ℕ) → a.0 ≡ b.0 → a.1 < b.1 → key_cmp a b ≡ Less
same_lt a b e h = first_same a b e ∙ less a.1 b.1 h

same_le : (a b : ℕ × ℕ) → a.0 ≡ b.0 → a.1 ≤ b.1 → is_gt (key_cmp a b) ≡ false
same_le a b e h =
    ap is_gt (first_same a b e)
    ∙ ⊎_elim
    (λ (low : a.1 < b.1). ap is_gt (less a.1 b.1 low))
    (λ (high : b.1 ≤ a.1). ap is_gt (same a.1 b.1 (omega (arith, h, high))))
    (cases_lt a.1 b.1)

-- ---- the kinds

pub even_from : (n : ℕ) → n < 2 ^ 119 → kind_of n ≡ Even
even_from n h = cond-true _ _ _ (lt-ltb n (2 ^ 119) h)

pub odd_from : (n : ℕ) → 2 ^ 119 ≤ n → kind_of n ≡ Odd
odd_from n h = cond-false _ _ _ (le-ltb n (2 ^ 119) h)

pub odd_to : (n : ℕ) → kind_of n ≡ Odd → 2 ^ 119 ≤ n
odd_to n odd =
    ⊎_elim
    (λ (low : n < 2 ^ 119). absurd (not_both (kind_of n) (even_from n low) odd))
    (λ (high : 2 ^ 119 ≤ n). high)
    (cases_lt n (2 ^ 119))

pub even_to : (n : ℕ) → kind_of n ≡ Even → n < 2 ^ 119
even_to n even =
    ⊎_elim
    (λ (low : n < 2 ^ 119). low)
    (λ (high : 2 ^ 119 ≤ n). absurd (not_both (kind_of n) even (odd_from n high)))
    (cases_lt n (2 ^ 119))

-- ---- a range has the page parts at a place that are not of a kind

abbrev pub in_range : ℕ → HalfKind → ℕ × ℕ → Bool
in_range place kind key = range_contains key_cmp (Included (first_partner place kind)) (Excluded (end_of_partners place kind)) key

pub range_to : (place : ℕ) (kind : HalfKind) (key : ℕ × ℕ) → in_range place kind key ≡ true → (key.0 ≡ place) × (kind_of key.1 ≡ other_kind kind)
range_to place Even key h =
    let inside = IsInRange-from_range_contains key_cmp_total (Included (place, 2 ^ 119)) (Excluded (place + 1, 0)) key h in
    let from : place ≤ key.0 = first_le (place, 2 ^ 119) key inside.0 in
    let at : key.0 ≡ place =
    ⊎_elim
    (λ (low : key.0 < place + 1). omega (arith, from, low))
    (λ (none : (key.0 ≡ place + 1) × (key.1 < 0)). absurd (omega (arith, none.1)))
    (key_lt key (place + 1, 0) inside.1) in
    let odd : 2 ^ 119 ≤ key.1 =
    ⊎_elim
    (λ (low : place < key.0). absurd (omega (arith, at, low)))
    (λ (high : (place ≡ key.0) × (2 ^ 119 ≤ key.1)). high.1)
    (key_le (place, 2 ^ 119) key inside.0) in
    (at, odd_from key.1 odd)
range_to place Odd key h =
    let inside = IsInRange-from_range_contains key_cmp_total (Included (place, 0)) (Excluded (place, 2 ^ 119)) key h in
    let from : place ≤ key.0 = first_le (place, 0) key inside.0 in
    let below : (key.0 ≡ place) × (key.1 < 2 ^ 119) =
    ⊎_elim
    (λ (low : key.0 < place). absurd (omega (arith, from, low)))
    (λ (high : (key.0 ≡ place) × (key.1 < 2 ^ 119)). high)
    (key_lt key (place, 2 ^ 119) inside.1) in
    (below.0, even_from key.1 below.1)

pub range_from : (place : ℕ) (kind : HalfKind) (key : ℕ × ℕ) → key.0 ≡ place → kind_of key.1 ≡ other_kind kind → in_range place kind key ≡ true
range_from place Even key at odd =
    range_contains-from_IsInRange key_cmp_total (Included (place, 2 ^ 119)) (Excluded (place + 1, 0)) key
    (same_le (place, 2 ^ 119) key (sym at) (odd_to key.1 odd), first_less key (place + 1, 0) (omega (arith, at)))
range_from place Odd key at even =
    range_contains-from_IsInRange key_cmp_total (Included (place, 0)) (Excluded (place, 2 ^ 119)) key
    (same_le (place, 0) key (sym at) (omega arith), same_lt key (place, 2 ^ 119) at (even_to key.1 even))

pub key_cmp_same : (a b : ℕ × ℕ) → a ≡ b → key_cmp a b ≡ Equal
key_cmp_same a b e = first_same a b (ap (λ k. k.0) e) ∙ same a.1 b.1 (ap (λ k. k.1) e)
