-- The pairs received with one more item: those before and, if it yields a new page part, those of it with its partners.
use Rattle.std.proofs.Common.{◌≡◌, ℕ, ◌⊎◌, inl, inr, false, List, [], ◌∷◌, ◌++◌, map, Contains, sym, ap, subst, ◌∙◌}
use Rattle.std.proofs.Common.{⊎_elim}
use Rattle.std.proofs.lemmas.Bool.{both_ways}
use Rattle.inav.specs.Received.{StampedHalf, MakeWord, ArePartners, IsReceived, IsReceivedWith, has_half}
use Rattle.inav.proofs.Surface.{still_heard, heard_with_one_more}
use Rattle.capture_lines.specs.declared.item.LineItem.{LineItem}
use Rattle.capture_log.specs.Events.{Known}
use Rattle.capture_log.specs.Received.{IsHalfReceived}
use Rattle.capture_log.proofs.Surface.{In, in_from_contains, contains_from_in, in_left, in_right, in_append, in_map, map_in}
use Rattle.capture_log.proofs.Surface.{IsNewHalf, half_cases, half_keeps, still_accepted}
use Rattle.capture_log.proofs.Surface.{HalfLaws, Knows}
use Rattle.job_laws.specs.Counted.{ArePairsReceived, Pair}
use Rattle.job_laws.proofs.Sums.{once_joined}
use Rattle.job_laws.proofs.Partners.{pair_with, with_even, with_odd, partners_once}

abbrev IsPair : ℕ → List LineItem → Pair → Type 0
IsPair w items p = IsReceived (IsHalfReceived w items) p.even p.odd

-- before the first item
pub no_pairs : (w : ℕ) → ((half : StampedHalf) → IsHalfReceived w [] half → ⊥) → ArePairsReceived w [] []
no_pairs w none = record {
  once = tt;
  each = λ p. (λ h. absurd (in_from_contains [] p h), λ h. absurd (none p.even h.even_among));
}

module _ (w : ℕ) (items : List LineItem) (item : LineItem) where
  keeps : (half : StampedHalf) → IsHalfReceived w items half → IsHalfReceived w (items ++ item ∷ []) half
  keeps half h = half_keeps w items (items ++ item ∷ []) (still_accepted w items item) half h

  -- no new page part is received: they are the same
  pub pairs_stay : (pairs : List Pair) → ((half : StampedHalf) → IsNewHalf w items item half → IsHalfReceived w items half)
      → ArePairsReceived w items pairs → ArePairsReceived w (items ++ item ∷ []) pairs
  pairs_stay pairs none are =
      let back : (half : StampedHalf) → IsHalfReceived w (items ++ item ∷ []) half → IsHalfReceived w items half =
      λ half h. ⊎_elim (λ (was : IsHalfReceived w items half). was) (λ (new : IsNewHalf w items item half). none half new)
      (half_cases w items item half h) in
      record {
        once = are.once;
        each = λ p. (
          λ h. still_heard (IsHalfReceived w items) (IsHalfReceived w (items ++ item ∷ [])) p.even p.odd keeps ((are.each p).0 h),
          λ h. (are.each p).1 (still_heard (IsHalfReceived w (items ++ item ∷ [])) (IsHalfReceived w items) p.even p.odd back h),
        );
      }

-- a page part with one of its partners
pub record IsNewPair (known : Known) (own : StampedHalf) (other : StampedHalf) (p : Pair) : Type 0 where
  pub among : Contains known.halves other
  pub partners : ArePartners own other
  pub is : pair_with own other ≡ p

-- one new page part is received
module _ (laws : HalfLaws) (w : ℕ) (items : List LineItem) (item : LineItem) (known : Known) (knows : Knows w items known)
    (own : StampedHalf) (heard : IsHalfReceived w (items ++ item ∷ []) own) (fresh : has_half known.halves own ≡ false)
    (one : (half : StampedHalf) → IsNewHalf w items item half → own ≡ half) where
  -- the pairs that it makes
  abbrev pub new_pairs : List Pair
  new_pairs = map (pair_with own) (laws.words known.halves own).partners

  not_heard : IsHalfReceived w items own → ⊥
  not_heard h = both_ways (has_half known.halves own) fresh ((laws.among known.halves own).1 (knows.halves_from own h))

  of_new : (p : Pair) → In new_pairs p → (other : StampedHalf) × IsNewPair known own other p
  of_new p h =
      let are = laws.words known.halves own in
      let x = in_map (pair_with own) are.partners p h in
      let k = (are.each x.0).0 (contains_from_in are.partners x.0 x.1) in
      (x.0, record { among = k.0; partners = k.1; is = x.2 })

  in_new : (p : Pair) (other : StampedHalf) → IsNewPair known own other p → In new_pairs p
  in_new p other h =
      let are = laws.words known.halves own in
      let there = in_from_contains are.partners other ((are.each other).1 (h.among, h.partners)) in
      subst (In new_pairs) h.is (map_in (pair_with own) are.partners other there)

  new_heard : (p : Pair) → In new_pairs p → IsPair w (items ++ item ∷ []) p
  new_heard p h =
      let x = of_new p h in
      let there = keeps w items item x.0 (knows.halves_to x.0 x.1.among) in
      subst (IsPair w (items ++ item ∷ [])) x.1.is
      (⊎_elim
      (λ (make : MakeWord own x.0). subst (IsPair w (items ++ item ∷ [])) (sym (with_even own x.0 make))
      (record { even_among = heard; odd_among = there; make = make }))
      (λ (make : MakeWord x.0 own). subst (IsPair w (items ++ item ∷ [])) (sym (with_odd own x.0 make))
      (record { even_among = there; odd_among = heard; make = make }))
      x.1.partners)

  -- none of them was received before
  new_apart : (p : Pair) → In new_pairs p → IsPair w items p → ⊥
  new_apart p h was =
      let x = of_new p h in
      ⊎_elim
      (λ (make : MakeWord own x.0). not_heard
      (subst (IsHalfReceived w items) (ap (λ (q : Pair). q.even) (sym x.1.is ∙ with_even own x.0 make)) was.even_among))
      (λ (make : MakeWord x.0 own). not_heard
      (subst (IsHalfReceived w items) (ap (λ (q : Pair). q.odd) (sym x.1.is ∙ with_odd own x.0 make)) was.odd_among))
      x.1.partners

  of_own : (p : Pair) → IsReceivedWith (IsHalfReceived w items) own p.even p.odd → In new_pairs p
  of_own p h =
      ⊎_elim
      (λ (first : (own ≡ p.even) × IsHalfReceived w items p.odd).
      let make : MakeWord own p.odd = subst (λ e. MakeWord e p.odd) (sym first.0) h.0 in
      let is : pair_with own p.odd ≡ p = with_even own p.odd make ∙ (λ i. record { even = first.0 i; odd = p.odd }) in
      in_new p p.odd (record { among = knows.halves_from p.odd first.1; partners = inl make; is = is }))
      (λ (second : IsHalfReceived w items p.even × (own ≡ p.odd)).
      let make : MakeWord p.even own = subst (λ o. MakeWord p.even o) (sym second.1) h.0 in
      let is : pair_with own p.even ≡ p = with_odd own p.even make ∙ (λ i. record { even = p.even; odd = second.1 i }) in
      in_new p p.even (record { among = knows.halves_from p.even second.0; partners = inr make; is = is }))
      h.1

  heard_new : (p : Pair) → IsPair w (items ++ item ∷ []) p → IsPair w items p ⊎ IsReceivedWith (IsHalfReceived w items) own p.even p.odd
  heard_new p h =
      let Either : StampedHalf → Type 0 = λ half. (own ≡ half) ⊎ IsHalfReceived w items half in
      let either : (half : StampedHalf) → IsHalfReceived w (items ++ item ∷ []) half → Either half =
      λ half k. ⊎_elim (λ (was : IsHalfReceived w items half). inr was) (λ (new : IsNewHalf w items item half). inl (one half new))
      (half_cases w items item half k) in
      (heard_with_one_more (IsHalfReceived w items) own p.even p.odd).0
      (still_heard (IsHalfReceived w (items ++ item ∷ [])) Either p.even p.odd either h)

  pub pairs_more : (pairs : List Pair) → ArePairsReceived w items pairs → ArePairsReceived w (items ++ item ∷ []) (new_pairs ++ pairs)
  pairs_more pairs are = record {
    once = once_joined new_pairs pairs (partners_once own (laws.words known.halves own).partners
        (laws.words known.halves own).ascending) are.once
        (λ p new old. new_apart p new ((are.each p).0 (contains_from_in pairs p old)));
    each = λ p. (
      λ h. ⊎_elim
          (λ (new : In new_pairs p). new_heard p new)
          (λ (old : In pairs p).
          still_heard (IsHalfReceived w items) (IsHalfReceived w (items ++ item ∷ [])) p.even p.odd (keeps w items item)
          ((are.each p).0 (contains_from_in pairs p old)))
          (in_append new_pairs pairs p (in_from_contains (new_pairs ++ pairs) p h)),
      λ h. contains_from_in (new_pairs ++ pairs) p
          (⊎_elim
          (λ (was : IsPair w items p). in_right new_pairs pairs p (in_from_contains pairs p ((are.each p).1 was)))
          (λ (own_pair : IsReceivedWith (IsHalfReceived w items) own p.even p.odd). in_left new_pairs pairs p (of_own p own_pair))
          (heard_new p h)),
    );
  }
