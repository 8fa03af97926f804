-- The events of the words of a page part, from it and its partner, whichever is even.
use Rattle.std.proofs.Common.{◌≡◌, ℕ, inl, inr, List, map, flat_map, refl, sym, ap, subst, ◌∙◌}
use Rattle.std.proofs.Common.{⊎_elim}
use Rattle.nav_eph.specs.Satellite.{Satellite}
use Rattle.inav.specs.Pages.{kind_of, word_of}
use Rattle.inav.specs.Received.{StampedHalf, MakeWord, ArePartners, AreWordsWith, IsReceivedWith}
use Rattle.inav.specs.Received.{word_by, word_with, stamp_by}
use Rattle.capture_log.proofs.Lists.{In, in_from_contains, contains_from_in, in_flat_map}
use Rattle.capture_log.proofs.Lists.{flat_map_in, in_map, map_in}

-- the events of a word, its satellite and its stamp
module _ {X : Type 0} (f : List ℕ → Satellite → ℕ → X) where
  -- of the word of a page part and another
  abbrev made_with : StampedHalf → StampedHalf → X
  made_with taken other = f (word_with taken other) taken.sat (stamp_by (kind_of taken.half) taken.stamp)

  -- of the word of an even part and an odd one
  abbrev made_of : StampedHalf → StampedHalf → X
  made_of even odd = f (word_of even.half odd.half) odd.sat odd.stamp

  pub taken_even : (taken other : StampedHalf) → MakeWord taken other
      → made_with taken other ≡ made_of taken other
  taken_even taken other make =
      ap (λ kind. f (word_by kind taken.half other.half) taken.sat (stamp_by kind taken.stamp)) make.is_even
      ∙ (λ i. f (word_of taken.half other.half) (sym make.sat i) (sym make.stamp i))

  pub taken_odd : (taken other : StampedHalf) → MakeWord other taken
      → made_with taken other ≡ made_of other taken
  taken_odd taken other make = ap (λ kind. f (word_by kind taken.half other.half) taken.sat (stamp_by kind taken.stamp)) make.is_odd

module _ {E : Type 0} (f : List ℕ → Satellite → ℕ → List E) (among : StampedHalf → Type 0) (taken : StampedHalf) where
  -- the events of the words of the page part
  abbrev of_each : List (List ℕ) → List E
  of_each words = flat_map (λ word. f word taken.sat (stamp_by (kind_of taken.half) taken.stamp)) words

  -- a partner in a list makes a pair
  with_partner : (other : StampedHalf) (event : E) → among other → ArePartners taken other
      → In (made_with f taken other) event
      → (even : StampedHalf) × (odd : StampedHalf) × IsReceivedWith among taken even odd × In (made_of f even odd) event
  with_partner other event there partners h =
      ⊎_elim
      (λ (make : MakeWord taken other). (taken, other, (make, inl (refl, there)), subst (λ es. In es event) (taken_even f taken other make) h))
      (λ (make : MakeWord other taken). (other, taken, (make, inr (there, refl)), subst (λ es. In es event) (taken_odd f taken other make) h))
      partners

  pub words_yield : (words : List (List ℕ)) (event : E) → AreWordsWith among taken words
      → In (of_each words) event
      → (even : StampedHalf) × (odd : StampedHalf) × IsReceivedWith among taken even odd × In (made_of f even odd) event
  words_yield words event are h =
      let word = in_flat_map (λ w. f w taken.sat (stamp_by (kind_of taken.half) taken.stamp)) words event h in
      let there : In (map (word_with taken) are.partners) word.0 = subst (λ ws. In ws word.0) are.words_are word.1 in
      let other = in_map (word_with taken) are.partners word.0 there in
      let known = (are.each other.0).0 (contains_from_in are.partners other.0 other.1) in
      let yields : In (made_with f taken other.0) event =
      subst (λ w. In (f w taken.sat (stamp_by (kind_of taken.half) taken.stamp)) event) (sym other.2) word.2 in
      with_partner other.0 event known.0 known.1 yields

  -- a partner's word gives its events
  by_partner : (words : List (List ℕ)) (other : StampedHalf) (event : E)
      → AreWordsWith among taken words → among other
      → ArePartners taken other → In (made_with f taken other) event → In (of_each words) event
  by_partner words other event are there partners h =
      let stands = in_from_contains are.partners other ((are.each other).1 (there, partners)) in
      let word : In words (word_with taken other) =
      subst (λ ws. In ws (word_with taken other)) (sym are.words_are) (map_in (word_with taken) are.partners other stands) in
      flat_map_in (λ w. f w taken.sat (stamp_by (kind_of taken.half) taken.stamp)) words (word_with taken other) event word h

  pub pair_yields : (words : List (List ℕ)) (event : E) (even odd : StampedHalf)
      → AreWordsWith among taken words
      → IsReceivedWith among taken even odd → In (made_of f even odd) event → In (of_each words) event
  pair_yields words event even odd are heard h =
      let make : MakeWord even odd = heard.0 in
      ⊎_elim
      (λ (first : (taken ≡ even) × among odd).
      let own : MakeWord taken odd = subst (λ e. MakeWord e odd) (sym first.0) make in
      let yields : In (made_of f taken odd) event = subst (λ e. In (made_of f e odd) event) (sym first.0) h in
      by_partner words odd event are first.1 (inl own) (subst (λ es. In es event) (sym (taken_even f taken odd own)) yields))
      (λ (second : among even × (taken ≡ odd)).
      let own : MakeWord even taken = subst (λ o. MakeWord even o) (sym second.1) make in
      let yields : In (made_of f even taken) event = subst (λ o. In (made_of f even o) event) (sym second.1) h in
      by_partner words even event are second.0 (inr own) (subst (λ es. In es event) (sym (taken_odd f taken even own)) yields))
      heard.1
