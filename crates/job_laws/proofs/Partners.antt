-- The pairs of a page part with its partners: each once, and their words yield what the words of the page part yield.
use Rattle.std.proofs.Common.{◌≡◌, ℕ, ◌+◌, List, [], ◌∷◌, map, inl, inr, refl, sym, ap, ◌∙◌, ⊎_elim, arith}
use Rattle.nav_eph.specs.Satellite.{Satellite}
use Rattle.inav.specs.declared.half.HalfKind.{HalfKind}
use Rattle.inav.specs.declared.half.HalfKind.TheVariants.{Even, Odd}
use Rattle.inav.specs.Pages.{kind_of}
use Rattle.inav.specs.Received.{StampedHalf, MakeWord, ArePartners, AreWordsWith, IsAbove, IsAscending, stamp_by, word_with}
use Rattle.inav.specs.Reading.{reading_of}
use Rattle.capture_log.specs.Events.{of_word, of_words}
use Rattle.capture_log.specs.declared.event.Event.{Event}
use Rattle.capture_log.proofs.Surface.{In, in_map}
use Rattle.capture_log.proofs.Surface.{taken_even, taken_odd}
use Rattle.job_laws.specs.Counted.{IsOnce, Pair, pair_events, pairs_weight, weight_of}
use Rattle.job_laws.proofs.Sums.{sum_first, sum_mapped, once_first}

-- the two page parts as a pair, where the first is of this kind
abbrev pair_by : HalfKind → StampedHalf → StampedHalf → Pair
pair_by Even one other = record { even = one; odd = other }
pair_by Odd one other = record { even = other; odd = one }

abbrev pub pair_with : StampedHalf → StampedHalf → Pair
pair_with one other = pair_by (kind_of one.half) one other

pub with_even : (one other : StampedHalf) → MakeWord one other → pair_with one other ≡ record { even = one; odd = other }
with_even one other make = ap (λ (kind : HalfKind). pair_by kind one other) make.is_even

pub with_odd : (one other : StampedHalf) → MakeWord other one → pair_with one other ≡ record { even = other; odd = one }
with_odd one other make = ap (λ (kind : HalfKind). pair_by kind one other) make.is_odd

by_other : (kind : HalfKind) (one x y : StampedHalf) → pair_by kind one x ≡ pair_by kind one y → x ≡ y
by_other Even one x y e = ap (λ (p : Pair). p.odd) e
by_other Odd one x y e = ap (λ (p : Pair). p.even) e

-- ---- each once

above_in : (bits : ℕ) (xs : List StampedHalf) → IsAbove bits xs → (x : StampedHalf) → In xs x → bits ≡ x.half → ⊥
above_in bits [] above x h e = h
above_in bits (y ∷ ys) above x (inl same) e =
    let own : y.half ≡ x.half = ap (λ (h : StampedHalf). h.half) same in
    omega (arith, above.0)
above_in bits (y ∷ ys) above x (inr h) e = above_in bits ys above.1 x h e

pub partners_once : (one : StampedHalf) (xs : List StampedHalf) → IsAscending xs → IsOnce (map (pair_with one) xs)
partners_once one [] ascending = tt
partners_once one (x ∷ xs) ascending =
    once_first (pair_with one x) (map (pair_with one) xs)
    (λ h. let y = in_map (pair_with one) xs (pair_with one x) h in
    above_in x.half xs ascending.0 y.0 y.1 (ap (λ (s : StampedHalf). s.half) (by_other (kind_of one.half) one x y.0 (sym y.2))))
    (partners_once one xs ascending.1)

-- ---- what their words yield

abbrev word_events : List ℕ → Satellite → ℕ → List Event
word_events word sat stamp = of_word (reading_of word sat stamp)

-- the events of the word of a page part and another
abbrev with_other : StampedHalf → StampedHalf → List Event
with_other one other = word_events (word_with one other) one.sat (stamp_by (kind_of one.half) one.stamp)

pair_yields : (one other : StampedHalf) → ArePartners one other → with_other one other ≡ pair_events (pair_with one other)
pair_yields one other partners =
    ⊎_elim
    (λ (make : MakeWord one other). taken_even word_events one other make ∙ ap pair_events (sym (with_even one other make)))
    (λ (make : MakeWord other one). taken_odd word_events one other make ∙ ap pair_events (sym (with_odd one other make)))
    partners

module _ (kind : Event → ℕ) (one : StampedHalf) where
  words_weight : (xs : List StampedHalf) → ((x : StampedHalf) → In xs x → ArePartners one x)
      → weight_of kind (of_words one (map (word_with one) xs)) ≡ pairs_weight kind (map (pair_with one) xs)
  words_weight [] partners = refl
  words_weight (x ∷ xs) partners =
      sum_mapped kind (with_other one x) (of_words one (map (word_with one) xs))
      ∙ ap (λ (es : List Event). weight_of kind es + weight_of kind (of_words one (map (word_with one) xs)))
      (pair_yields one x (partners x (inl refl)))
      ∙ ap (λ (n : ℕ). weight_of kind (pair_events (pair_with one x)) + n) (words_weight xs (λ y h. partners y (inr h)))
      ∙ sym (sum_first (weight_of kind (pair_events (pair_with one x)))
      (map (λ p. weight_of kind (pair_events p)) (map (pair_with one) xs)))

-- the events of the words of a page part have the total of its pairs
pub taken_weight : (kind : Event → ℕ) (among : StampedHalf → Type 0) (one : StampedHalf) (words : List (List ℕ))
    (are : AreWordsWith among one words) → ((x : StampedHalf) → In are.partners x → ArePartners one x)
    → weight_of kind (of_words one words) ≡ pairs_weight kind (map (pair_with one) are.partners)
taken_weight kind among one words are partners =
    ap (λ (ws : List (List ℕ)). weight_of kind (of_words one ws)) are.words_are ∙ words_weight kind one are.partners partners
