-- The counts of a log are those of its items alone and those of the words of the pairs received.
use Rattle.std.proofs.Common.{◌≡◌, ℕ, ◌+◌, List, [], ◌∷◌, ◌++◌, map, length, refl, sym, ap, subst, ◌∙◌, append_assoc}
use Rattle.std.proofs.Common.{append-nil, arith}
use Rattle.std.specs.Prelude.{sum}
use Rattle.inav.specs.Received.{StampedHalf}
use Rattle.capture_lines.specs.declared.item.LineItem.{LineItem}
use Rattle.capture_log.specs.Events.{Known, events_of, known_with, nothing_known}
use Rattle.capture_log.specs.Received.{IsHalfReceived}
use Rattle.capture_log.specs.Log.{Noted, log_from, noted}
use Rattle.capture_log.specs.declared.event.Event.{Event}
use Rattle.capture_log.proofs.Surface.{in_from_contains, contains_from_in, in_middle}
use Rattle.capture_log.proofs.Surface.{HalfLaws, Knows, knows_more}
use Rattle.job_laws.specs.Counted.{ArePairsReceived, Pair, own_weight, pair_events, pairs_weight, weight_in, weight_of}
use Rattle.job_laws.proofs.Sums.{length_sum, same_sums, sum_mapped}
use Rattle.job_laws.proofs.PairLists.{no_pairs}
use Rattle.job_laws.proofs.Steps.{step}

-- ---- the log of an item and of those after it

noted_weight : (kind : Event → ℕ) (number : ℕ) (events : List Event)
    → weight_in kind (noted number events) ≡ weight_of kind events
noted_weight kind number events = ap sum (again events)
  where
    again : (es : List Event) → map (λ (n : Noted). kind n.event) (noted number es) ≡ map kind es
    again [] = refl
    again (e ∷ es) = ap (λ l. kind e ∷ l) (again es)

first_weight : (kind : Event → ℕ) (w : ℕ) (known : Known) (number : ℕ) (item : LineItem) (items : List LineItem)
    → weight_in kind (log_from w known number (item ∷ items))
    ≡ weight_of kind (events_of w known item) + weight_in kind (log_from w (known_with w known item) (number + 1) items)
first_weight kind w known number item items =
    let first = noted number (events_of w known item) in
    let rest = log_from w (known_with w known item) (number + 1) items in
    sum_mapped (λ (n : Noted). kind n.event) first rest
    ∙ ap (λ n. n + weight_in kind rest) (noted_weight kind number (events_of w known item))

-- ---- all items

-- the pairs of all items, and what the items after the first ones yield with them
pub record IsCounted (w : ℕ) (before items : List LineItem) (known : Known) (pairs : List Pair) : Type 0 where
  pub all : List Pair
  pub are : ArePairsReceived w (before ++ items) all
  pub weighs : (kind : Event → ℕ) (number : ℕ) → weight_in kind (log_from w known number items) + pairs_weight kind pairs
      ≡ own_weight kind w before items + pairs_weight kind all

module _ (laws : HalfLaws) (w : ℕ) where
  counted : (items before : List LineItem) (known : Known) (pairs : List Pair) → Knows w before known
      → ArePairsReceived w before pairs
      → IsCounted w before items known pairs
  counted [] before known pairs knows are = record {
    all = pairs;
    are = subst (λ l. ArePairsReceived w l pairs) (sym (append-nil before)) are;
    weighs = λ kind number. refl;
  }
  counted (item ∷ items) before known pairs knows are =
      let s = step laws w before known knows pairs are item in
      let rest = counted items (before ++ item ∷ []) (known_with w known item) (s.more ++ pairs)
      (knows_more laws w before known knows item) s.are in
      record {
        all = rest.all;
        are = subst (λ l. ArePairsReceived w l rest.all) (append_assoc before (item ∷ []) items) rest.are;
        weighs = λ kind number.
            let a = first_weight kind w known number item items in
            let b = s.weighs kind in
            let c = sum_mapped (λ (p : Pair). weight_of kind (pair_events p)) s.more pairs in
            let d = rest.weighs kind (number + 1) in
            omega arith;
      }

  nothing_heard : (half : StampedHalf) → IsHalfReceived w [] half → ⊥
  nothing_heard half h = in_middle h.accepted.before h.accepted.after [] _ h.accepted.place

  pub knows_nothing : Knows w [] nothing_known
  knows_nothing = record {
    greatest = refl;
    halves_to = λ half h. absurd (in_from_contains [] half h);
    halves_from = λ half h. absurd (nothing_heard half h);
  }

  pub some_pairs : (items : List LineItem) → IsCounted w [] items nothing_known []
  some_pairs items = counted items [] nothing_known [] knows_nothing (no_pairs w nothing_heard)

-- ---- the pairs in whatever order

module _ (w : ℕ) (items : List LineItem) (some other : List Pair) (are : ArePairsReceived w items some)
    (others : ArePairsReceived w items other) where
  pub one_sum : (f : Pair → ℕ) → sum (map f some) ≡ sum (map f other)
  one_sum f = same_sums f some other are.once others.once
      (λ p h. in_from_contains other p ((others.each p).1 ((are.each p).0 (contains_from_in some p h))))
      (λ p h. in_from_contains some p ((are.each p).1 ((others.each p).0 (contains_from_in other p h))))

  pub one_length : length some ≡ length other
  one_length = length_sum some ∙ one_sum (λ p. 1) ∙ sym (length_sum other)

pub all_counted : (laws : HalfLaws) (kind : Event → ℕ) (w first : ℕ) (items : List LineItem) (pairs : List Pair)
    → ArePairsReceived w items pairs
    → weight_in kind (log_from w nothing_known first items) ≡ own_weight kind w [] items + pairs_weight kind pairs
all_counted laws kind w first items pairs are =
    let c = some_pairs laws w items in
    let a = c.weighs kind first in
    let b = one_sum w items c.all pairs c.are are (λ p. weight_of kind (pair_events p)) in
    omega arith
