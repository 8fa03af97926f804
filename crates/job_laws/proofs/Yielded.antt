-- An event is in the log exactly where one of the items yields it.
use Rattle.std.proofs.Common.{◌≡◌, ℕ, ◌+◌, List, [], ◌∷◌, ◌++◌, length, max, inl, inr}
use Rattle.std.proofs.Common.{refl, sym, ap, subst, ◌∙◌, arith}
use Rattle.capture_lines.specs.Late.{greatest_stamp}
use Rattle.capture_lines.specs.declared.item.LineItem.{LineItem}
use Rattle.capture_log.specs.Events.{Known, events_of, known_with}
use Rattle.capture_log.specs.Log.{Noted, noted, known_from, log_from}
use Rattle.capture_log.specs.declared.event.Event.{Event}
use Rattle.capture_log.proofs.Surface.{In, in_left, in_right, in_append, in_map, map_in}
use Rattle.job_laws.specs.Places.{IsAt}

abbrev pub note : ℕ → Event → Noted
note number event = record { line = number; event = event }

-- the item with that number yields the event, when what came before it is known
pub record IsYielded (w : ℕ) (known : Known) (first : ℕ) (items : List LineItem) (number : ℕ) (event : Event) : Type 0 where
  pub item : LineItem
  pub at : IsAt first items number item
  pub yields : In (events_of w (known_from w known at.before) item) event

-- with one more item before the others
one_before : (w : ℕ) (known : Known) (first : ℕ) (i : LineItem) (items : List LineItem) (number : ℕ) (event : Event)
    → IsYielded w (known_with w known i) (first + 1) items number event
    → IsYielded w known first (i ∷ items) number event
one_before w known first i items number event h = record {
  item = h.item;
  at = record {
    before = i ∷ h.at.before;
    after = h.at.after;
    place = ap (λ l. i ∷ l) h.at.place;
    number_is = h.at.number_is ∙ omega arith;
  };
  yields = h.yields;
}

pub log_to : (w : ℕ) (items : List LineItem) (known : Known) (first number : ℕ) (event : Event)
    → In (log_from w known first items) (note number event) → IsYielded w known first items number event
log_to w [] known first number event h = absurd h
log_to w (i ∷ items) known first number event h =
    let rest = log_from w (known_with w known i) (first + 1) items in
    elim (in_append (noted first (events_of w known i)) rest (note number event) h) [
      | inl a ↦
          let e = in_map (note first) (events_of w known i) (note number event) a in
          record {
            item = i;
            at = record {
              before = [];
              after = items;
              place = refl;
              number_is = sym (ap (λ (n : Noted). n.line) e.2) ∙ omega arith;
            };
            yields = subst (In (events_of w known i)) (ap (λ (n : Noted). n.event) e.2) e.1;
          }
      | inr b ↦ one_before w known first i items number event (log_to w items (known_with w known i) (first + 1) number event b)
    ]

pub log_by : (w : ℕ) (before : List LineItem) (item : LineItem) (after : List LineItem) (known : Known) (first : ℕ)
    (event : Event)
    → In (events_of w (known_from w known before) item) event
    → In (log_from w known first (before ++ item ∷ after)) (note (first + length before) event)
log_by w [] item after known first event h =
    let rest = log_from w (known_with w known item) (first + 1) after in
    let e : first ≡ first + 0 = omega arith in
    subst (λ n. In (noted first (events_of w known item) ++ rest) (note n event)) e
    (in_left (noted first (events_of w known item)) rest (note first event)
    (map_in (note first) (events_of w known item) event h))
log_by w (i ∷ before) item after known first event h =
    let rest = log_from w (known_with w known i) (first + 1) (before ++ item ∷ after) in
    let e : first + 1 + length before ≡ first + length (i ∷ before) = omega arith in
    in_right (noted first (events_of w known i)) rest (note (first + length (i ∷ before)) event)
    (subst (λ n. In rest (note n event)) e (log_by w before item after (known_with w known i) (first + 1) event h))

pub log_from_yielded : (w : ℕ) (known : Known) (first : ℕ) (items : List LineItem) (number : ℕ) (event : Event)
    → IsYielded w known first items number event → In (log_from w known first items) (note number event)
log_from_yielded w known first items number event h =
    let there = log_by w h.at.before h.item h.at.after known first event h.yields in
    let here = subst (λ n. In (log_from w known first (h.at.before ++ h.item ∷ h.at.after)) (note n event))
    (sym h.at.number_is) there in
    subst (λ l. In (log_from w known first l) (note number event)) (sym h.at.place) here

-- what is known after the items has their greatest stamp
pub greatest_from : (w : ℕ) (items : List LineItem) (known : Known)
    → (known_from w known items).greatest ≡ max known.greatest (greatest_stamp items)
unfolding known_with
greatest_from w [] known = omega arith
greatest_from w (i ∷ items) known = let rest = greatest_from w items (known_with w known i) in rest ∙ omega arith
