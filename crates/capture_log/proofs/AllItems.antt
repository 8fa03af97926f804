-- The parts in the log of all items are those received in them.
use Rattle.std.proofs.Common.{◌≡◌, ℕ, ◌+◌, ◌⊎◌, ◌↔◌, inl, inr, List, [], ◌∷◌, ◌++◌, Contains, refl}
use Rattle.std.proofs.Common.{sym, ap, subst, ⊎_elim, append_assoc, append-nil}
use Rattle.std.proofs.lemmas.List.Concat.{flat_map-append}
use Rattle.nav_eph.specs.declared.part.Part.{Part}
use Rattle.capture_lines.specs.Late.{IsAccepted}
use Rattle.capture_lines.specs.declared.item.LineItem.{LineItem}
use Rattle.capture_log.specs.declared.event.Event.{Event}
use Rattle.capture_log.specs.declared.event.Event.TheVariants.{Received, Malformed, Late, Refused}
use Rattle.capture_log.specs.declared.event.Event.TheVariants.{Unused}
use Rattle.capture_log.specs.Events.{Known, nothing_known, known_with, events_of}
use Rattle.capture_log.specs.Log.{noted, log_from, parts_of_event, parts_in}
use Rattle.capture_log.specs.Received.{IsOfSubframe, IsOfFrame, IsOfWord, IsPartReceived}
use Rattle.capture_log.proofs.Lists.{In, in_from_contains, contains_from_in, in_left, in_right}
use Rattle.capture_log.proofs.Lists.{in_append, in_middle}
use Rattle.capture_log.proofs.Accepting.{prefix_accepted, part_keeps}
use Rattle.capture_log.proofs.Knowing.{HalfLaws, Knows, knows_more}
use Rattle.capture_log.proofs.Bringing.{yielded_heard, heard_cases}

-- ---- the parts of logged events

event_to : (event : Event) (part : Part) → In (parts_of_event event) part → event ≡ Received part
event_to (Received p) part (inl e) = ap Received e
event_to (Received p) part (inr h) = absurd h
event_to Malformed part h = absurd h
event_to Late part h = absurd h
event_to (Refused reason) part h = absurd h
event_to Unused part h = absurd h

event_from : (event : Event) (part : Part) → event ≡ Received part → In (parts_of_event event) part
event_from event part e = subst (λ v. In (parts_of_event v) part) (sym e) (inl refl)

pub noted_to : (number : ℕ) (events : List Event) (part : Part)
    → In (parts_in (noted number events)) part → In events (Received part)
noted_to number [] part h = absurd h
noted_to number (event ∷ events) part h = elim (in_append (parts_of_event event) (parts_in (noted number events)) part h) [
  | inl a ↦ inl (event_to event part a)
  | inr b ↦ inr (noted_to number events part b)
]

pub noted_from : (number : ℕ) (events : List Event) (part : Part) → In events (Received part)
    → In (parts_in (noted number events)) part
noted_from number [] part h = absurd h
noted_from number (event ∷ events) part (inl e) =
    in_left (parts_of_event event) (parts_in (noted number events)) part (event_from event part e)
noted_from number (event ∷ events) part (inr h) =
    in_right (parts_of_event event) (parts_in (noted number events)) part (noted_from number events part h)

-- the parts of an item, and then those of the others
pub parts_first : (w : ℕ) (known : Known) (number : ℕ) (item : LineItem) (items : List LineItem)
    → parts_in (log_from w known number (item ∷ items))
    ≡ parts_in (noted number (events_of w known item)) ++ parts_in (log_from w (known_with w known item) (number + 1) items)
parts_first w known number item items =
    flat_map-append (λ n. parts_of_event n.event) (noted number (events_of w known item)) (log_from w (known_with w known item) (number + 1) items)

-- a part in the log is the first item's, or of the others
pub first_or_later : (w : ℕ) (known : Known) (number : ℕ) (item : LineItem) (items : List LineItem) (part : Part)
    → In (parts_in (log_from w known number (item ∷ items))) part
    → In (events_of w known item) (Received part) ⊎ In (parts_in (log_from w (known_with w known item) (number + 1) items)) part
first_or_later w known number item items part h =
    let first = parts_in (noted number (events_of w known item)) in
    let rest = parts_in (log_from w (known_with w known item) (number + 1) items) in
    elim (in_append first rest part (subst (λ ps. In ps part) (parts_first w known number item items) h)) [
      | inl a ↦ inl (noted_to number (events_of w known item) part a)
      | inr b ↦ inr b
    ]

-- ---- the log of all items

nothing_accepted : (w : ℕ) (item : LineItem) → IsAccepted w [] item → ⊥
nothing_accepted w item h = in_middle h.before h.after [] item h.place

nothing_heard : (w : ℕ) (part : Part) → IsPartReceived w [] part → ⊥
nothing_heard w part h =
    ⊎_elim
    (λ (one : IsOfSubframe w [] part). nothing_accepted w _ one.accepted)
    (λ (rest : IsOfFrame w [] part ⊎ IsOfWord w [] part).
    ⊎_elim
    (λ (one : IsOfFrame w [] part). nothing_accepted w _ one.accepted)
    (λ (one : IsOfWord w [] part). nothing_accepted w _ one.heard.even_among.accepted)
    rest)
    h

knows_nothing : (w : ℕ) → Knows w [] nothing_known
knows_nothing w = record {
  greatest = refl;
  halves_to = λ half h. absurd (in_from_contains [] half h);
  halves_from = λ half h. absurd (nothing_accepted w _ h.accepted);
}

module _ (laws : HalfLaws) (w : ℕ) (part : Part) where
  log_heard : (before items : List LineItem) (known : Known) (number : ℕ) → Knows w before known
      → In (parts_in (log_from w known number items)) part → IsPartReceived w (before ++ items) part
  log_heard before [] known number knows h = absurd h
  log_heard before (item ∷ items) known number knows h =
      let one = before ++ item ∷ [] in
      let at : IsPartReceived w (one ++ items) part =
      ⊎_elim
      (λ (first : In (events_of w known item) (Received part)).
      part_keeps w one (one ++ items) (prefix_accepted w one items) part (yielded_heard laws w before known knows part item first))
      (λ (rest : In (parts_in (log_from w (known_with w known item) (number + 1) items)) part).
      log_heard one items (known_with w known item) (number + 1) (knows_more laws w before known knows item) rest)
      (first_or_later w known number item items part h) in
      subst (λ l. IsPartReceived w l part) (append_assoc before (item ∷ []) items) at

  heard_log : (before items : List LineItem) (known : Known) (number : ℕ) → Knows w before known
      → IsPartReceived w (before ++ items) part
      → IsPartReceived w before part ⊎ In (parts_in (log_from w known number items)) part
  heard_log before [] known number knows h = inl (subst (λ l. IsPartReceived w l part) (append-nil before) h)
  heard_log before (item ∷ items) known number knows h =
      let one = before ++ item ∷ [] in
      let log = log_from w known number (item ∷ items) in
      let first = parts_in (noted number (events_of w known item)) in
      let rest = parts_in (log_from w (known_with w known item) (number + 1) items) in
      let to_log : In (first ++ rest) part → In (parts_in log) part = subst (λ ps. In ps part) (sym (parts_first w known number item items)) in
      ⊎_elim
      (λ (heard : IsPartReceived w one part).
      ⊎_elim
      (λ (was : IsPartReceived w before part). inl was)
      (λ (yielded : In (events_of w known item) (Received part)).
      inr (to_log (in_left first rest part (noted_from number (events_of w known item) part yielded))))
      (heard_cases laws w before known knows part item heard))
      (λ (later : In rest part). inr (to_log (in_right first rest part later)))
      (heard_log one items (known_with w known item) (number + 1) (knows_more laws w before known knows item)
      (subst (λ l. IsPartReceived w l part) (sym (append_assoc before (item ∷ []) items)) h))

  pub parts_received : (number : ℕ) (items : List LineItem)
      → Contains (parts_in (log_from w nothing_known number items)) part ↔ IsPartReceived w items part
  parts_received number items =
      let parts = parts_in (log_from w nothing_known number items) in (
        λ h. log_heard [] items nothing_known number (knows_nothing w) (in_from_contains parts part h),
        λ h. contains_from_in parts part
            (⊎_elim
            (λ (none : IsPartReceived w [] part). absurd (nothing_heard w part none))
            (λ (there : In parts part). there)
            (heard_log [] items nothing_known number (knows_nothing w) h)),
      )
