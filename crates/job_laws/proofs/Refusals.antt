-- Refused lines: what a line yields is what it yields by itself and what the words that it completes yield.
use Rattle.std.proofs.Common.{◌≡◌, ℕ, ◌+◌, ◌<◌, ◌≤◌, ◌↔◌, ◌⊎◌, inl, inr, Bool, true, false, nat_eq, if◌then◌else◌, List, [], ◌∷◌, ◌++◌, map, Contains}
use Rattle.std.proofs.Common.{zero, suc, refl, sym, ap, subst, ◌∙◌, append_assoc, append-nil, arith, eqb-true, eq-eqb}
use Rattle.std.specs.Prelude.{sum}
use Rattle.std.proofs.lemmas.Bool.{cases_lt}
use Rattle.capture_lines.specs.declared.item.LineItem.{LineItem}
use Rattle.capture_log.specs.Events.{Known, events_of, known_with, nothing_known}
use Rattle.capture_log.specs.Log.{Noted, known_from, log_from, noted}
use Rattle.capture_log.specs.declared.event.Event.{Event}
use Rattle.capture_log.specs.declared.event.Event.TheVariants.{Received, Malformed, Late, Refused, Unused}
use Rattle.capture_log.specs.declared.event.EventFault.{EventFault}
use Rattle.capture_log.specs.declared.event.EventFault.TheVariants as refusals
use Rattle.capture_log.proofs.Surface.{HalfLaws, In, Knows, contains_from_in, in_append, in_from_contains, in_left, in_right, knows_more}
use Rattle.job_laws.specs.Counted.{ArePairsReceived, IsOnce, Pair, own_events, pair_events, pairs_weight, weight_of}
use Rattle.job_laws.specs.Places.{InLineOrder, IsCompletedBy, IsRefusedLine}
use Rattle.job_laws.proofs.Counts.{knows_nothing, some_pairs}
use Rattle.job_laws.proofs.Steps.{IsStep, step}
use Rattle.job_laws.proofs.Sums.{sum_first}
use Rattle.job_laws.proofs.Yielded.{log_from_yielded, log_to, note}

-- ---- the log is in the order of the lines

order_weak : (m n : ℕ) (log : List Noted) → m ≤ n → InLineOrder n log → InLineOrder m log
order_weak m n [] l h = tt
order_weak m n (x ∷ xs) l h = let low = h.0 in (omega (arith, low, l), h.1)

order_noted : (n : ℕ) (events : List Event) (rest : List Noted) → InLineOrder (n + 1) rest → InLineOrder n (noted n events ++ rest)
order_noted n [] rest h = order_weak n (n + 1) rest (omega arith) h
order_noted n (e ∷ es) rest h = (omega arith, order_noted n es rest h)

pub in_order : (w : ℕ) (items : List LineItem) (known : Known) (first : ℕ) → InLineOrder first (log_from w known first items)
in_order w [] known first = tt
in_order w (item ∷ items) known first =
    order_noted first (events_of w known item) (log_from w (known_with w known item) (first + 1) items) (in_order w items (known_with w known item) (first + 1))

-- ---- a number for each reason

abbrev number_of : EventFault → ℕ
number_of refusals.Frame = 0
number_of refusals.Preamble = 1
number_of refusals.Tow = 2
number_of refusals.Time = 3
number_of refusals.Satellite = 4
number_of refusals.Sisa = 5
number_of refusals.Short = 6
number_of (refusals.Parity word) = suc (suc (suc (suc (suc (suc (suc word))))))

abbrev reason_of : ℕ → EventFault
reason_of zero = refusals.Frame
reason_of (suc zero) = refusals.Preamble
reason_of (suc (suc zero)) = refusals.Tow
reason_of (suc (suc (suc zero))) = refusals.Time
reason_of (suc (suc (suc (suc zero)))) = refusals.Satellite
reason_of (suc (suc (suc (suc (suc zero))))) = refusals.Sisa
reason_of (suc (suc (suc (suc (suc (suc zero)))))) = refusals.Short
reason_of (suc (suc (suc (suc (suc (suc (suc word))))))) = refusals.Parity word

reason_again : (reason : EventFault) → reason_of (number_of reason) ≡ reason
reason_again refusals.Frame = refl
reason_again refusals.Preamble = refl
reason_again refusals.Tow = refl
reason_again refusals.Time = refl
reason_again refusals.Satellite = refl
reason_again refusals.Sisa = refl
reason_again refusals.Short = refl
reason_again (refusals.Parity word) = refl

-- 1 for a refusal with this number
abbrev is_reason : ℕ → Event → ℕ
is_reason n (Received part) = 0
is_reason n Malformed = 0
is_reason n Late = 0
is_reason n (Refused reason) = if nat_eq (number_of reason) n then 1 else 0
is_reason n Unused = 0

counts_reason : (reason : EventFault) → 0 < is_reason (number_of reason) (Refused reason)
counts_reason reason = subst (λ (t : Bool). 0 < (if t then 1 else 0)) (sym (eq-eqb (number_of reason) (number_of reason) refl)) (omega arith)

told_reason : (reason : EventFault) (event : Event) → 0 < is_reason (number_of reason) event → event ≡ Refused reason
told_reason reason (Received part) h = absurd (omega (arith, h))
told_reason reason Malformed h = absurd (omega (arith, h))
told_reason reason Late h = absurd (omega (arith, h))
told_reason reason Unused h = absurd (omega (arith, h))
told_reason reason (Refused other) h = by (nat_eq (number_of other) (number_of reason)) refl h
  where
    by : (t : Bool) → nat_eq (number_of other) (number_of reason) ≡ t → 0 < (if t then 1 else 0) → Refused other ≡ Refused reason
    by true e l = ap Refused (sym (reason_again other) ∙ ap reason_of (eqb-true (number_of other) (number_of reason) e) ∙ reason_again reason)
    by false e l = absurd (omega (arith, l))

-- ---- a sum is not 0 where one of its numbers is not

some_of : {X : Type 0} (f : X → ℕ) (xs : List X) → 0 < sum (map f xs) → (x : X) × In xs x × (0 < f x)
some_of f [] h = absurd (omega (arith, h))
some_of f (x ∷ xs) h = elim (cases_lt 0 (f x)) [
  | inl l ↦ (x, inl refl, l)
  | inr z ↦
      let first = sum_first (f x) (map f xs) in
      let rest = some_of f xs (omega (arith, h, first, z)) in
      (rest.0, inr rest.1, rest.2)
]

of_some : {X : Type 0} (f : X → ℕ) (xs : List X) (x : X) → In xs x → 0 < f x → 0 < sum (map f xs)
of_some f [] x i l = absurd i
of_some {X} f (y ∷ ys) x (inl e) l =
    let first = sum_first (f y) (map f ys) in
    let own : 0 < f y = subst (λ (z : X). 0 < f z) (sym e) l in
    omega (arith, first, own)
of_some f (y ∷ ys) x (inr i) l =
    let first = sum_first (f y) (map f ys) in
    let rest = of_some f ys x i l in
    omega (arith, first, rest)

-- the refusal is one of the events exactly where its total is not 0
weight_from : (reason : EventFault) (events : List Event) → In events (Refused reason) → 0 < weight_of (is_reason (number_of reason)) events
weight_from reason events i = of_some (is_reason (number_of reason)) events (Refused reason) i (counts_reason reason)

weight_to : (reason : EventFault) (events : List Event) → 0 < weight_of (is_reason (number_of reason)) events → In events (Refused reason)
weight_to reason events h =
    let f = some_of (is_reason (number_of reason)) events h in
    subst (λ (e : Event). In events e) (told_reason reason f.0 f.2) f.1

-- ---- an item that is refused

-- what is known after the items
knows_from : (laws : HalfLaws) (w : ℕ) (more before : List LineItem) (known : Known) → Knows w before known → Knows w (before ++ more) (known_from w known more)
knows_from laws w [] before known knows = subst (λ (l : List LineItem). Knows w l known) (sym (append-nil before)) knows
knows_from laws w (item ∷ more) before known knows =
    subst (λ (l : List LineItem). Knows w l (known_from w (known_with w known item) more)) (append_assoc before (item ∷ []) more)
    (knows_from laws w more (before ++ item ∷ []) (known_with w known item) (knows_more laws w before known knows item))

once_apart : {X : Type 0} (xs ys : List X) (x : X) → IsOnce (xs ++ ys) → In xs x → In ys x → ⊥
once_apart [] ys x once i j = i
once_apart {X} (y ∷ xs) ys x once (inl e) j =
    once.0 (subst (λ (z : X). Contains (xs ++ ys) z) (sym e) (contains_from_in (xs ++ ys) x (in_right xs ys x j)))
once_apart (y ∷ xs) ys x once (inr i) j = once_apart xs ys x once.1 i j

-- the reasons of an item, after those before it
abbrev IsRefusedFor : ℕ → List LineItem → LineItem → EventFault → Type 0
IsRefusedFor w before item reason =
    Contains (own_events w before item) (Refused reason)
    ⊎ ((word : Pair) × IsCompletedBy w before item word × Contains (pair_events word) (Refused reason))

module _ (laws : HalfLaws) (w : ℕ) (before : List LineItem) (item : LineItem) (reason : EventFault) where
  abbrev known : Known
  known = known_from w nothing_known before

  knows : Knows w before known
  knows = knows_from laws w before [] nothing_known (knows_nothing laws w)

  -- the pairs received before it
  abbrev pairs : List Pair
  pairs = (some_pairs laws w before).all

  are : ArePairsReceived w before pairs
  are = (some_pairs laws w before).are

  one : IsStep w before known item pairs
  one = step laws w before known knows pairs are item

  abbrev kind : Event → ℕ
  kind = is_reason (number_of reason)

  completed : (word : Pair) → In one.more word → IsCompletedBy w before item word
  completed word i = record {
    with_it = (one.are.each word).0 (contains_from_in (one.more ++ pairs) word (in_left one.more pairs word i));
    not_before = λ h. once_apart one.more pairs word one.are.once i (in_from_contains pairs word ((are.each word).1 h));
  }

  in_more : (word : Pair) → IsCompletedBy w before item word → In one.more word
  in_more word h = elim (in_append one.more pairs word (in_from_contains (one.more ++ pairs) word ((one.are.each word).1 h.with_it))) [
    | inl i ↦ i
    | inr i ↦ absurd (h.not_before ((are.each word).0 (contains_from_in pairs word i)))
  ]

  item_to : In (events_of w known item) (Refused reason) → IsRefusedFor w before item reason
  item_to i =
      let all = weight_from reason (events_of w known item) i in
      let weighs = one.weighs kind in
      elim (cases_lt 0 (weight_of kind (own_events w before item))) [
        | inl l ↦ inl (contains_from_in (own_events w before item) (Refused reason) (weight_to reason (own_events w before item) l))
        | inr z ↦
            let some : 0 < pairs_weight kind one.more = omega (arith, all, weighs, z) in
            let word = some_of (λ (p : Pair). weight_of kind (pair_events p)) one.more some in
            inr (word.0, completed word.0 word.1, contains_from_in (pair_events word.0) (Refused reason) (weight_to reason (pair_events word.0) word.2))
      ]

  item_from : IsRefusedFor w before item reason → In (events_of w known item) (Refused reason)
  item_from (inl own) =
      let own_weight = weight_from reason (own_events w before item) (in_from_contains (own_events w before item) (Refused reason) own) in
      let weighs = one.weighs kind in
      weight_to reason (events_of w known item) (omega (arith, own_weight, weighs))
  item_from (inr word) =
      let some = of_some (λ (p : Pair). weight_of kind (pair_events p)) one.more word.0 (in_more word.0 word.1)
      (weight_from reason (pair_events word.0) (in_from_contains (pair_events word.0) (Refused reason) word.2)) in
      let weighs = one.weighs kind in
      weight_to reason (events_of w known item) (omega (arith, some, weighs))

-- ---- the lines of the log

pub refused_lines : (laws : HalfLaws) (w first : ℕ) (items : List LineItem) (number : ℕ) (reason : EventFault)
    → Contains (log_from w nothing_known first items) (note number (Refused reason)) ↔ IsRefusedLine w first items number reason
refused_lines laws w first items number reason =
    let log = log_from w nothing_known first items in (
      λ h.
          let y = log_to w items nothing_known first number (Refused reason) (in_from_contains log (note number (Refused reason)) h) in
          record { item = y.item; at = y.at; refused = item_to laws w y.at.before y.item reason y.yields },
      λ h. contains_from_in log (note number (Refused reason)) (log_from_yielded w nothing_known first items number (Refused reason)
          (record { item = h.item; at = h.at; yields = item_from laws w h.at.before h.item reason h.refused })),
    )
