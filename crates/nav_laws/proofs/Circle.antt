-- The round trip: the periods of parts received in the slots, slot by slot, and the items of the whole ones.
use Rattle.std.proofs.Common.{◌≡◌, ℕ, ◌+◌, ◌<◌, ◌≤◌, ◌⊎◌, inl, inr, Bool, true, false, cond, not, ◌&&◌, nat_le, nat_lt, if◌then◌else◌, List, [], ◌∷◌, ◌++◌, Some, Contains, filter, refl, sym, ap, subst, ◌∙◌, arith, append_assoc, leb-true, le-leb, ltb-true, lt-ltb}
use Rattle.std.proofs.lemmas.Bool.{and_parts, and_from, both_ways, cases_lt}
use Rattle.nav_eph.specs.Values.{IsPartValue}
use Rattle.nav_eph.specs.Satellite.{Satellite}
use Rattle.nav_eph.specs.declared.part.Part.{Part}
use Rattle.nav_eph.specs.declared.part.Body.{Body}
use Rattle.nav_eph.specs.declared.part.Body.TheVariants.{GpsA as OfOrbitA, GpsB as OfOrbitB, GalW1 as OfWord1, GalW2 as OfWord2, GalW3 as OfWord3, GalW4 as OfWord4, GalHealth as OfHealth}
use Rattle.nav_eph.specs.declared.tag.SentTag.TheVariants.{Sent}
use Rattle.nav_eph.specs.declared.items.NavItem.{NavItem}
use Rattle.nav_eph.specs.declared.items.NavItem.TheVariants.{Gps as GpsItem, Gal as GalItem, Ion as IonItem}
use Rattle.periods.specs.declared.key.PeriodKey.{PeriodKey}
use Rattle.periods.specs.declared.key.PeriodId.{PeriodId}
use Rattle.periods.specs.declared.closed.Finding.TheVariants.{Complete}
use Rattle.periods.specs.declared.closed.Closed.{Closed}
use Rattle.periods.specs.Periods.{IsBefore, IsReceivedAt, IsPeriod}
use Rattle.periods.specs.PeriodLists.{ArePeriods, IsAscending, item_in, items_in}
use Rattle.periods.specs.PeriodsOf.{end_place, periods_of}
use Rattle.periods.specs.DigestsOf.{verdict_of}
use Rattle.periods.specs.Verdicts.{IsClosed, IsComplete, IsFound, IsOfEphemeris, Repeats, closed_place}
use Rattle.periods.proofs.Surface.{All-in, In, In-from_contains, Splits, all_of, before_trans, compares_known, contains_from_In, covered, found_left, found_right, items_append, judged_by, known_parts, left_low, left_period, period_cases, periods_of-only, right_high, right_period, some_is}
use Rattle.sent_captures.specs.Slots.{galileo_second, galileo_week_number, slot_stamp}
use Rattle.sent_captures.specs.Sendable.{is_ephemeris}
use Rattle.sent_captures.specs.SentItems.{as_sent, ionosphere_with, items_back, repeats_latest}
use Rattle.nav_laws.specs.SentAgain.{AreSentAgain, AreTurned, IsInSlot, IsIonosphere, IsSentAgain, IsWord, SameByType}
use Rattle.nav_laws.specs.SlotParts.{part, parts_at, slots_parts}
use Rattle.nav_laws.proofs.AppendLemmas.{In-append_left, In-append_right, In-append_cases}
use Rattle.nav_laws.proofs.Slots.{IsSent, stamps}
use Rattle.nav_laws.proofs.History.{History, IsSentIn, NoneFrom, known, latest, said}
use Rattle.nav_laws.proofs.SlotPeriods.{AreOfSlot, AreSwapped, IsIonPeriod, IsSlot, bodies_of, body_at, is_slot, part_with, sat_of}

-- a list, strictly ascending, of exactly the periods from a stamp on, each with its verdict
pub record AreFrom (r : ℕ) (parts : Part → Type 0) (b : ℕ) (cs : List Closed) : Type 0 where
  pub ascending : IsAscending cs
  pub each : (c : Closed) → In cs c → IsClosed r 7200 parts c
  pub high : (c : Closed) → In cs c → b ≤ c.end
  pub every : (q : PeriodId) → IsPeriod 7200 parts q → b ≤ q.end → (c : Closed) × In cs c × (closed_place c ≡ q)

-- each may be sent
abbrev pub AreSent : ℕ → List NavItem → Type 0
AreSent r [] = Unit {0}
AreSent r (x ∷ xs) = IsSent r x × AreSent r xs

-- the parts of slots lie from the first slot on
pub parts_high : (r slot b : ℕ) (xs : List NavItem) (p : Part) → AreSent r xs → b ≤ slot_stamp slot → In (slots_parts slot xs) p → b ≤ p.stamp
parts_high r slot b [] p h l i = absurd i
parts_high r slot b (x ∷ xs) p h l i = elim (In-append_cases (parts_at (slot_stamp slot) x) (slots_parts (slot + 1) xs) p i) [
  | inl a ↦ let low = (stamps (slot_stamp slot) x p a).0 in omega (arith, low, l)
  | inr a ↦ parts_high r (slot + 1) b xs p h.1 (omega (arith, l)) a
]

-- lists of periods concatenated
pub ascending_with : (m : ℕ) (some more : List Closed) → IsAscending some → IsAscending more → ((c : Closed) → In some c → c.end < m) → ((c : Closed) → In more c → m ≤ c.end)
    → IsAscending (some ++ more)
ascending_with m [] more a b low high = b
ascending_with m (c ∷ cs) more a b low high =
    let first : c.end < m = low c (inl refl) in (
      all_of (λ d. IsBefore (closed_place c) (closed_place d)) (cs ++ more) (λ d i. elim (In-append_cases cs more d i) [
        | inl j ↦ All-in (λ d. IsBefore (closed_place c) (closed_place d)) cs d a.0 j
        | inr j ↦ let g = high d j in inl (omega (arith, first, g))
      ]),
      ascending_with m cs more a.1 b (λ d i. low d (inr i)) high,
    )

-- ---- those that pass a test

filter_at : {X : Type 0} (t : X → Bool) (x : X) (xs : List X) (c : X) (b : Bool) → t x ≡ b → ((d : X) → In (filter t xs) d → In xs d × (t d ≡ true))
    → In (cond b (x ∷ filter t xs) (filter t xs)) c → In (x ∷ xs) c × (t c ≡ true)
filter_at {X} t x xs c true e ih (inl same) = (inl same, subst (λ (z : X). t z ≡ true) same e)
filter_at t x xs c true e ih (inr i) = let p = ih c i in (inr p.0, p.1)
filter_at t x xs c false e ih i = let p = ih c i in (inr p.0, p.1)

filter_in : {X : Type 0} (t : X → Bool) (xs : List X) (c : X) → In (filter t xs) c → In xs c × (t c ≡ true)
filter_in t [] c h = absurd h
filter_in t (x ∷ xs) c h = filter_at t x xs c (t x) refl (λ d i. filter_in t xs d i) h

filter_put : {X : Type 0} (t : X → Bool) (x : X) (xs : List X) (c : X) (b : Bool) → t x ≡ b → t c ≡ true → In (x ∷ xs) c → (In xs c → In (filter t xs) c)
    → In (cond b (x ∷ filter t xs) (filter t xs)) c
filter_put t x xs c true e tc (inl same) ih = inl same
filter_put t x xs c true e tc (inr i) ih = inr (ih i)
filter_put {X} t x xs c false e tc (inl same) ih = absurd (both_ways (t c) (subst (λ (z : X). t z ≡ false) same e) tc)
filter_put t x xs c false e tc (inr i) ih = ih i

in_filter : {X : Type 0} (t : X → Bool) (xs : List X) (c : X) → In xs c → t c ≡ true → In (filter t xs) c
in_filter t [] c h tc = absurd h
in_filter t (x ∷ xs) c h tc = filter_put t x xs c (t x) refl tc h (λ i. in_filter t xs c i tc)

filter_append : {X : Type 0} (t : X → Bool) (xs ys : List X) → filter t (xs ++ ys) ≡ filter t xs ++ filter t ys
filter_append t [] ys = refl
filter_append {X} t (x ∷ xs) ys = by (t x) (filter_append t xs ys)
  where
    by : (b : Bool) → filter t (xs ++ ys) ≡ filter t xs ++ filter t ys
        → cond b (x ∷ filter t (xs ++ ys)) (filter t (xs ++ ys)) ≡ cond b (x ∷ filter t xs) (filter t xs) ++ filter t ys
    by true e = ap (λ (l : List X). x ∷ l) e
    by false e = e

-- ---- the parts before a slot, in it, and from it on

abbrev parts_before : ℕ → List Part → List Part
parts_before slot parts = filter (λ p. nat_lt p.stamp (slot_stamp slot)) parts

abbrev parts_from : ℕ → List Part → List Part
parts_from slot parts = filter (λ p. nat_le (slot_stamp slot) p.stamp) parts

abbrev own_parts : ℕ → List Part → List Part
own_parts slot parts = filter (λ p. nat_le (slot_stamp slot) p.stamp && nat_lt p.stamp (slot_stamp (slot + 1))) parts

before_in : (slot : ℕ) (parts : List Part) (p : Part) → In (parts_before slot parts) p → In parts p × (p.stamp < slot_stamp slot)
before_in slot parts p i = let h = filter_in (λ (q : Part). nat_lt q.stamp (slot_stamp slot)) parts p i in (h.0, ltb-true p.stamp (slot_stamp slot) h.1)

in_before : (slot : ℕ) (parts : List Part) (p : Part) → In parts p → p.stamp < slot_stamp slot → In (parts_before slot parts) p
in_before slot parts p i l = in_filter (λ (q : Part). nat_lt q.stamp (slot_stamp slot)) parts p i (lt-ltb p.stamp (slot_stamp slot) l)

from_in : (slot : ℕ) (parts : List Part) (p : Part) → In (parts_from slot parts) p → In parts p × (slot_stamp slot ≤ p.stamp)
from_in slot parts p i = let h = filter_in (λ (q : Part). nat_le (slot_stamp slot) q.stamp) parts p i in (h.0, leb-true (slot_stamp slot) p.stamp h.1)

in_from : (slot : ℕ) (parts : List Part) (p : Part) → In parts p → slot_stamp slot ≤ p.stamp → In (parts_from slot parts) p
in_from slot parts p i l = in_filter (λ (q : Part). nat_le (slot_stamp slot) q.stamp) parts p i (le-leb (slot_stamp slot) p.stamp l)

own_in : (slot : ℕ) (parts : List Part) (p : Part) → In (own_parts slot parts) p → In parts p × (slot_stamp slot ≤ p.stamp) × (p.stamp < slot_stamp (slot + 1))
own_in slot parts p i =
    let h = filter_in (λ (q : Part). nat_le (slot_stamp slot) q.stamp && nat_lt q.stamp (slot_stamp (slot + 1))) parts p i in
    let t = and_parts (nat_le (slot_stamp slot) p.stamp) (nat_lt p.stamp (slot_stamp (slot + 1))) h.1 in
    (h.0, leb-true (slot_stamp slot) p.stamp t.0, ltb-true p.stamp (slot_stamp (slot + 1)) t.1)

in_own : (slot : ℕ) (parts : List Part) (p : Part) → In parts p → slot_stamp slot ≤ p.stamp → p.stamp < slot_stamp (slot + 1) → In (own_parts slot parts) p
in_own slot parts p i l m =
    in_filter (λ (q : Part). nat_le (slot_stamp slot) q.stamp && nat_lt q.stamp (slot_stamp (slot + 1))) parts p i
    (and_from (nat_le (slot_stamp slot) p.stamp) (nat_lt p.stamp (slot_stamp (slot + 1))) (le-leb (slot_stamp slot) p.stamp l) (lt-ltb p.stamp (slot_stamp (slot + 1)) m))

-- each part lies in the first two hours of a slot
abbrev AllInSlots : List Part → Type 0
AllInSlots parts = (p : Part) → In parts p → (slot : ℕ) × IsInSlot slot p.stamp

-- a part before a slot lies more than a window before it
far_before : (slot : ℕ) (parts : List Part) (p : Part) → AllInSlots parts → In parts p → p.stamp < slot_stamp slot → p.stamp + 7200 < slot_stamp slot
far_before slot parts p all i l = let h = all p i in omega (arith, h.1.begun, h.1.near, l)

outer_splits : (slot : ℕ) (parts : List Part) → AllInSlots parts
    → Splits 7200 (slot_stamp slot) (Contains (parts_before slot parts)) (Contains (parts_from slot parts)) (Contains parts)
outer_splits slot parts all =
    let some = parts_before slot parts in
    let more = parts_from slot parts in
    record {
      low = λ p i. let b = before_in slot parts p (In-from_contains some p i) in far_before slot parts p all b.0 b.1;
      high = λ p i. (from_in slot parts p (In-from_contains more p i)).1;
      left = λ p i. contains_from_In parts p (before_in slot parts p (In-from_contains some p i)).0;
      right = λ p i. contains_from_In parts p (from_in slot parts p (In-from_contains more p i)).0;
      cases = λ p i. elim (cases_lt p.stamp (slot_stamp slot)) [
        | inl l ↦ inl (contains_from_In some p (in_before slot parts p (In-from_contains parts p i) l))
        | inr g ↦ inr (contains_from_In more p (in_from slot parts p (In-from_contains parts p i) g))
      ];
      ends = λ key t h. covered 7200 (IsReceivedAt (Contains some) key) (known_parts 7200 some key) t h;
    }

inner_splits : (slot : ℕ) (parts : List Part) → AllInSlots parts
    → Splits 7200 (slot_stamp (slot + 1)) (Contains (own_parts slot parts)) (Contains (parts_from (slot + 1) parts)) (Contains (parts_from slot parts))
inner_splits slot parts all =
    let own = own_parts slot parts in
    let more = parts_from (slot + 1) parts in
    let whole = parts_from slot parts in
    record {
      low = λ p i. let b = own_in slot parts p (In-from_contains own p i) in far_before (slot + 1) parts p all b.0 b.2;
      high = λ p i. (from_in (slot + 1) parts p (In-from_contains more p i)).1;
      left = λ p i. let b = own_in slot parts p (In-from_contains own p i) in contains_from_In whole p (in_from slot parts p b.0 b.1);
      right = λ p i. let b = from_in (slot + 1) parts p (In-from_contains more p i) in let high = b.1 in contains_from_In whole p (in_from slot parts p b.0 (omega (arith, high)));
      cases = λ p i.
          let b = from_in slot parts p (In-from_contains whole p i) in
          elim (cases_lt p.stamp (slot_stamp (slot + 1))) [
            | inl l ↦ inl (contains_from_In own p (in_own slot parts p b.0 b.1 l))
            | inr g ↦ inr (contains_from_In more p (in_from (slot + 1) parts p b.0 g))
          ];
      ends = λ key t h. covered 7200 (IsReceivedAt (Contains own) key) (known_parts 7200 own key) t h;
    }

-- ---- what is received from a slot on

record AreRest (slot : ℕ) (parts : List Part) (xs : List NavItem) : Type 0 where
  each : (p : Part) → In (parts_from slot parts) p → (q : Part) × In (slots_parts slot xs) q × IsSentAgain p q
  every : (q : Part) → In (slots_parts slot xs) q → (p : Part) × In (parts_from slot parts) p × IsSentAgain p q

record IsOwn (slot : ℕ) (x : NavItem) (p : Part) : Type 0 where
  sent : Part
  here : In (parts_at (slot_stamp slot) x) sent
  again : IsSentAgain p sent

own_part : (r slot : ℕ) (parts : List Part) (x : NavItem) (xs : List NavItem) (p : Part) → AreSent r xs → AreRest slot parts (x ∷ xs) → In (own_parts slot parts) p → IsOwn slot x p
own_part r slot parts x xs p h rest i =
    let o = own_in slot parts p i in
    let f = rest.each p (in_from slot parts p o.0 o.1) in
    elim (In-append_cases (parts_at (slot_stamp slot) x) (slots_parts (slot + 1) xs) f.0 f.1) [
      | inl a ↦ record { sent = f.0; here = a; again = f.2 }
      | inr b ↦
          let high = parts_high r (slot + 1) (slot_stamp (slot + 1)) xs f.0 h (omega arith) b in
          absurd (omega (arith, high, f.2.sent_in.near, f.2.again_in.begun, o.2))
    ]

-- a part that was sent in the slot is received in its first two hours
own_stamp : (slot : ℕ) (x : NavItem) (p q : Part) → In (parts_at (slot_stamp slot) x) q → IsSentAgain p q → (slot_stamp slot ≤ p.stamp) × (p.stamp ≤ slot_stamp slot + 7200)
own_stamp slot x p q i again =
    let at = stamps (slot_stamp slot) x q i in
    let low = at.0 in
    let high = at.1 in (
      omega (arith, low, high, again.sent_in.begun, again.sent_in.near, again.again_in.begun),
      omega (arith, low, high, again.sent_in.begun, again.sent_in.near, again.again_in.near),
    )

own_again : (r slot : ℕ) (parts : List Part) (x : NavItem) (xs : List NavItem) → AreSent r xs → AreRest slot parts (x ∷ xs)
    → AreOfSlot (slot_stamp slot) (sat_of x) (bodies_of x) (own_parts slot parts)
own_again r slot parts x xs h rest = record {
  sat_is = λ p i. let o = own_part r slot parts x xs p h rest i in o.again.sat ∙ (body_at (slot_stamp slot) x o.sent o.here).0;
  body = λ p i.
      let o = own_part r slot parts x xs p h rest i in
      subst (λ (b : Body). In (bodies_of x) b) (sym o.again.body) (body_at (slot_stamp slot) x o.sent o.here).1;
  low = λ p i. (own_in slot parts p i).1;
  high = λ p i. let o = own_part r slot parts x xs p h rest i in (own_stamp slot x p o.sent o.here o.again).1;
  every = λ b i.
      let q = part_with (slot_stamp slot) x b i in
      let f = rest.every q.0 (In-append_left (parts_at (slot_stamp slot) x) (slots_parts (slot + 1) xs) q.0 q.1) in
      let at = own_stamp slot x f.0 q.0 q.1 f.2 in
      let high = at.1 in
      (f.0, in_own slot parts f.0 (from_in slot parts f.0 f.1).0 at.0 (omega (arith, high)), f.2.body ∙ q.2);
}

next_rest : (r slot : ℕ) (parts : List Part) (x : NavItem) (xs : List NavItem) → AreSent r xs → AreRest slot parts (x ∷ xs) → AreRest (slot + 1) parts xs
next_rest r slot parts x xs h rest = record {
  each = λ p i.
      let b = from_in (slot + 1) parts p i in
      let low = b.1 in
      let f = rest.each p (in_from slot parts p b.0 (omega (arith, low))) in
      elim (In-append_cases (parts_at (slot_stamp slot) x) (slots_parts (slot + 1) xs) f.0 f.1) [
        | inl a ↦ let at = own_stamp slot x p f.0 a f.2 in absurd (omega (arith, low, at.1))
        | inr c ↦ (f.0, c, f.2)
      ];
  every = λ q i.
      let f = rest.every q (In-append_right (parts_at (slot_stamp slot) x) (slots_parts (slot + 1) xs) q i) in
      let high = parts_high r (slot + 1) (slot_stamp (slot + 1)) xs q h (omega arith) i in
      (f.0, in_from (slot + 1) parts f.0 (from_in slot parts f.0 f.1).0 (omega (arith, high, f.2.sent_in.near, f.2.again_in.begun)), f.2);
}

-- ---- one slot among all parts

record Around (r slot : ℕ) (parts : List Part) (x : NavItem) : Type 0 where
  own : IsSlot r (slot_stamp slot) x (own_parts slot parts)
  outer : Splits 7200 (slot_stamp slot) (Contains (parts_before slot parts)) (Contains (parts_from slot parts)) (Contains parts)
  inner : Splits 7200 (slot_stamp (slot + 1)) (Contains (own_parts slot parts)) (Contains (parts_from (slot + 1) parts)) (Contains (parts_from slot parts))

-- the periods of the slot are periods, with the same findings
around_period : (r slot : ℕ) (parts : List Part) (x : NavItem) (q : PeriodId) → Around r slot parts x → IsPeriod 7200 (Contains (own_parts slot parts)) q
    → IsPeriod 7200 (Contains parts) q
around_period r slot parts x q b h =
    right_period 7200 (slot_stamp slot) (Contains (parts_before slot parts)) (Contains (parts_from slot parts)) (Contains parts) q b.outer
    (left_period 7200 (slot_stamp (slot + 1)) (Contains (own_parts slot parts)) (Contains (parts_from (slot + 1) parts)) (Contains (parts_from slot parts)) q b.inner h)

around_found : (r slot : ℕ) (parts : List Part) (x : NavItem) (q : PeriodId) (item : NavItem) → Around r slot parts x → IsPeriod 7200 (Contains (own_parts slot parts)) q
    → IsFound r 7200 (Contains (own_parts slot parts)) q (Complete item) → IsFound r 7200 (Contains parts) q (Complete item)
around_found r slot parts x q item b h f =
    let inner = left_period 7200 (slot_stamp (slot + 1)) (Contains (own_parts slot parts)) (Contains (parts_from (slot + 1) parts)) (Contains (parts_from slot parts)) q b.inner h in
    (found_right r 7200 (slot_stamp slot) (Contains (parts_before slot parts)) (Contains (parts_from slot parts)) (Contains parts) q b.outer inner).to (Complete item)
    ((found_left r 7200 (slot_stamp (slot + 1)) (Contains (own_parts slot parts)) (Contains (parts_from (slot + 1) parts)) (Contains (parts_from slot parts)) q b.inner h).to (Complete item) f)

-- a period from the slot on is one of the slot, or of a later one
around_cases : (r slot : ℕ) (parts : List Part) (x : NavItem) (q : PeriodId) → Around r slot parts x → IsPeriod 7200 (Contains parts) q → slot_stamp slot ≤ q.end
    → IsPeriod 7200 (Contains (own_parts slot parts)) q ⊎ (slot_stamp (slot + 1) ≤ q.end)
around_cases r slot parts x q b h from =
    elim (period_cases 7200 (slot_stamp slot) (Contains (parts_before slot parts)) (Contains (parts_from slot parts)) (Contains parts) q b.outer h) [
      | inl p ↦
          let low = left_low 7200 (slot_stamp slot) (Contains (parts_before slot parts)) (Contains (parts_from slot parts)) (Contains parts) q b.outer p in
          absurd (omega (arith, low, from))
      | inr p ↦ elim (period_cases 7200 (slot_stamp (slot + 1)) (Contains (own_parts slot parts)) (Contains (parts_from (slot + 1) parts)) (Contains (parts_from slot parts)) q b.inner p) [
        | inl o ↦ inl o
        | inr o ↦ inr (right_high 7200 (slot_stamp (slot + 1)) (Contains (own_parts slot parts)) (Contains (parts_from (slot + 1) parts)) (Contains (parts_from slot parts)) q b.inner o)
      ]
    ]

around_sent : (r slot : ℕ) (parts : List Part) (x : NavItem) → Around r slot parts x → IsSentIn r 7200 (Contains parts) (slot_stamp slot) (slot_stamp (slot + 1)) x
around_sent r slot parts x b = record {
  end = b.own.end;
  from = b.own.from;
  below = let to = b.own.to in omega (arith, to);
  complete = λ key of_x.
      let same : b.own.key ≡ key = some_is b.own.key key (sym b.own.of_item ∙ of_x) in
      subst (λ (k : PeriodKey). IsComplete r 7200 (Contains parts) k b.own.end (as_sent x)) same (record {
        period = around_period r slot parts x (end_place b.own.key b.own.end) b b.own.complete.period;
        found = around_found r slot parts x (end_place b.own.key b.own.end) (as_sent x) b b.own.complete.period b.own.complete.found;
      });
  only = λ key f item eph c from below. elim (around_cases r slot parts x (end_place key f) b c.period from) [
    | inl p ↦ elim (b.own.cases (end_place key f) p) [
      | inl is ↦ (b.own.of_item ∙ ap (λ (q : PeriodId). Some q.key) (sym is), ap (λ (q : PeriodId). q.end) is)
      | inr o ↦ elim o [
        | inl ion ↦ absurd ((b.own.first_each ion.0 ion.1).0.other (subst IsOfEphemeris (sym (ap (λ (q : PeriodId). q.key) ion.2)) eph))
        | inr ion ↦ absurd ((b.own.last_each ion.0 ion.1).0.other (subst IsOfEphemeris (sym (ap (λ (q : PeriodId). q.key) ion.2)) eph))
      ]
    ]
    | inr late ↦ absurd (omega (arith, late, below))
  ];
}

-- the period of the ephemeris, with its verdict
around_closed : (r slot : ℕ) (parts : List Part) (before : List NavItem) (x : NavItem) → ((p : Part) → Contains parts p → IsPartValue p) → (b : Around r slot parts x)
    → History r 7200 (Contains parts) (slot_stamp slot) before
    → IsClosed r 7200 (Contains parts) (record { end = b.own.end; key = b.own.key; verdict = verdict_of (latest before x) (Complete (as_sent x)) })
unfolding around_sent
around_closed r slot parts before x values b history =
    let sent = around_sent r slot parts x b in
    let complete = sent.complete b.own.key b.own.of_item in
    let quiet : NoneFrom r 7200 (Contains parts) b.own.key (slot_stamp slot) b.own.end = λ f item c from below.
    let o = sent.only b.own.key f item b.own.eph c from (let to = sent.below in omega (arith, to, below)) in omega (arith, o.1, below) in
    let before_is = known r 7200 (Contains parts) (slot_stamp slot) b.own.end x b.own.key before b.own.eph b.own.of_item history b.own.from quiet in
    record {
      period = complete.period;
      verdict = record {
        finding = Complete (as_sent x);
        found = complete.found;
        judged = judged_by (Repeats r 7200 (Contains parts) (end_place b.own.key b.own.end)) (latest before x) (Complete (as_sent x))
            (compares_known r 7200 (Contains parts) b.own.key b.own.end (latest before x) values b.own.eph before_is);
      };
    }

-- the period of an ionosphere
ion_closed : (r slot : ℕ) (parts : List Part) (x : NavItem) (c : Closed) → Around r slot parts x → IsIonPeriod r (own_parts slot parts) c → IsClosed r 7200 (Contains parts) c
ion_closed r slot parts x c b h = record {
  period = around_period r slot parts x (closed_place c) b h.period;
  verdict = record {
    finding = Complete h.item;
    found = around_found r slot parts x (closed_place c) h.item b h.period h.found;
    judged = inr (λ again. h.other again.ephemeris, h.verdict);
  };
}

ion_end : (r slot : ℕ) (parts : List Part) (x : NavItem) (c : Closed) → Around r slot parts x → IsIonPeriod r (own_parts slot parts) c
    → (slot_stamp slot ≤ c.end) × (c.end < slot_stamp (slot + 1))
ion_end r slot parts x c b h =
    let heard = h.period.heard in
    let k = In-from_contains (own_parts slot parts) heard.part heard.here in
    let low = b.own.low heard.part k in
    let high = b.own.high heard.part k in
    (omega (arith, low, heard.at_stamp), omega (arith, high, heard.at_stamp))

-- an ionosphere before a word of the slot
turned_in : (r slot : ℕ) (parts : List Part) (x : NavItem) → Around r slot parts x → AreSwapped (own_parts slot parts) → AreTurned parts
turned_in r slot parts x b swapped =
    let ion = own_in slot parts swapped.ionosphere swapped.ionosphere_here in
    let word = own_in slot parts swapped.word swapped.word_here in
    record {
      ionosphere = swapped.ionosphere;
      word = swapped.word;
      ionosphere_here = contains_from_In parts swapped.ionosphere ion.0;
      word_here = contains_from_In parts swapped.word word.0;
      is_ionosphere = swapped.is_ionosphere;
      is_word = swapped.is_word;
      slot = slot;
      ionosphere_in = record { begun = ion.1; near = b.own.high swapped.ionosphere swapped.ionosphere_here };
      word_in = record { begun = word.1; near = b.own.high swapped.word swapped.word_here };
      earlier = swapped.earlier;
    }

-- ---- slot after slot

ascending_around : (first : List Closed) (c : Closed) (behind : List Closed) → IsAscending first → IsAscending (c ∷ behind)
    → ((d : Closed) → In first d → IsBefore (closed_place d) (closed_place c)) → IsAscending (first ++ c ∷ behind)
ascending_around [] c behind a b before = b
ascending_around (d ∷ ds) c behind a b before = (
  all_of (λ e. IsBefore (closed_place d) (closed_place e)) (ds ++ c ∷ behind) (λ e i. elim (In-append_cases ds (c ∷ behind) e i) [
    | inl j ↦ All-in (λ e. IsBefore (closed_place d) (closed_place e)) ds e a.0 j
    | inr j ↦ elim j [
      | inl is ↦ subst (λ (z : Closed). IsBefore (closed_place d) (closed_place z)) is (before d (inl refl))
      | inr k ↦ before_trans (closed_place d) (closed_place c) (closed_place e) (before d (inl refl)) (All-in (λ e. IsBefore (closed_place c) (closed_place e)) behind e b.0 k)
    ]
  ]),
  ascending_around ds c behind a.1 b (λ e i. before e (inr i)),
)

-- what comes back of an ephemeris: nothing where it repeats
abbrev own_back : List NavItem → NavItem → List NavItem
own_back before x = if repeats_latest before x then [] else as_sent x ∷ []

-- what comes back of slots, each ionosphere before or after its ephemeris; before it only where some are turned
abbrev IsBack : Type 0 → List NavItem → List NavItem → List NavItem → Type 0
IsBack turned before [] back = back ≡ []
IsBack turned before (x ∷ xs) back =
    (some : List NavItem) × (more : List NavItem) × (rest : List NavItem) × (some ++ more ≡ ionosphere_with x) × ((some ≡ []) ⊎ turned)
    × IsBack turned (x ∷ before) xs rest × (back ≡ some ++ (own_back before x ++ (more ++ rest)))

record ComesBack (r slot : ℕ) (parts : List Part) (before xs : List NavItem) : Type 0 where
  periods : List Closed
  are : AreFrom r (Contains parts) (slot_stamp slot) periods
  items : IsBack (AreTurned parts) before xs (items_in periods)

one_slot : (r slot : ℕ) (parts : List Part) (before : List NavItem) (x : NavItem) (xs : List NavItem) → ((p : Part) → Contains parts p → IsPartValue p)
    → (b : Around r slot parts x) → History r 7200 (Contains parts) (slot_stamp slot) before
    → ComesBack r (slot + 1) parts (x ∷ before) xs → ComesBack r slot parts before (x ∷ xs)
one_slot r slot parts before x xs values b history rest =
    let m = slot_stamp (slot + 1) in
    let verdict = verdict_of (latest before x) (Complete (as_sent x)) in
    let eph : Closed = record { end = b.own.end; key = b.own.key; verdict = verdict } in
    let first = b.own.first in
    let last = b.own.last in
    let behind = last ++ rest.periods in
    let to = b.own.to in
    let eph_before : IsAscending (eph ∷ behind) = (
      all_of (λ d. IsBefore (closed_place eph) (closed_place d)) behind (λ d i. elim (In-append_cases last rest.periods d i) [
        | inl j ↦ (b.own.last_each d j).1
        | inr j ↦ let high = rest.are.high d j in inl (omega (arith, high, to))
      ]),
      ascending_with m last rest.periods b.own.last_ascending rest.are.ascending (λ c i. (ion_end r slot parts x c b (b.own.last_each c i).0).1) (λ c i. rest.are.high c i),
    ) in
    record {
      periods = first ++ eph ∷ behind;
      are = record {
        ascending = ascending_around first eph behind b.own.first_ascending eph_before (λ d i. (b.own.first_each d i).1);
        each = λ c i. elim (In-append_cases first (eph ∷ behind) c i) [
          | inl j ↦ ion_closed r slot parts x c b (b.own.first_each c j).0
          | inr j ↦ elim j [
            | inl is ↦ subst (IsClosed r 7200 (Contains parts)) is (around_closed r slot parts before x values b history)
            | inr k ↦ elim (In-append_cases last rest.periods c k) [
              | inl l ↦ ion_closed r slot parts x c b (b.own.last_each c l).0
              | inr l ↦ rest.are.each c l
            ]
          ]
        ];
        high = λ c i. elim (In-append_cases first (eph ∷ behind) c i) [
          | inl j ↦ (ion_end r slot parts x c b (b.own.first_each c j).0).0
          | inr j ↦ elim j [
            | inl is ↦ subst (λ (z : Closed). slot_stamp slot ≤ z.end) is b.own.from
            | inr k ↦ elim (In-append_cases last rest.periods c k) [
              | inl l ↦ (ion_end r slot parts x c b (b.own.last_each c l).0).0
              | inr l ↦ let high = rest.are.high c l in omega (arith, high)
            ]
          ]
        ];
        every = λ q hq from. elim (around_cases r slot parts x q b hq from) [
          | inl p ↦ elim (b.own.cases q p) [
            | inl is ↦ (eph, In-append_right first (eph ∷ behind) eph (inl refl), sym is)
            | inr o ↦ elim o [
              | inl ion ↦ (ion.0, In-append_left first (eph ∷ behind) ion.0 ion.1, ion.2)
              | inr ion ↦ (ion.0, In-append_right first (eph ∷ behind) ion.0 (inr (In-append_left last rest.periods ion.0 ion.1)), ion.2)
            ]
          ]
          | inr late ↦
              let d = rest.are.every q hq late in
              (d.0, In-append_right first (eph ∷ behind) d.0 (inr (In-append_right last rest.periods d.0 d.1)), d.2)
        ];
      };
      items = (
        items_in first,
        items_in last,
        items_in rest.periods,
        b.own.items,
        elim b.own.order [ inl none ↦ inl none | inr swapped ↦ inr (turned_in r slot parts x b swapped) ],
        rest.items,
        items_append first (eph ∷ behind)
            ∙ ap (λ (l : List NavItem). items_in first ++ (item_in verdict ++ l)) (items_append last rest.periods)
            ∙ ap (λ (l : List NavItem). items_in first ++ (l ++ (items_in last ++ items_in rest.periods))) (said before x),
      );
    }

around : (r slot : ℕ) (parts : List Part) (x : NavItem) (xs : List NavItem) → AllInSlots parts → IsSent r x → AreSent r xs → AreRest slot parts (x ∷ xs) → Around r slot parts x
around r slot parts x xs all hx hxs rest = record {
  own = is_slot r (slot_stamp slot) x (own_parts slot parts) hx (own_again r slot parts x xs hxs rest);
  outer = outer_splits slot parts all;
  inner = inner_splits slot parts all;
}

none_behind : (r slot : ℕ) (parts : List Part) (before : List NavItem) → AllInSlots parts → AreRest slot parts [] → ComesBack r slot parts before []
none_behind r slot parts before all rest = record {
  periods = [];
  are = record {
    ascending = tt;
    each = λ c i. absurd i;
    high = λ c i. absurd i;
    every = λ q hq from.
        let heard = hq.heard in
        absurd (rest.each heard.part (in_from slot parts heard.part (In-from_contains parts heard.part heard.here) (omega (arith, from, heard.at_stamp)))).1;
  };
  items = refl;
}

comes_back : (r slot : ℕ) (parts : List Part) (before xs : List NavItem) → ((p : Part) → Contains parts p → IsPartValue p) → AllInSlots parts → AreSent r xs
    → AreRest slot parts xs → History r 7200 (Contains parts) (slot_stamp slot) before → ComesBack r slot parts before xs
comes_back r slot parts before [] values all h rest history = none_behind r slot parts before all rest
comes_back r slot parts before (x ∷ xs) values all h rest history =
    let b = around r slot parts x xs all h.0 h.1 rest in
    one_slot r slot parts before x xs values b history
    (comes_back r (slot + 1) parts (x ∷ before) xs values all h.1 (next_rest r slot parts x xs h.1 rest) (slot_stamp slot, around_sent r slot parts x b, history))

-- ---- the items, by type

sent_is_ephemeris : (r : ℕ) (x : NavItem) → IsSent r x → is_ephemeris (as_sent x) ≡ true
sent_is_ephemeris r (GpsItem e) h = refl
sent_is_ephemeris r (GalItem e) h = refl
sent_is_ephemeris r (IonItem e) h = absurd h

-- a test that the ionospheres of a slot pass all or not at all
filter_ions : (t : NavItem → Bool) (x : NavItem) (some more : List NavItem) → some ++ more ≡ ionosphere_with x → filter t some ++ filter t more ≡ filter t (ionosphere_with x)
filter_ions t x some more e = sym (filter_append t some more) ∙ ap (filter t) e

no_ephemeris : (x : NavItem) → filter is_ephemeris (ionosphere_with x) ≡ []
no_ephemeris (GpsItem e) = refl
no_ephemeris (GalItem e) = refl
no_ephemeris (IonItem e) = refl

empty_parts : {X : Type 0} (xs ys : List X) → xs ++ ys ≡ [] → (xs ≡ []) × (ys ≡ [])
empty_parts [] ys e = (refl, e)
empty_parts (x ∷ xs) ys e = absurd cc

own_no_ionosphere : (before : List NavItem) (x : NavItem) → is_ephemeris (as_sent x) ≡ true → filter (λ z. not (is_ephemeris z)) (own_back before x) ≡ []
own_no_ionosphere before x e = by (repeats_latest before x)
  where
    by : (t : Bool) → filter (λ z. not (is_ephemeris z)) (if t then [] else as_sent x ∷ []) ≡ []
    by true = refl
    by false = ap (λ (b : Bool). cond (not b) (as_sent x ∷ []) []) e

back_if : (t : Bool) (item : NavItem) (ions rest : List NavItem)
    → (if t then [] else item ∷ []) ++ (ions ++ rest) ≡ (if t then ions ++ rest else item ∷ (ions ++ rest))
back_if true item ions rest = refl
back_if false item ions rest = refl

filter_three : {X : Type 0} (t : X → Bool) (a b c d : List X) → filter t (a ++ (b ++ (c ++ d))) ≡ filter t a ++ (filter t b ++ (filter t c ++ filter t d))
filter_three {X} t a b c d =
    filter_append t a (b ++ (c ++ d))
    ∙ ap (λ (l : List X). filter t a ++ l) (filter_append t b (c ++ d) ∙ ap (λ (l : List X). filter t b ++ l) (filter_append t c d))

-- the slot's ephemeris, whichever side its ionosphere is on
eph_of_slot : (x : NavItem) (some more own rest : List NavItem) → some ++ more ≡ ionosphere_with x
    → filter is_ephemeris some ++ (own ++ (filter is_ephemeris more ++ rest)) ≡ own ++ rest
eph_of_slot x some more own rest e =
    let none = empty_parts (filter is_ephemeris some) (filter is_ephemeris more) (filter_ions is_ephemeris x some more e ∙ no_ephemeris x) in
    ap (λ (l : List NavItem). l ++ (own ++ (filter is_ephemeris more ++ rest))) none.0 ∙ ap (λ (l : List NavItem). own ++ (l ++ rest)) none.1

-- the slot's ionosphere, with no ephemeris
ion_of_slot : (some more ions rest : List NavItem) → some ++ more ≡ ions → some ++ (more ++ rest) ≡ ions ++ rest
ion_of_slot some more ions rest e = sym (append_assoc some more rest) ∙ ap (λ (l : List NavItem). l ++ rest) e

by_type : (r : ℕ) (turned : Type 0) (before xs back : List NavItem) → AreSent r xs → IsBack turned before xs back → SameByType back (items_back before xs)
by_type r turned before [] back h b = record { ephemerides = ap (filter is_ephemeris) b; ionospheres = ap (filter (λ x. not (is_ephemeris x))) b }
by_type r turned before (x ∷ xs) back h (some, more, rest, ions, order, later, is) =
    let t : NavItem → Bool = λ z. not (is_ephemeris z) in
    let eph = sent_is_ephemeris r x h.0 in
    let own = own_back before x in
    let tail = by_type r turned (x ∷ before) xs rest h.1 later in
    let all = items_back (x ∷ before) xs in
    let back_is : own ++ (ionosphere_with x ++ all) ≡ items_back before (x ∷ xs) = back_if (repeats_latest before x) (as_sent x) (ionosphere_with x) all in
    record {
      ephemerides = ap (filter is_ephemeris) is ∙ filter_three is_ephemeris some own more rest
          ∙ eph_of_slot x some more (filter is_ephemeris own) (filter is_ephemeris rest) ions
          ∙ ap (λ (l : List NavItem). filter is_ephemeris own ++ l) tail.ephemerides
          ∙ ap (λ (l : List NavItem). filter is_ephemeris own ++ (l ++ filter is_ephemeris all)) (sym (no_ephemeris x))
          ∙ sym (filter_append is_ephemeris own (ionosphere_with x ++ all) ∙ ap (λ (l : List NavItem). filter is_ephemeris own ++ l) (filter_append is_ephemeris (ionosphere_with x) all))
          ∙ ap (filter is_ephemeris) back_is;
      ionospheres = ap (filter t) is ∙ filter_three t some own more rest
          ∙ ap (λ (l : List NavItem). filter t some ++ (l ++ (filter t more ++ filter t rest))) (own_no_ionosphere before x eph)
          ∙ ion_of_slot (filter t some) (filter t more) (filter t (ionosphere_with x)) (filter t rest) (filter_ions t x some more ions)
          ∙ ap (λ (l : List NavItem). filter t (ionosphere_with x) ++ l) tail.ionospheres
          ∙ ap (λ (l : List NavItem). l ++ (filter t (ionosphere_with x) ++ filter t all)) (sym (own_no_ionosphere before x eph))
          ∙ sym (filter_append t own (ionosphere_with x ++ all) ∙ ap (λ (l : List NavItem). filter t own ++ l) (filter_append t (ionosphere_with x) all))
          ∙ ap (filter t) back_is;
    }

-- where none are turned, in their order too
in_order : (turned : Type 0) (before xs back : List NavItem) → (turned → ⊥) → IsBack turned before xs back → back ≡ items_back before xs
in_order turned before [] back never b = b
in_order turned before (x ∷ xs) back never (some, more, rest, ions, order, later, is) =
    let own = own_back before x in
    let none : some ≡ [] = elim order [ inl e ↦ e | inr t ↦ absurd (never t) ] in
    let all : more ≡ ionosphere_with x = ap (λ (l : List NavItem). l ++ more) (sym none) ∙ ions in
    is ∙ ap (λ (l : List NavItem). l ++ (own ++ (more ++ rest))) none ∙ ap (λ (l : List NavItem). own ++ (l ++ rest)) all
    ∙ ap (λ (l : List NavItem). own ++ (ionosphere_with x ++ l)) (in_order turned (x ∷ before) xs rest never later)
    ∙ back_if (repeats_latest before x) (as_sent x) (ionosphere_with x) (items_back (x ∷ before) xs)

-- ---- all slots

back_of : (r : ℕ) (xs : List NavItem) (parts : List Part) → ((p : Part) → Contains parts p → IsPartValue p) → AreSent r xs
    → AreSentAgain parts (slots_parts 0 xs) → IsBack (AreTurned parts) [] xs (items_in (periods_of r 7200 parts))
back_of r xs parts values h again =
    let sent = slots_parts 0 xs in
    let all : AllInSlots parts = λ p i. let f = again.each p (contains_from_In parts p i) in (f.2.slot, f.2.again_in) in
    let rest : AreRest 0 parts xs = record {
      each = λ p i. let f = again.each p (contains_from_In parts p (from_in 0 parts p i).0) in (f.0, In-from_contains sent f.0 f.1, f.2);
      every = λ q i. let f = again.every q (contains_from_In sent q i) in (f.0, in_from 0 parts f.0 (In-from_contains parts f.0 f.1) (omega arith), f.2);
    } in
    let c = comes_back r 0 parts [] xs values all h rest (λ key f item eph k below. absurd (omega (arith, below))) in
    let are : ArePeriods r 7200 (Contains parts) c.periods = record {
      ascending = c.are.ascending;
      each = λ d i. c.are.each d (In-from_contains c.periods d i);
      every = λ q hq. let d = c.are.every q hq (omega arith) in (d.0, contains_from_In c.periods d.0 d.1, d.2);
    } in
    subst (λ (l : List Closed). IsBack (AreTurned parts) [] xs (items_in l)) (periods_of-only r 7200 parts c.periods values are) c.items

-- the items of parts that were sent in the slots, each received at least once
pub again_comes_back : (r : ℕ) (xs : List NavItem) (parts : List Part) → ((p : Part) → Contains parts p → IsPartValue p) → AreSent r xs
    → AreSentAgain parts (slots_parts 0 xs) → SameByType (items_in (periods_of r 7200 parts)) (items_back [] xs)
again_comes_back r xs parts values h again =
    by_type r (AreTurned parts) [] xs (items_in (periods_of r 7200 parts)) h (back_of r xs parts values h again)

pub in_order_comes_back : (r : ℕ) (xs : List NavItem) (parts : List Part) → ((p : Part) → Contains parts p → IsPartValue p) → AreSent r xs
    → AreSentAgain parts (slots_parts 0 xs) → (AreTurned parts → ⊥) → items_in (periods_of r 7200 parts) ≡ items_back [] xs
in_order_comes_back r xs parts values h again never =
    in_order (AreTurned parts) [] xs (items_in (periods_of r 7200 parts)) never (back_of r xs parts values h again)

-- ---- received at the seconds at which they were sent

-- the stamp of a part of a slot: a word comes before the ionosphere
record IsAtSlot (p : Part) : Type 0 where
  slot : ℕ
  low : slot_stamp slot ≤ p.stamp
  high : p.stamp ≤ slot_stamp slot + 12
  word : IsWord p.body → p.stamp ≤ slot_stamp slot + 7
  ionosphere : IsIonosphere p.body → p.stamp ≡ slot_stamp slot + 9

-- parts that are neither; words; the ionosphere
other_at : (slot n : ℕ) (sat : Satellite) (body : Body) → n ≤ 12 → (IsWord body → ⊥) → (IsIonosphere body → ⊥) → IsAtSlot (part (slot_stamp slot + n) sat body)
other_at slot n sat body few no_word no_ion = record {
  slot = slot;
  low = omega arith;
  high = omega (arith, few);
  word = λ w. absurd (no_word w);
  ionosphere = λ i. absurd (no_ion i);
}

word_at : (slot n : ℕ) (sat : Satellite) (body : Body) → n ≤ 7 → (IsIonosphere body → ⊥) → IsAtSlot (part (slot_stamp slot + n) sat body)
word_at slot n sat body few no_ion = record {
  slot = slot;
  low = omega arith;
  high = omega (arith, few);
  word = λ w. omega (arith, few);
  ionosphere = λ i. absurd (no_ion i);
}

at_slot : (slot : ℕ) (x : NavItem) (p : Part) → In (parts_at (slot_stamp slot) x) p → IsAtSlot p
at_slot slot (GpsItem e) p (inl is) =
    subst IsAtSlot is (record { slot = slot; low = omega arith; high = omega arith; word = λ w. absurd w; ionosphere = λ i. absurd i })
at_slot slot (GpsItem e) p (inr (inl is)) = subst IsAtSlot is (other_at slot 6 e.sat (OfOrbitA e.a e.fit) (omega arith) (λ w. w) (λ i. i))
at_slot slot (GpsItem e) p (inr (inr (inl is))) = subst IsAtSlot is (other_at slot 12 e.sat (OfOrbitB e.b) (omega arith) (λ w. w) (λ i. i))
at_slot slot (GpsItem e) p (inr (inr (inr is))) = absurd is
at_slot slot (GalItem e) p (inl is) = subst IsAtSlot is (word_at slot 1 e.sat (OfWord1 e.w1) (omega arith) (λ i. i))
at_slot slot (GalItem e) p (inr (inl is)) = subst IsAtSlot is (word_at slot 3 e.sat (OfWord2 e.w2) (omega arith) (λ i. i))
at_slot slot (GalItem e) p (inr (inr (inl is))) = subst IsAtSlot is (word_at slot 5 e.sat (OfWord3 e.w3) (omega arith) (λ i. i))
at_slot slot (GalItem e) p (inr (inr (inr (inl is)))) = subst IsAtSlot is (word_at slot 7 e.sat (OfWord4 e.w4) (omega arith) (λ i. i))
at_slot slot (GalItem e) p (inr (inr (inr (inr (inl is))))) = subst IsAtSlot is (other_at slot 9 e.sat (OfHealth e.health (Sent (galileo_week_number e) (galileo_second e))) (omega arith) (λ w. w) (λ i. i))
at_slot slot (GalItem e) p (inr (inr (inr (inr (inr (inl is)))))) =
    subst IsAtSlot is (record { slot = slot; low = omega arith; high = omega arith; word = λ w. absurd w; ionosphere = λ i. refl })
at_slot slot (GalItem e) p (inr (inr (inr (inr (inr (inr is)))))) = absurd is
at_slot slot (IonItem e) p is = absurd is

at_slots : (slot : ℕ) (xs : List NavItem) (p : Part) → In (slots_parts slot xs) p → IsAtSlot p
at_slots slot [] p i = absurd i
at_slots slot (x ∷ xs) p i = elim (In-append_cases (parts_at (slot_stamp slot) x) (slots_parts (slot + 1) xs) p i) [
  | inl a ↦ at_slot slot x p a
  | inr b ↦ at_slots (slot + 1) xs p b
]

as_sent_again : (xs : List NavItem) (p : Part) → Contains (slots_parts 0 xs) p → IsSentAgain p p
as_sent_again xs p i =
    let at = at_slots 0 xs p (In-from_contains (slots_parts 0 xs) p i) in
    let high = at.high in
    let here : IsInSlot at.slot p.stamp = record { begun = at.low; near = omega (arith, high) } in
    record { sat = refl; body = refl; slot = at.slot; sent_in = here; again_in = here }

not_turned : (xs : List NavItem) → AreTurned (slots_parts 0 xs) → ⊥
not_turned xs t =
    let ion = at_slots 0 xs t.ionosphere (In-from_contains (slots_parts 0 xs) t.ionosphere t.ionosphere_here) in
    let word = at_slots 0 xs t.word (In-from_contains (slots_parts 0 xs) t.word t.word_here) in
    let at = ion.ionosphere t.is_ionosphere in
    let to = word.word t.is_word in
    let low = word.low in
    omega (arith, at, to, low, t.ionosphere_in.begun, t.ionosphere_in.near, t.word_in.begun, t.word_in.near, t.earlier)

-- the items of the parts of all slots
pub slots_come_back : (r : ℕ) (xs : List NavItem) → ((p : Part) → Contains (slots_parts 0 xs) p → IsPartValue p) → AreSent r xs
    → items_in (periods_of r 7200 (slots_parts 0 xs)) ≡ items_back [] xs
slots_come_back r xs values h =
    in_order_comes_back r xs (slots_parts 0 xs) values h
    (record { each = λ p i. (p, i, as_sent_again xs p i); every = λ p i. (p, i, as_sent_again xs p i) }) (not_turned xs)
