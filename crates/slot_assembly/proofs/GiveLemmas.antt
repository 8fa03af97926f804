-- The next period given, and what the assembly stands for then.
use Rattle.std.proofs.Common.{◌≡◌, ℕ, ◌+◌, ◌≤◌, inl, inr, Bool, true, false, cond, List, Option, None, Some, Contains, refl, sym, ap, subst, ◌∙◌, arith}
use Rattle.std.specs.BTreeMap.{is_at}
use Rattle.std.specs.List.Sorted.{IsStrictlySortedBy}
use Rattle.std.specs.Map.{keys_of}
use Rattle.std.proofs.lemmas.Bool.{both_ways, cases_lt}
use Rattle.nav_eph.specs.declared.items.NavItem.{NavItem}
use Rattle.nav_eph.specs.declared.part.Part.{Part}
use Rattle.periods.specs.declared.key.PeriodId.{PeriodId}
use Rattle.periods.specs.declared.closed.Finding.{Finding}
use Rattle.periods.specs.DigestsOf.{digest_finding, verdict_of}
use Rattle.periods.specs.Periods.{IsPeriod, IsMember, IsBefore}
use Rattle.periods.specs.Verdicts.{IsFound, IsUpToEnd, IsBehindEnd, Repeats}
use Rattle.periods.proofs.Surface.{some_is, IsKeyValue, cases_place, period_key, all_values, before_irr, digest_finding-is, judged_by}
use Rattle.slot_assembly.specs.Standing.{Standing, IsAfter, IsNext, NoneDue, giving}
use Rattle.slot_assembly.proofs.Surface.{after_trans, NoneDue-give}
use Rattle.slot_assembly.specs.declared.order.Rank.{Rank}
use Rattle.slot_assembly.specs.declared.order.ByStart.{ByStart}
use Rattle.slot_assembly.specs.declared.order.ByEnd.{ByEnd}
use Rattle.slot_assembly.specs.declared.slot.Slot.{Slot}
use Rattle.slot_assembly.specs.declared.slot.Held.{Held}
use Rattle.slot_assembly.specs.contracts.order.ByStartOrd.TheImpl.{cmp-value as start_cmp}
use Rattle.slot_assembly.specs.contracts.order.RankOrd.TheImpl.{cmp-value as rank_cmp}
use Rattle.slot_assembly.specs.Order.{by_start, rank_of}
use Rattle.slot_assembly.specs.Slots.{kept_at, at_of, slot_place, IsOpen, AreIndexed, IsChanged, IsFirstDue}
use Rattle.slot_assembly.specs.Healths.{IsChosen}
use Rattle.slot_assembly.specs.SlotStanding.{SlotsState, SlotsStandFor, AreSlots, IsRemembered, item_to_keep, known_for}
use Rattle.slot_assembly.proofs.Changes.{left_open}
use Rattle.slot_assembly.proofs.RankOrder.{at_is, is_at_own}
use Rattle.slot_assembly.proofs.TakeLemmas.{one_start}
use Rattle.slot_assembly.proofs.HealthChanges.{Health}
use Rattle.slot_assembly.proofs.KeptLemmas.{chosen_best}
use Rattle.slot_assembly.proofs.KnownLemmas.{IsFirst, compares_kept, are_known_given}

-- the first due slot is that of the first due period
first_is : (s : SlotsState) (at : Standing) (watermark : ℕ) (slot : Slot) → SlotsStandFor s at → IsFirstDue s.slots s.window watermark (Some slot) → IsFirst s.window (Contains at.parts) watermark at.last (slot_place slot)
first_is s at watermark slot h f =
    let k = h.slots.each slot f.0.here in
    record {
      period = k.period;
      low = f.1;
      after = k.after;
      least = λ z due b.
          let g = h.slots.every z due.period due.after in
          f.0.least g.0 g.1 (subst (λ (x : PeriodId). IsBefore x (slot_place slot)) (sym g.2) b);
    }

-- its window reaches the watermark at which there was none
reaches : (w n : ℕ) (parts : Part → Type 0) (last : Option PeriodId) (q : PeriodId) → NoneDue w parts n last → IsPeriod w parts q → IsAfter last q → n ≤ q.end + w
reaches w n parts last q none h a = elim (cases_lt (q.end + w) n) [ inl l ↦ absurd (none q (record { period = h; low = l; after = a })) | inr l ↦ l ]

-- its finding
found_is : (s : SlotsState) (at : Standing) (watermark : ℕ) (slot : Slot) (health : Option Health) → SlotsStandFor s at → IsFirstDue s.slots s.window watermark (Some slot) → IsChosen s.heard s.window slot.key slot.end health
    → IsFound s.reference s.window (Contains at.parts) (slot_place slot) (digest_finding s.reference slot.key slot.digest health)
found_is s at watermark slot health h f c =
    let k = h.slots.each slot f.0.here in
    let parts = Contains at.parts in
    let near = reaches s.window s.none_at parts at.last (slot_place slot) h.none_due k.period k.after in
    digest_finding-is s.reference slot.key (IsMember s.window parts (slot_place slot)) (IsUpToEnd s.window parts slot.key slot.end) (IsBehindEnd s.window parts slot.key slot.end) slot.digest health k.digest
    (chosen_best s.window s.none_at parts s.heard slot.key slot.end health h.kept near c)

pub next_is : (s : SlotsState) (at : Standing) (watermark : ℕ) (slot : Slot) (health : Option Health) → SlotsStandFor s at → IsFirstDue s.slots s.window watermark (Some slot) → IsChosen s.heard s.window slot.key slot.end health
    → IsNext s.reference s.window (Contains at.parts) watermark at.last
    (record { end = slot.end; key = slot.key; verdict = verdict_of (known_for slot.key s.known) (digest_finding s.reference slot.key slot.digest health) })
next_is s at watermark slot health h f c =
    let q = slot_place slot in
    let parts = Contains at.parts in
    let one = first_is s at watermark slot h f in
    let finding = digest_finding s.reference slot.key slot.digest health in
    let values = all_values at.parts h.values in
    record {
      due = record { period = one.period; low = one.low; after = one.after };
      verdict = record {
        period = one.period;
        verdict = record {
          finding = finding;
          found = found_is s at watermark slot health h f c;
          judged = judged_by (Repeats s.reference s.window parts q) (known_for slot.key s.known) finding (compares_kept s.reference s.window watermark parts at.last q one s.known values h.known);
        };
      };
      least = one.least;
    }

-- the number of slots left
slots_given : (s : SlotsState) (at : Standing) (watermark : ℕ) (slot : Slot) (slots : List (ByStart × Held)) → SlotsStandFor s at → IsFirstDue s.slots s.window watermark (Some slot) → IsChanged s.slots (at_of slot) None slots
    → AreSlots s.window (Contains at.parts) (Some (slot_place slot)) slots
slots_given s at watermark slot slots h f c =
    let values = all_values at.parts h.values in
    let key : (x : Slot) → IsOpen s.slots x → IsKeyValue x.key = λ x i. period_key s.window (Contains at.parts) (slot_place x) values (h.slots.each x i).period in
    record {
      each = λ x i.
          let l = left_open s.slots slots (at_of slot) (at_of x) x c i in
          let k = h.slots.each x l.1 in
          record { period = k.period; after = is_after x l.1 l.0; starts = k.starts; start = k.start; digest = k.digest };
      every = λ q k b.
          let g = h.slots.every q k (after_trans at.last (slot_place slot) q (h.slots.each slot f.0.here).after b) in
          (g.0, c (at_of g.0) ∙ ap (λ (t : Bool). cond t None (kept_at s.slots (at_of g.0))) (other g.0 g.1 (subst (IsBefore (slot_place slot)) (sym g.2) b) (is_at (start_cmp.it (at_of slot)) (at_of g.0)) refl) ∙ g.1, g.2);
    }
  where
    same_place_of : (x : Slot) → IsOpen s.slots x → is_at (start_cmp.it (at_of slot)) (at_of x) ≡ true → slot ≡ x
    same_place_of x i e = some_is slot x (sym f.0.here ∙ ap (kept_at s.slots) (at_is (at_of slot) (at_of x) e) ∙ i)

    other : (x : Slot) → IsOpen s.slots x → IsBefore (slot_place slot) (slot_place x) → (t : Bool) → is_at (start_cmp.it (at_of slot)) (at_of x) ≡ t → is_at (start_cmp.it (at_of slot)) (at_of x) ≡ false
    other x i b true e = absurd (before_irr (slot_place x) (subst (λ (y : Slot). IsBefore (slot_place y) (slot_place x)) (same_place_of x i e) b))
    other x i b false e = e

    start_of : (x : Slot) → IsOpen s.slots x → slot_place slot ≡ slot_place x → slot.start ≡ x.start
    start_of x i e = one_start s.window (Contains at.parts) at.last slot x (h.slots.each slot f.0.here) (h.slots.each x i) e

    is_after : (x : Slot) → IsOpen s.slots x → is_at (start_cmp.it (at_of slot)) (at_of x) ≡ false → IsBefore (slot_place slot) (slot_place x)
    is_after x i e =
        let values = all_values at.parts h.values in
        let v = period_key s.window (Contains at.parts) (slot_place slot) values (h.slots.each slot f.0.here).period in
        let u = period_key s.window (Contains at.parts) (slot_place x) values (h.slots.each x i).period in
        elim (cases_place (slot_place slot) (slot_place x) v u) [
          | inl b ↦ b
          | inr o ↦ elim o [
            | inl same ↦ absurd (both_ways (is_at (start_cmp.it (at_of slot)) (at_of x)) e
                (subst (λ (y : ByStart). is_at (start_cmp.it (at_of slot)) y ≡ true) (λ j. by_start (rank_of (same j).key) (start_of x i same j)) (is_at_own (at_of slot))))
            | inr b ↦ absurd (f.0.least x i b)
          ]
        ]

pub stands_given : (s : SlotsState) (at : Standing) (watermark : ℕ) (slot : Slot) (health : Option Health) (finding : Finding) (slots : List (ByStart × Held)) (ends : List ByEnd) (known : List (Rank × NavItem)) → SlotsStandFor s at
    → at.watermark ≤ watermark → IsFirstDue s.slots s.window watermark (Some slot) → IsChosen s.heard s.window slot.key slot.end health → finding ≡ digest_finding s.reference slot.key slot.digest health
    → IsChanged s.slots (at_of slot) None slots → AreIndexed slots ends → IsRemembered s.known (rank_of slot.key) (item_to_keep slot.key finding) known → IsStrictlySortedBy rank_cmp.it (keys_of known)
    → SlotsStandFor (record { reference = s.reference; window = s.window; slots = slots; ends = ends; heard = s.heard; stamps = s.stamps; watermark = watermark; last = Some (slot_place slot); none_at = s.none_at; known = known })
    (giving watermark (slot_place slot) at)
stands_given s at watermark slot health finding slots ends known h l f c e gone i kept o =
    let q = slot_place slot in
    let parts = Contains at.parts in
    let one = first_is s at watermark slot h f in
    let values = all_values at.parts h.values in
    let found = subst (IsFound s.reference s.window parts q) (sym e) (found_is s at watermark slot health h f c) in
    record {
      slots = slots_given s at watermark slot slots h f gone;
      indexed = i;
      kept = h.kept;
      stamped = h.stamped;
      known = are_known_given s.reference s.window watermark parts at.last q one finding (item_to_keep slot.key finding) s.known known values found refl kept h.known;
      known_ordered = o;
      at_watermark = refl;
      at_last = refl;
      given = f.1;
      none_due = NoneDue-give s.window s.none_at parts at.last q one.after h.none_due;
      none_by = omega (arith, h.none_by);
      values = h.values;
    }
