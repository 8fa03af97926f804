-- What the assembly stands for after each step.
use Rattle.std.proofs.Common.{◌≡◌, ℕ, ◌≤◌, inl, inr, List, [], ◌∷◌, ◌++◌, Option, None, IsSome, Contains, refl, sym, ap, subst, ◌∙◌, arith}
use Rattle.std.specs.List.Sorted.{IsStrictlySortedBy}
use Rattle.std.specs.Map.{keys_of}
use Rattle.std.proofs.lemmas.List.Elements.{All-push}
use Rattle.nav_eph.specs.Values.{IsPartValue}
use Rattle.nav_eph.specs.declared.items.NavItem.{NavItem}
use Rattle.nav_eph.specs.declared.part.Part.{Part}
use Rattle.periods.proofs.Surface.{Same, IsEnd-same, IsEndOf-same}
use Rattle.periods.specs.declared.key.PeriodKey.{PeriodKey}
use Rattle.periods.specs.declared.key.PeriodId.{PeriodId}
use Rattle.periods.specs.Parts.{key_of}
use Rattle.periods.specs.Periods.{IsReceivedAt, IsMember}
use Rattle.periods.proofs.Surface.{none_some, key_value, period_key, all_values, IsDigest-same, known_parts, with_part, joined_part, later_part, IsWithPart}
use Rattle.slot_assembly.specs.Standing.{Standing, NoneDue, taking, reaching}
use Rattle.slot_assembly.proofs.Surface.{after_low, below_rise, NoneDue-take}
use Rattle.slot_assembly.specs.declared.order.Rank.{Rank}
use Rattle.slot_assembly.specs.declared.order.ByEnd.{ByEnd}
use Rattle.slot_assembly.specs.declared.order.ByStart.{ByStart}
use Rattle.slot_assembly.specs.declared.order.ByStamp.{ByStamp}
use Rattle.slot_assembly.specs.declared.slot.Held.{Held}
use Rattle.slot_assembly.specs.contracts.order.RankOrd.TheImpl.{cmp-value as rank_cmp}
use Rattle.slot_assembly.specs.Slots.{at_of, slot_place, AreIndexed, IsTaken, AreSameSlots, IsFirstDue}
use Rattle.slot_assembly.specs.Healths.{AreStamped, IsSameHealth, IsReceived, IsForgotten, health_in}
use Rattle.slot_assembly.specs.SlotStanding.{SlotsState, SlotsStandFor, AreSlots, AreKept, AreKnown, AreSameItems}
use Rattle.slot_assembly.proofs.StepLemmas.{slots_taken}
use Rattle.slot_assembly.proofs.KeptLemmas.{kept_keyed, kept_said, kept_forgotten}
use Rattle.slot_assembly.proofs.HealthChanges.{ReceivedList}
use Rattle.slot_assembly.proofs.KnownLemmas.{are_known_later, are_known_same}

abbrev SlotList : Type 0
SlotList = List (ByStart × Held)

-- where memory runs out
slots_same : (w : ℕ) (parts : Part → Type 0) (last : Option PeriodId) (old new : SlotList) → AreSameSlots old new → AreSlots w parts last old → AreSlots w parts last new
slots_same w parts last old new same h = record {
  each = λ s i. h.each s (sym (same (at_of s)) ∙ i);
  every = λ q k after. let f = h.every q k after in (f.0, same (at_of f.0) ∙ f.1, f.2);
}

kept_same : (w n : ℕ) (parts : Part → Type 0) (old new : ReceivedList) → IsSameHealth old new → AreKept w n parts old → AreKept w n parts new
kept_same w n parts old new same h = record {
  was_received = λ x v i. h.was_received x v (sym (same x) ∙ i);
  recent = λ x i. h.recent x (subst IsSome (same x) i);
  every = λ sat v i l. same _ ∙ h.every sat v i l;
}

-- the same parts, watermark and last period given, with another store that stands for them
stands_as : (s : SlotsState) (at : Standing) (slots : SlotList) (ends : List ByEnd) (heard : ReceivedList) (stamps : List ByStamp) (known : List (Rank × NavItem)) → AreSlots s.window (Contains at.parts) at.last slots → AreIndexed slots ends
    → AreKept s.window s.none_at (Contains at.parts) heard → AreStamped heard stamps → AreKnown s.reference s.window (Contains at.parts) at.last known → IsStrictlySortedBy rank_cmp.it (keys_of known) → SlotsStandFor s at
    → SlotsStandFor (record { reference = s.reference; window = s.window; slots = slots; ends = ends; heard = heard; stamps = stamps; watermark = s.watermark; last = s.last; none_at = s.none_at; known = known }) at
stands_as s at slots ends heard stamps known are_slots indexed kept stamped are_known known_ordered h = record {
  slots = are_slots;
  indexed = indexed;
  kept = kept;
  stamped = stamped;
  known = are_known;
  known_ordered = known_ordered;
  at_watermark = h.at_watermark;
  at_last = h.at_last;
  given = h.given;
  none_due = h.none_due;
  none_by = h.none_by;
  values = h.values;
}

-- the same slots, with another list of ends
abbrev pub with_slots : SlotsState → SlotList → List ByEnd → SlotsState
with_slots s slots ends = record { reference = s.reference; window = s.window; slots = slots; ends = ends; heard = s.heard; stamps = s.stamps; watermark = s.watermark; last = s.last; none_at = s.none_at; known = s.known }

pub stands_slots : (s : SlotsState) (at : Standing) (slots : SlotList) (ends : List ByEnd) → AreSameSlots s.slots slots → AreIndexed slots ends → SlotsStandFor s at → SlotsStandFor (with_slots s slots ends) at
stands_slots s at slots ends same i h =
    stands_as s at slots ends s.heard s.stamps s.known (slots_same s.window (Contains at.parts) at.last s.slots slots same h.slots) i h.kept h.stamped h.known h.known_ordered h

pub stands_healths : (s : SlotsState) (at : Standing) (heard : ReceivedList) (stamps : List ByStamp) → IsSameHealth s.heard heard → AreStamped heard stamps → SlotsStandFor s at
    → SlotsStandFor (record { reference = s.reference; window = s.window; slots = s.slots; ends = s.ends; heard = heard; stamps = stamps; watermark = s.watermark; last = s.last; none_at = s.none_at; known = s.known }) at
stands_healths s at heard stamps same i h =
    stands_as s at s.slots s.ends heard stamps s.known h.slots h.indexed (kept_same s.window s.none_at (Contains at.parts) s.heard heard same h.kept) i h.known h.known_ordered h

pub stands_known : (s : SlotsState) (at : Standing) (known : List (Rank × NavItem)) → AreSameItems s.known known → IsStrictlySortedBy rank_cmp.it (keys_of known) → SlotsStandFor s at
    → SlotsStandFor (record { reference = s.reference; window = s.window; slots = s.slots; ends = s.ends; heard = s.heard; stamps = s.stamps; watermark = s.watermark; last = s.last; none_at = s.none_at; known = known }) at
stands_known s at known same i h =
    stands_as s at s.slots s.ends s.heard s.stamps known h.slots h.indexed h.kept h.stamped (are_known_same s.reference s.window (Contains at.parts) at.last s.known known same h.known) i h

-- taking a part of a key
are_taken : (s : SlotsState) (at : Standing) (p : Part) (slots : SlotList) → SlotsStandFor s at → at.watermark ≤ p.stamp → IsPartValue p → IsTaken s.slots p s.window slots
    → AreSlots s.window (Contains (at.parts ++ p ∷ [])) at.last slots
are_taken s at p slots h l v t =
    let w = s.window in
    let old = Contains at.parts in
    let new = Contains (at.parts ++ p ∷ []) in
    let m = with_part at.parts p in
    let values = all_values at.parts h.values in
    let k = t.is_one.key in
    let key = t.one.key in
    let j = joined_part w old new p key (known_parts w at.parts key) (known_parts w (at.parts ++ p ∷ []) key) m k in
    slots_taken w old new at.last p key s.slots (record {
      of_key = k;
      with = m;
      known = λ key. known_parts w at.parts key;
      knows = λ key. known_parts w (at.parts ++ p ∷ []) key;
      are = h.slots;
      own = h.indexed.own;
      value = key_value p key v k;
      values = λ x i. period_key w old (slot_place x) values (h.slots.each x i).period;
      behind = λ q i g. after_low w at.watermark at.last q h.given (omega arith);
      behind_new = λ q g. after_low w at.watermark at.last q h.given (omega arith);
    }) j.0 j.1 slots t

pub stands_taken : (s : SlotsState) (at : Standing) (p : Part) (slots : SlotList) (ends : List ByEnd) → SlotsStandFor s at → at.watermark ≤ p.stamp → IsPartValue p → IsTaken s.slots p s.window slots → AreIndexed slots ends
    → SlotsStandFor (record { reference = s.reference; window = s.window; slots = slots; ends = ends; heard = s.heard; stamps = s.stamps; watermark = s.watermark; last = s.last; none_at = s.none_at; known = s.known }) (taking p at)
stands_taken s at p slots ends h l v t i =
    let late = later_part at.watermark at.parts p l in
    record {
      slots = are_taken s at p slots h l v t;
      indexed = i;
      kept = kept_keyed s.window s.none_at (Contains at.parts) (Contains (at.parts ++ p ∷ [])) p t.one.key s.heard (with_part at.parts p) t.is_one.key h.kept;
      stamped = h.stamped;
      known = are_known_later s.reference s.window at.watermark (Contains at.parts) (Contains (at.parts ++ p ∷ [])) at.last s.known late h.given h.known;
      known_ordered = h.known_ordered;
      at_watermark = h.at_watermark;
      at_last = h.at_last;
      given = h.given;
      none_due = NoneDue-take s.window s.none_at at.watermark (Contains at.parts) (Contains (at.parts ++ p ∷ [])) at.last late h.none_by h.none_due;
      none_by = h.none_by;
      values = All-push IsPartValue at.parts p h.values v;
    }

-- taking health, which has no key
heard_no : (old new : Part → Type 0) (p : Part) (key : PeriodKey) → IsWithPart old new p → key_of p ≡ None → Same (IsReceivedAt old key) (IsReceivedAt new key)
heard_no old new p key m e = record {
  to = λ x h. record { part = h.part; here = m.keeps h.part h.here; of_key = h.of_key; at_stamp = h.at_stamp };
  from = λ x h. elim (m.only h.part h.here) [
    | inl o ↦ record { part = h.part; here = o; of_key = h.of_key; at_stamp = h.at_stamp }
    | inr s ↦ absurd (none_some key (sym e ∙ ap key_of s ∙ h.of_key))
  ];
}

members_no : (w : ℕ) (old new : Part → Type 0) (p : Part) (q : PeriodId) → IsWithPart old new p → key_of p ≡ None → Same (IsMember w old q) (IsMember w new q)
members_no w old new p q m e =
    let a = IsReceivedAt old q.key in
    let b = IsReceivedAt new q.key in
    let s = heard_no old new p q.key m e in
    record {
      to = λ x h. record { here = m.keeps x h.here; of_key = h.of_key; ends = IsEndOf-same w a b q.end x.stamp s h.ends };
      from = λ x h. record {
        here = elim (m.only x h.here) [ inl o ↦ o | inr f ↦ absurd (none_some q.key (sym e ∙ ap key_of f ∙ h.of_key)) ];
        of_key = h.of_key;
        ends = IsEndOf-same w b a q.end x.stamp (record { to = s.from; from = s.to }) h.ends;
      };
    }

slots_heard : (w : ℕ) (old new : Part → Type 0) (p : Part) (last : Option PeriodId) (slots : SlotList) → IsWithPart old new p → key_of p ≡ None → AreSlots w old last slots → AreSlots w new last slots
slots_heard w old new p last slots m e h = record {
  each = λ s i.
      let k = h.each s i in
      let f = members_no w old new p (slot_place s) m e in
      record {
        period = IsEnd-same w (IsReceivedAt old s.key) (IsReceivedAt new s.key) s.end (heard_no old new p s.key m e) k.period;
        after = k.after;
        starts = (k.starts.0, f.to k.starts.0 k.starts.1, k.starts.2);
        start = λ x j. k.start x (f.from x j);
        digest = IsDigest-same s.key (IsMember w old (slot_place s)) (IsMember w new (slot_place s)) s.digest f k.digest;
      };
  every = λ q k after. let s = heard_no old new p q.key m e in h.every q (IsEnd-same w (IsReceivedAt new q.key) (IsReceivedAt old q.key) q.end (record { to = s.from; from = s.to }) k) after;
}

pub stands_heard : (s : SlotsState) (at : Standing) (p : Part) (heard : ReceivedList) (stamps : List ByStamp) → SlotsStandFor s at → at.watermark ≤ p.stamp → IsPartValue p → key_of p ≡ None → IsReceived s.heard p heard
    → AreStamped heard stamps
    → SlotsStandFor (record { reference = s.reference; window = s.window; slots = s.slots; ends = s.ends; heard = heard; stamps = stamps; watermark = s.watermark; last = s.last; none_at = s.none_at; known = s.known }) (taking p at)
stands_heard s at p heard stamps h l v k t i =
    let late = later_part at.watermark at.parts p l in
    let old = Contains at.parts in
    let new = Contains (at.parts ++ p ∷ []) in
    let all = All-push IsPartValue at.parts p h.values v in
    let m = with_part at.parts p in
    record {
      slots = slots_heard s.window old new p at.last s.slots m k h.slots;
      indexed = h.indexed;
      kept = kept_said s.window s.none_at old new p (health_in p.stamp p.body) s.heard heard refl m (all_values (at.parts ++ p ∷ []) all) (omega (arith, h.none_by)) t h.kept;
      stamped = i;
      known = are_known_later s.reference s.window at.watermark old new at.last s.known late h.given h.known;
      known_ordered = h.known_ordered;
      at_watermark = h.at_watermark;
      at_last = h.at_last;
      given = h.given;
      none_due = NoneDue-take s.window s.none_at at.watermark old new at.last late h.none_by h.none_due;
      none_by = h.none_by;
      values = all;
    }

-- no period is due
pub none_is : (s : SlotsState) (at : Standing) (watermark : ℕ) → SlotsStandFor s at → IsFirstDue s.slots s.window watermark None → NoneDue s.window (Contains at.parts) watermark at.last
none_is s at watermark h none = λ q due.
    let f = h.slots.every q due.period due.after in
    omega (arith, none f.0 f.1, due.low, ap (λ (x : PeriodId). x.end) f.2)

pub stands_reached : (s : SlotsState) (at : Standing) (watermark : ℕ) (heard : ReceivedList) (stamps : List ByStamp) → SlotsStandFor s at → at.watermark ≤ watermark → IsFirstDue s.slots s.window watermark None → IsForgotten s.window watermark s.heard heard
    → AreStamped heard stamps
    → SlotsStandFor (record { reference = s.reference; window = s.window; slots = s.slots; ends = s.ends; heard = heard; stamps = stamps; watermark = watermark; last = s.last; none_at = watermark; known = s.known }) (reaching watermark at)
stands_reached s at watermark heard stamps h l none f i = record {
  slots = h.slots;
  indexed = h.indexed;
  kept = kept_forgotten s.window s.none_at watermark (Contains at.parts) s.heard heard (omega (arith, h.none_by)) f h.kept;
  stamped = i;
  known = h.known;
  known_ordered = h.known_ordered;
  at_watermark = refl;
  at_last = h.at_last;
  given = below_rise s.window at.watermark watermark at.last l h.given;
  none_due = none_is s at watermark h none;
  none_by = omega arith;
  values = h.values;
}
