-- Taking a part: it and the slots that it touches become one slot, and all other slots stay.
use Rattle.std.proofs.Common.{◌≡◌, ℕ, ◌+◌, ◌<◌, ◌≤◌, inl, inr, Option, Some, min, max, refl, sym, ap, subst, arith}
use Rattle.std.proofs.lemmas.Bool.{cases_lt}
use Rattle.nav_eph.specs.declared.part.Part.{Part}
use Rattle.periods.specs.Ends.{IsEndOf}
use Rattle.periods.proofs.Surface.{Same, IsKnown, own_end, bridge}
use Rattle.periods.specs.declared.key.PeriodKey.{PeriodKey}
use Rattle.periods.specs.declared.key.PeriodId.{PeriodId}
use Rattle.periods.specs.Digests.{IsDigest}
use Rattle.periods.specs.Parts.{key_of}
use Rattle.periods.specs.Periods.{IsReceivedAt, IsPeriod, IsMember}
use Rattle.periods.specs.Touching.{IsTouched}
use Rattle.periods.proofs.Surface.{IsUnion, digest_of-is, digest_join-is, IsDigest-same}
use Rattle.slot_assembly.specs.declared.slot.Slot.{Slot}
use Rattle.slot_assembly.specs.Slots.{slot_place, slot_with, IsOneSlot}
use Rattle.slot_assembly.specs.SlotStanding.{IsSlot}

-- the least and the greatest stamp of a set's members, and their digest
pub record Sums (key : PeriodKey) (members : Part → Type 0) (s : Slot) : Type 0 where
  pub starts : (p : Part) × members p × (p.stamp ≡ s.start)
  pub start : (p : Part) → members p → s.start ≤ p.stamp
  pub ends : (p : Part) × members p × (p.stamp ≡ s.end)
  pub end : (p : Part) → members p → p.stamp ≤ s.end
  pub digest : IsDigest key members s.digest

pub sums_same : (key : PeriodKey) (a b : Part → Type 0) (s : Slot) → Same a b → Sums key a s → Sums key b s
sums_same key a b s e h = record {
  starts = (h.starts.0, e.to h.starts.0 h.starts.1, h.starts.2);
  start = λ p i. h.start p (e.from p i);
  ends = (h.ends.0, e.to h.ends.0 h.ends.1, h.ends.2);
  end = λ p i. h.end p (e.from p i);
  digest = IsDigest-same key a b s.digest e h.digest;
}

pub sums_one : (p : Part) (s : Slot) → IsOneSlot p s → Sums s.key (λ q. q ≡ p) s
sums_one p s h = record {
  starts = (p, refl, sym h.start);
  start = λ q e. omega (arith, h.start, ap (λ (x : Part). x.stamp) e);
  ends = (p, refl, sym h.end);
  end = λ q e. omega (arith, h.end, ap (λ (x : Part). x.stamp) e);
  digest = digest_of-is p s.key s.digest h.key h.digest;
}

least_of : (key : PeriodKey) (a b c : Part → Type 0) (x y : Slot) → IsUnion a b c → Sums key a x → Sums key b y → (p : Part) × c p × (p.stamp ≡ min x.start y.start)
least_of key a b c x y u h k = elim (cases_lt y.start x.start) [
  | inl l ↦ (k.starts.0, u.right k.starts.0 k.starts.1, omega (arith, k.starts.2))
  | inr l ↦ (h.starts.0, u.left h.starts.0 h.starts.1, omega (arith, h.starts.2))
]

greatest_of : (key : PeriodKey) (a b c : Part → Type 0) (x y : Slot) → IsUnion a b c → Sums key a x → Sums key b y → (p : Part) × c p × (p.stamp ≡ max x.end y.end)
greatest_of key a b c x y u h k = elim (cases_lt x.end y.end) [
  | inl l ↦ (k.ends.0, u.right k.ends.0 k.ends.1, omega (arith, k.ends.2))
  | inr l ↦ (h.ends.0, u.left h.ends.0 h.ends.1, omega (arith, h.ends.2))
]

pub sums_with : (key : PeriodKey) (a b c : Part → Type 0) (x y : Slot) → IsUnion a b c → Sums key a x → Sums key b y → Sums key c (slot_with x (Some y))
sums_with key a b c x y u h k = record {
  starts = least_of key a b c x y u h k;
  start = λ p i. elim (u.cases p i) [ inl j ↦ omega (arith, h.start p j) | inr j ↦ omega (arith, k.start p j) ];
  ends = greatest_of key a b c x y u h k;
  end = λ p i. elim (u.cases p i) [ inl j ↦ omega (arith, h.end p j) | inr j ↦ omega (arith, k.end p j) ];
  digest = digest_join-is key a b c x.digest y.digest u h.digest k.digest;
}

-- the part that ends a period is its member
end_member : (w : ℕ) (parts : Part → Type 0) (q : PeriodId) → IsPeriod w parts q → (p : Part) × IsMember w parts q p × (p.stamp ≡ q.end)
end_member w parts q h =
    let k = h.heard in (
      k.part,
      record { here = k.here; of_key = k.of_key; ends = subst (λ (x : ℕ). IsEndOf w (IsReceivedAt parts q.key) q.end x) (sym k.at_stamp) (own_end w (IsReceivedAt parts q.key) q.end h) },
      k.at_stamp,
    )

pub sums_slot : (w : ℕ) (parts : Part → Type 0) (last : Option PeriodId) (s : Slot) → IsSlot w parts last s → Sums s.key (IsMember w parts (slot_place s)) s
sums_slot w parts last s h = record {
  starts = h.starts;
  start = h.start;
  ends = end_member w parts (slot_place s) h.period;
  end = λ p m. m.ends.after;
  digest = h.digest;
}

-- a slot of a period's members has the period's place
pub sums_end : (w : ℕ) (parts : Part → Type 0) (q : PeriodId) (s : Slot) → IsPeriod w parts q → Sums q.key (IsMember w parts q) s → s.end ≡ q.end
sums_end w parts q s h k =
    let e = end_member w parts q h in
    omega (arith, e.2, k.end e.0 e.1, k.ends.2, k.ends.1.ends.after)

heard_member : (w : ℕ) (parts : Part → Type 0) (q : PeriodId) (p : Part) → IsMember w parts q p → IsReceivedAt parts q.key p.stamp
heard_member w parts q p m = record { part = p; here = m.here; of_key = m.of_key; at_stamp = refl }

-- a part is within the window of a member exactly where it is near the first and the last one
pub touched_near : (w : ℕ) (parts : Part → Type 0) (last : Option PeriodId) (p : Part) (s : Slot) → IsSlot w parts last s → IsTouched w parts p (slot_place s)
    → (s.start ≤ p.stamp + w) × (p.stamp ≤ s.end + w)
touched_near w parts last p s h t =
    (omega (arith, h.start t.member t.is_member, t.not_far_after), omega (arith, t.is_member.ends.after, t.not_far_before))

touched_by : (w : ℕ) (parts : Part → Type 0) (p : Part) (q : PeriodId) (y : ℕ) → key_of p ≡ Some q.key → IsReceivedAt parts q.key y → IsEndOf w (IsReceivedAt parts q.key) q.end y
    → y ≤ p.stamp + w → p.stamp ≤ y + w → IsTouched w parts p q
touched_by w parts p q y k h e l m = record {
  of_key = k;
  member = h.part;
  is_member = record { here = h.here; of_key = h.of_key; ends = subst (λ (x : ℕ). IsEndOf w (IsReceivedAt parts q.key) q.end x) (sym h.at_stamp) e };
  not_far_after = omega (arith, h.at_stamp);
  not_far_before = omega (arith, h.at_stamp);
}

pub near_touched : (w : ℕ) (parts : Part → Type 0) (last : Option PeriodId) (p : Part) (s : Slot) → IsKnown w (IsReceivedAt parts s.key) → IsSlot w parts last s → key_of p ≡ Some s.key
    → s.start ≤ p.stamp + w → p.stamp ≤ s.end + w → IsTouched w parts p (slot_place s)
near_touched w parts last p s kn h k l m =
    let q = slot_place s in
    let first = h.starts in
    let e = end_member w parts q h.period in
    elim (cases_lt (p.stamp + w) s.end) [
      | inr low ↦ touched_by w parts p q e.0.stamp k (heard_member w parts q e.0 e.1) e.1.ends (omega (arith, e.2)) (omega (arith, e.2))
      | inl high ↦ elim (cases_lt s.start p.stamp) [
        | inr late ↦ touched_by w parts p q first.0.stamp k (heard_member w parts q first.0 first.1) first.1.ends (omega (arith, first.2)) (omega (arith, first.2))
        | inl early ↦
            let b = bridge w (IsReceivedAt parts s.key) kn s.end first.0.stamp p.stamp (heard_member w parts q first.0 first.1) first.1.ends (omega (arith, first.2)) (omega arith) in
            touched_by w parts p q b.0 k b.1 b.2 (omega (arith, b.4)) (omega (arith, b.3))
      ]
    ]

pub starts_by : (w : ℕ) (parts : Part → Type 0) (last : Option PeriodId) (s : Slot) → IsSlot w parts last s → s.start ≤ s.end
starts_by w parts last s h = omega (arith, h.starts.2, h.starts.1.ends.after)

-- slots of one key with the same start have the same end, and those of one period the same start
period_at : (w : ℕ) (parts : Part → Type 0) (last : Option PeriodId) (s : Slot) (key : PeriodKey) → IsSlot w parts last s → s.key ≡ key → IsPeriod w parts (record { end = s.end; key = key })
period_at w parts last s key h e = subst (λ (x : PeriodKey). IsPeriod w parts (record { end = s.end; key = x })) e h.period

first_end : (w : ℕ) (parts : Part → Type 0) (last : Option PeriodId) (f s : Slot) → IsSlot w parts last f → IsSlot w parts last s → f.key ≡ s.key → f.start ≤ s.end → f.end ≤ s.end
first_end w parts last f s h k e l = h.starts.1.ends.first s.end (period_at w parts last s f.key k (sym e)) (omega (arith, h.starts.2))

pub one_end : (w : ℕ) (parts : Part → Type 0) (last : Option PeriodId) (f s : Slot) → IsSlot w parts last f → IsSlot w parts last s → f.key ≡ s.key → f.start ≡ s.start → f.end ≡ s.end
one_end w parts last f s h k e l =
    omega (arith, first_end w parts last f s h k e (omega (arith, l, starts_by w parts last s k)), first_end w parts last s f k h (sym e) (omega (arith, l, starts_by w parts last f h)))

pub one_start : (w : ℕ) (parts : Part → Type 0) (last : Option PeriodId) (f s : Slot) → IsSlot w parts last f → IsSlot w parts last s → slot_place f ≡ slot_place s → f.start ≡ s.start
one_start w parts last f s h k e =
    let low = h.start k.starts.0 (subst (λ (z : PeriodId). IsMember w parts z k.starts.0) (sym e) k.starts.1) in
    let high = k.start h.starts.0 (subst (λ (z : PeriodId). IsMember w parts z h.starts.0) e h.starts.1) in
    omega (arith, low, high, h.starts.2, k.starts.2)

-- a later slot of a key starts more than a window after the end of an earlier one
pub starts_apart : (w : ℕ) (parts : Part → Type 0) (last : Option PeriodId) (f s : Slot) → IsSlot w parts last f → IsSlot w parts last s → f.key ≡ s.key → f.start < s.start → f.end + w < s.start
starts_apart w parts last f s h k e l = elim (cases_lt f.end s.start) [
  | inl far ↦
      let heard = subst (λ (x : PeriodKey). IsReceivedAt parts x k.starts.0.stamp) (sym e) (heard_member w parts (slot_place s) k.starts.0 k.starts.1) in
      omega (arith, k.starts.2, h.period.quiet k.starts.0.stamp heard (omega (arith, k.starts.2)))
  | inr near ↦
      let up = first_end w parts last s f k h (sym e) (omega arith) in
      let down = first_end w parts last f s h k e (omega (arith, starts_by w parts last s k)) in
      let end : f.end ≡ s.end = omega (arith, up, down) in
      let same : slot_place f ≡ slot_place s = λ i. record { end = end i; key = e i } in
      absurd (omega (arith, one_start w parts last f s h k same))
]
