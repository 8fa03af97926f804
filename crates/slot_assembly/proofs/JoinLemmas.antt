-- Taking a part, by slots: the slots found are those touched, and afterwards the store has exactly one slot for each period.
use Rattle.std.proofs.Common.{◌≡◌, ℕ, ◌+◌, ◌<◌, ◌≤◌, ◌⊎◌, inl, inr, List, Option, None, Some, IsSome, refl, sym, ap, subst, ◌∙◌, arith}
use Rattle.std.proofs.lemmas.Bool.{cases_lt}
use Rattle.nav_eph.specs.declared.part.Part.{Part}
use Rattle.periods.proofs.Surface.{IsKnown}
use Rattle.periods.specs.declared.key.PeriodKey.{PeriodKey}
use Rattle.periods.specs.declared.key.PeriodId.{PeriodId}
use Rattle.periods.specs.Parts.{key_of}
use Rattle.periods.specs.Periods.{IsReceivedAt, IsPeriod}
use Rattle.periods.specs.Touching.{IsTouched}
use Rattle.periods.proofs.Surface.{some_is, IsKeyValue, IsWithPart, two_at_most}
use Rattle.slot_assembly.specs.Standing.{IsAfter}
use Rattle.slot_assembly.specs.declared.order.ByStart.{ByStart}
use Rattle.slot_assembly.specs.declared.slot.Slot.{Slot}
use Rattle.slot_assembly.specs.declared.slot.Held.{Held}
use Rattle.slot_assembly.specs.Order.{rank_of, by_start}
use Rattle.slot_assembly.specs.Slots.{kept_at, at_of, slot_place, IsOpen, IsLastSlot, IsLastTouched, IsSecondTouched, IsTaken}
use Rattle.slot_assembly.specs.SlotStanding.{AreSlots}
use Rattle.slot_assembly.proofs.RankOrder.{one_rank, at_rank}
use Rattle.slot_assembly.proofs.TakeLemmas.{touched_near, near_touched, starts_apart, starts_by}

-- what holds when a part of a key is taken
pub record Taking (w : ℕ) (old new : Part → Type 0) (last : Option PeriodId) (p : Part) (key : PeriodKey) (slots : List (ByStart × Held)) : Type 0 where
  pub of_key : key_of p ≡ Some key
  pub with : IsWithPart old new p
  pub known : (k : PeriodKey) → IsKnown w (IsReceivedAt old k)
  pub knows : (k : PeriodKey) → IsKnown w (IsReceivedAt new k)
  pub are : AreSlots w old last slots
  pub own : (x : ByStart) (s : Slot) → kept_at slots x ≡ Some s → x ≡ at_of s
  pub value : IsKeyValue key
  pub values : (s : Slot) → IsOpen slots s → IsKeyValue s.key
  pub behind : (q : PeriodId) → IsPeriod w old q → (p.stamp ≤ q.end + w) → IsAfter last q
  pub behind_new : (q : PeriodId) → p.stamp ≤ q.end → IsAfter last q

module _ (w : ℕ) (old new : Part → Type 0) (last : Option PeriodId) (p : Part) (key : PeriodKey) (slots : List (ByStart × Held)) where
  -- an open slot that the part touches
  pub record Touched (s : Slot) : Type 0 where
    pub open_one : IsOpen slots s
    pub same_key : key ≡ s.key
    pub touches : IsTouched w old p (slot_place s)

  -- the slot at a place of the key
  found : Taking w old new last p key slots → (s : Slot) → kept_at slots (by_start (rank_of key) s.start) ≡ Some s → IsOpen slots s × (key ≡ s.key)
  found t s h =
      let at = t.own (by_start (rank_of key) s.start) s h in
      let o : IsOpen slots s = subst (λ (x : ByStart). kept_at slots x ≡ Some s) at h in
      (o, one_rank key s.key t.value (t.values s o) (at_rank (rank_of key) (rank_of s.key) s.start s.start at).0)

  at_key : (s : Slot) → Touched s → kept_at slots (by_start (rank_of key) s.start) ≡ Some s
  at_key s c = subst (λ (k : PeriodKey). kept_at slots (by_start (rank_of k) s.start) ≡ Some s) (sym c.same_key) c.open_one

  touched_found : Taking w old new last p key slots → (s : Slot) → kept_at slots (by_start (rank_of key) s.start) ≡ Some s → s.start ≤ p.stamp + w → p.stamp ≤ s.end + w → Touched s
  touched_found t s h l m =
      let f = found t s h in
      record {
        open_one = f.0;
        same_key = f.1;
        touches = near_touched w old last p s (t.known s.key) (t.are.each s f.0) (t.of_key ∙ ap Some f.1) l m;
      }

  -- a place has at most one slot
  one_slot : (f s : Slot) → kept_at slots (by_start (rank_of key) f.start) ≡ Some f → kept_at slots (by_start (rank_of key) s.start) ≡ Some s → f.start ≡ s.start → f ≡ s
  one_slot f s h k e = some_is f s (sym h ∙ ap (λ (x : ℕ). kept_at slots (by_start (rank_of key) x)) e ∙ k)

  near_of : Taking w old new last p key slots → (s : Slot) → Touched s → (s.start ≤ p.stamp + w) × (p.stamp ≤ s.end + w)
  near_of t s c = touched_near w old last p s (t.are.each s c.open_one) c.touches

  -- an earlier slot of the key ends more than a window before a later one
  apart : Taking w old new last p key slots → (s f : Slot) → IsOpen slots s × (key ≡ s.key) → IsOpen slots f × (key ≡ f.key) → s.start < f.start → (s.end + w < f.start) × (f.start ≤ f.end)
  apart t s f o q l =
      let h = t.are.each f q.0 in
      (starts_apart w old last s f (t.are.each s o.0) h (sym o.1 ∙ q.1) l, starts_by w old last f h)

  -- the last slot below a bound is touched where any below it is
  last_is : Taking w old new last p key slots → (bound : ℕ) (o : Option Slot) → IsLastTouched slots (rank_of key) bound p.stamp w o → (s : Slot) → Touched s → s.start < bound
      → (f : Slot) × (o ≡ Some f) × IsLastSlot slots (rank_of key) bound f × ((f ≡ s) ⊎ (s.start < f.start))
  last_is t bound (Some f) (h, l) s c m =
      let le = h.last s.start (subst IsSome (sym (at_key s c)) refl) m in
      (f, refl, h, elim (cases_lt s.start f.start) [ inl before ↦ inr before | inr not ↦ inl (one_slot f s h.here (at_key s c) (omega (arith, le))) ])
  last_is t bound None (None, h, l) s c m = absurd (omega (arith, h s.start (subst IsSome (sym (at_key s c)) refl)))
  last_is t bound None (Some f, h, l) s c m =
      let le = h.last s.start (subst IsSome (sym (at_key s c)) refl) m in
      let near = near_of t s c in
      absurd (elim (cases_lt s.start f.start) [
        | inl before ↦ let far = apart t s f (c.open_one, c.same_key) (found t f h.here) before in omega (arith, near.1, far.0, far.1)
        | inr not ↦ omega (arith, near.1, ap (λ (x : Slot). x.end) (one_slot f s h.here (at_key s c) (omega (arith, le))))
      ])

  -- the two slots that are found
  pub record Finds (first second : Option Slot) : Type 0 where
    pub one : (s : Slot) → first ≡ Some s → Touched s
    pub other : (s : Slot) → second ≡ Some s → Touched s
    pub all : (s : Slot) → Touched s → (first ≡ Some s) ⊎ (second ≡ Some s)

  first_touched : Taking w old new last p key slots → (bound : ℕ) (o : Option Slot) → bound ≤ p.stamp + w + 1 → IsLastTouched slots (rank_of key) bound p.stamp w o → (s : Slot) → o ≡ Some s → Touched s
  first_touched t bound None up h s e = absurd (let z : None ≡ Some s = e in cc)
  first_touched t bound (Some f) up (h, l) s e = subst Touched (some_is f s e) (touched_found t f h.here (omega (arith, h.below)) l)

  second_touched : Taking w old new last p key slots → (first second : Option Slot) → IsLastTouched slots (rank_of key) (p.stamp + w + 1) p.stamp w first
      → IsSecondTouched slots (rank_of key) p.stamp w first second → (s : Slot) → second ≡ Some s → Touched s
  second_touched t None second h k s e = absurd (let z : None ≡ Some s = sym k ∙ e in cc)
  second_touched t (Some f) second (h, l) (inl k) s e = absurd (let z : None ≡ Some s = sym k.1 ∙ e in cc)
  second_touched t (Some f) second (h, l) (inr k) s e = first_touched t f.start second (omega (arith, h.below)) k s e

  before_first : Taking w old new last p key slots → (f : Slot) (second : Option Slot) → Touched f → IsLastSlot slots (rank_of key) (p.stamp + w + 1) f
      → IsSecondTouched slots (rank_of key) p.stamp w (Some f) second → (s : Slot) → Touched s → s.start < f.start → second ≡ Some s
  before_first t f second d h (inl k) s c before =
      let far = apart t s f (c.open_one, c.same_key) (d.open_one, d.same_key) before in
      absurd (omega (arith, k.0, far.0, (near_of t s c).1))
  before_first t f second d h (inr k) s c before =
      let g = last_is t f.start second k s c before in
      elim g.3 [
        | inl e ↦ g.1 ∙ ap Some e
        | inr between ↦
            let b = first_touched t f.start second (omega (arith, h.below)) k g.0 g.1 in
            let low = apart t s g.0 (c.open_one, c.same_key) (b.open_one, b.same_key) between in
            let high = apart t g.0 f (b.open_one, b.same_key) (d.open_one, d.same_key) g.2.below in
            absurd (two_at_most w old p (slot_place s) (slot_place g.0) (slot_place f) c.touches b.touches d.touches (omega (arith, low.0, low.1)) (omega (arith, high.0, high.1)))
      ]

  all_found : Taking w old new last p key slots → (first second : Option Slot) → IsLastTouched slots (rank_of key) (p.stamp + w + 1) p.stamp w first
      → IsSecondTouched slots (rank_of key) p.stamp w first second → (s : Slot) → Touched s → (first ≡ Some s) ⊎ (second ≡ Some s)
  all_found t None second h k s c =
      let g = last_is t (p.stamp + w + 1) None h s c (omega (arith, (near_of t s c).0)) in
      absurd (let z : None ≡ Some g.0 = g.1 in cc)
  all_found t (Some f) second (h, l) k s c =
      let g = last_is t (p.stamp + w + 1) (Some f) (h, l) s c (omega (arith, (near_of t s c).0)) in
      let same : g.0 ≡ f = sym (some_is f g.0 g.1) in
      let d = touched_found t f h.here (omega (arith, h.below)) l in
      elim g.3 [
        | inl e ↦ inl (g.1 ∙ ap Some e)
        | inr before ↦ inr (before_first t f second d h k s c (subst (λ (x : Slot). s.start < x.start) same before))
      ]

  pub finds : Taking w old new last p key slots → (slots' : List (ByStart × Held)) → (t : IsTaken slots p w slots') → Finds t.first t.second
  finds k slots' t =
      let e : key ≡ t.one.key = some_is key t.one.key (sym k.of_key ∙ t.is_one.key) in
      let first : IsLastTouched slots (rank_of key) (p.stamp + w + 1) p.stamp w t.first =
      subst (λ (x : PeriodKey). IsLastTouched slots (rank_of x) (p.stamp + w + 1) p.stamp w t.first) (sym e) t.is_first in
      let second : IsSecondTouched slots (rank_of key) p.stamp w t.first t.second =
      subst (λ (x : PeriodKey). IsSecondTouched slots (rank_of x) p.stamp w t.first t.second) (sym e) t.is_second in
      record {
        one = first_touched k (p.stamp + w + 1) t.first (omega arith) first;
        other = second_touched k t.first t.second first second;
        all = all_found k t.first t.second first second;
      }
