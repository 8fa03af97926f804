-- The steps of the code take a part: by a change in place, or by a slot that replaces one or two; and they find what is due.
use Rattle.std.proofs.Common.{◌≡◌, ℕ, ◌+◌, ◌-◌, ◌==◌, ◌<◌, ◌≤◌, inl, inr, Bool, true, false, List, Option, None, Some, IsSome, Result, Ok, Err, OnOk, arith, refl, sym, ap, subst, ◌∙◌, eq-eqb}
use Rattle.std.specs.Option.{option_map}
use Rattle.std.specs.Ordering.{is_lt}
use Rattle.std.specs.BTreeMap.Range.{IsLtBy}
use Rattle.std.proofs.lemmas.Bool.{both_ways, cases_lt}
use Rattle.nav_eph.specs.declared.part.Part.{Part}
use Rattle.periods.specs.declared.key.PeriodKey.{PeriodKey}
use Rattle.periods.specs.Parts.{key_of}
use Rattle.periods.proofs.Surface.{some_is, digest_some}
use Rattle.slot_assembly.specs.declared.order.Rank.{Rank}
use Rattle.slot_assembly.specs.declared.order.ByStart.{ByStart}
use Rattle.slot_assembly.specs.declared.order.ByEnd.{ByEnd}
use Rattle.slot_assembly.specs.declared.slot.Slot.{Slot}
use Rattle.slot_assembly.specs.declared.slot.Held.{Held}
use Rattle.slot_assembly.specs.contracts.order.ByStartOrd.TheImpl.{cmp-value as start_cmp}
use Rattle.slot_assembly.specs.Order.{by_end, by_start, is_of_rank, rank_of, start_place}
use Rattle.slot_assembly.specs.Joins.{start_in, kept_from, IsTouchedFrom, IsSecondFrom, IsMergedAt, IsGoneUnlessAt, IsWithoutStart, IsPutForStarts}
use Rattle.slot_assembly.specs.Slots.{at_of, kept_at, merged, slot_with, AreIndexed, AreListedAlike, IsChanged, IsFirstDue, IsFirstEnd, IsGoneUnless, IsLastSlot, IsLastTouched, IsListed, IsOneSlot, IsReplaced, IsSecondTouched, IsSlotBelow, IsTaken, IsWithout}
use Rattle.slot_assembly.proofs.RankOrder.{below_start, not_before, of_rank, squeezed, start_below, start_last}
use Rattle.slot_assembly.proofs.Changes.{indexed_put, left_open}

abbrev SlotList : Type 0
SlotList = List (ByStart × Held)

-- what follows where there is no error
pub on_ok : {T E : Type 0} (r : Result T E) (P Q : Type 0) → (P → Q) → OnOk r P → OnOk r Q
on_ok (Ok x) P Q f h = f h
on_ok (Err e) P Q f h = h

-- the slot of a part
pub one_slot_of : (p : Part) (key : PeriodKey) → key_of p ≡ Some key → (one : Slot) × IsOneSlot p one × (one.key ≡ key)
one_slot_of p key e =
    let d = digest_some p key e in
    (record { key = key; start = p.stamp; end = p.stamp; digest = d.0 }, record { key = e; digest = d.1; start = refl; end = refl }, refl)

-- the last place below a bound, where it is of the key, where it is of another, and where there is none
pub found_last : (slots : SlotList) (ends : List ByEnd) (r : Rank) (bound : ℕ) (x : ByStart) (s : Slot) → AreIndexed slots ends → kept_at slots x ≡ Some s → IsLtBy start_cmp.it x (by_start r bound) → is_of_rank r x ≡ true
    → ((y : ByStart) → IsLtBy start_cmp.it y (by_start r bound) → IsSome (kept_at slots y) → is_lt (start_cmp.it x y) ≡ false) → IsLastSlot slots r bound s
found_last slots ends r bound x s h k l o last =
    let start : x.start ≡ s.start = ap (λ (y : ByStart). y.start) (h.own x s k) in
    record {
      here = subst (λ (y : ByStart). kept_at slots y ≡ Some s) (of_rank r x o ∙ ap (by_start r) start) k;
      below = subst (λ (a : ℕ). a < bound) start (below_start r x bound l o);
      last = λ a i m. subst (λ (b : ℕ). a ≤ b) start (start_last r x a o (last (by_start r a) (start_below r a bound m) i));
    }

pub other_last : (slots : SlotList) (r : Rank) (bound : ℕ) (x : ByStart) → IsLtBy start_cmp.it x (by_start r bound) → is_of_rank r x ≡ false
    → ((y : ByStart) → IsLtBy start_cmp.it y (by_start r bound) → IsSome (kept_at slots y) → is_lt (start_cmp.it x y) ≡ false) → IsSlotBelow slots r bound None
other_last slots r bound x l o last = λ a i. elim (cases_lt a bound) [
  | inl m ↦ absurd (both_ways (is_of_rank r x) o (squeezed r a bound x (last (by_start r a) (start_below r a bound m) i) l))
  | inr m ↦ m
]

pub none_last : (slots : SlotList) (r : Rank) (bound : ℕ) → ((y : ByStart) → IsLtBy start_cmp.it y (by_start r bound) → IsSome (kept_at slots y) → ⊥) → IsSlotBelow slots r bound None
none_last slots r bound none = λ a i. elim (cases_lt a bound) [ inl m ↦ absurd (none (by_start r a) (start_below r a bound m) i) | inr m ↦ m ]

-- a change in place
merged_place : (slots : SlotList) (ends : List ByEnd) (x : ByStart) (f one : Slot) → AreIndexed slots ends → kept_at slots x ≡ Some f → x.start ≤ one.start → x ≡ at_of (slot_with f (Some one))
merged_place slots ends x f one h k l =
    let at = h.own x f k in
    let start : f.start ≡ (slot_with f (Some one)).start = omega (arith, ap (λ (y : ByStart). y.start) at) in
    at ∙ ap (by_start (rank_of f.key)) start

module _ (slots new : SlotList) (ends : List ByEnd) (x : ByStart) (one : Slot) (h : AreIndexed slots ends) (l : x.start ≤ one.start) where
  merged_change : (f : Slot) → kept_at slots x ≡ Some f → IsMergedAt slots x one new → IsChanged slots (at_of (slot_with f (Some one))) (Some (slot_with f (Some one))) new
  merged_change f k m =
      subst (λ (y : ByStart). IsChanged slots y (Some (slot_with f (Some one))) new) (merged_place slots ends x f one h k l)
      (subst (λ (w : Option Slot). IsChanged slots x w new) (ap (option_map (λ (s : Slot). slot_with s (Some one))) k) m)

  -- the slots are listed as before
  indexed_by : (o : Option Slot) → kept_at slots x ≡ o → IsMergedAt slots x one new → AreListedAlike slots new → AreIndexed new ends
  indexed_by None k m r = record {
    own = λ q s i. h.own q s (left_open slots new x q s (gone m) i).1;
    listed = λ q s i. h.listed q s (left_open slots new x q s (gone m) i).1;
    has = λ y i. r (start_place y) ∙ h.has y i;
  }
    where
      gone : IsMergedAt slots x one new → IsChanged slots x None new
      gone m = subst (λ (w : Option Slot). IsChanged slots x w new) (ap (option_map (λ (s : Slot). slot_with s (Some one))) k) m
  indexed_by (Some f) k m r =
      let j = slot_with f (Some one) in
      let listed = h.listed x f k in
      indexed_put slots new ends ends j h (merged_change f k m)
      (subst (λ (y : ByStart). IsListed ends y j.end) (merged_place slots ends x f one h k l) (record { e = listed.e; by = omega (arith, listed.by); has = listed.has }))
      (λ y i n. i) (λ y i. r (start_place y) ∙ h.has y i)

  pub indexed_merged : IsMergedAt slots x one new → AreListedAlike slots new → AreIndexed new ends
  indexed_merged m r = indexed_by (kept_at slots x) refl m r

added_to : (slots new : SlotList) (ends : List ByEnd) (p : Part) (one : Slot) (window : ℕ) (r : Rank) (a : ℕ) (o : Option Slot) → AreIndexed slots ends → r ≡ rank_of one.key → IsOneSlot p one
    → IsLastTouched slots r (p.stamp + window + 1) p.stamp window o → Some a ≡ start_in o → a ≤ p.stamp → IsMergedAt slots (by_start r a) one new → IsTaken slots p window new
added_to slots new ends p one window r a None h rank is_one t e l m = absurd (let z : Some a ≡ None = e in cc)
added_to slots new ends p one window r a (Some f) h rank is_one t e l m =
    let same : a ≡ f.start = some_is a f.start e in
    let j = slot_with f (Some one) in
    let low : a ≤ one.start = omega (arith, is_one.start) in
    let k = subst (λ (y : ℕ). kept_at slots (by_start r y) ≡ Some f) (sym same) t.0.here in
    let start : f.start ≡ j.start = omega (arith, same, low) in
    record {
      one = one;
      first = Some f;
      second = None;
      is_one = is_one;
      is_first = subst (λ (x : Rank). IsLastTouched slots x (p.stamp + window + 1) p.stamp window (Some f)) rank t;
      is_second = inl (omega (arith, same, l), refl);
      replaced = record {
        put = new;
        one = new;
        has = merged_change slots new ends (by_start r a) one h low f k m;
        without_first = subst (λ (b : Bool). IsGoneUnless b new f new) (sym (eq-eqb f.start j.start start)) (λ q. refl);
        without_second = λ q. refl;
      };
    }

pub added : (slots new : SlotList) (ends : List ByEnd) (p : Part) (one : Slot) (window : ℕ) (r : Rank) (a : ℕ) → AreIndexed slots ends → r ≡ rank_of one.key → IsOneSlot p one
    → IsTouchedFrom slots r (p.stamp + window + 1) p.stamp window (Some a) → a ≤ p.stamp → IsMergedAt slots (by_start r a) one new → IsTaken slots p window new
added slots new ends p one window r a h rank is_one t l m = added_to slots new ends p one window r a t.slot h rank is_one t.touched t.starts l m

-- one or two slots replaced
without_slot : (old new : SlotList) (r : Rank) (o : Option Slot) (f : Option ℕ) (a : ℕ) → f ≡ start_in o → ((s : Slot) → o ≡ Some s → by_start r s.start ≡ at_of s)
    → IsWithoutStart old r f a new → IsWithout old o a new
without_slot old new r None f a k at w = subst (λ (x : Option ℕ). IsWithoutStart old r x a new) k w
without_slot old new r (Some s) f a k at w = gone (s.start == a) (subst (λ (x : Option ℕ). IsWithoutStart old r x a new) k w)
  where
    gone : (b : Bool) → IsGoneUnlessAt b old (by_start r s.start) new → IsGoneUnless b old s new
    gone true g = g
    gone false g = subst (λ (x : ByStart). IsChanged old x None new) (at s refl) g

module _ (slots : SlotList) (r : Rank) (stamp window : ℕ) where
  first_at : (bound : ℕ) (o : Option Slot) → IsLastTouched slots r bound stamp window o → (s : Slot) → o ≡ Some s → kept_at slots (by_start r s.start) ≡ Some s
  first_at bound o t s e = let k = subst (IsLastTouched slots r bound stamp window) e t in k.0.here

  second_at : (first second : Option Slot) → IsSecondTouched slots r stamp window first second → (s : Slot) → second ≡ Some s → kept_at slots (by_start r s.start) ≡ Some s
  second_at None second t s e = absurd (let z : None ≡ Some s = sym t ∙ e in cc)
  second_at (Some f) second (inl t) s e = absurd (let z : None ≡ Some s = sym t.1 ∙ e in cc)
  second_at (Some f) second (inr t) s e = first_at f.start second t s e

  second_of : (first : Option Slot) (f g : Option ℕ) → f ≡ start_in first → IsSecondFrom slots r stamp window f g → (second : Option Slot) × IsSecondTouched slots r stamp window first second × (g ≡ start_in second)
  second_of None f g e t = let k = subst (λ (x : Option ℕ). IsSecondFrom slots r stamp window x g) e t in (None, refl, k)
  second_of (Some s) f g e t = let k = subst (λ (x : Option ℕ). IsSecondFrom slots r stamp window x g) e t in (k.slot, inr k.touched, k.starts)

  kept_of : (o : Option Slot) (f : Option ℕ) → f ≡ start_in o → ((s : Slot) → o ≡ Some s → kept_at slots (by_start r s.start) ≡ Some s) → kept_from slots r f ≡ o
  kept_of None f e k = ap (kept_from slots r) e
  kept_of (Some s) f e k = ap (kept_from slots r) e ∙ k s refl

pub joined : (slots new : SlotList) (ends : List ByEnd) (p : Part) (one m q : Slot) (window : ℕ) (r : Rank) (f g : Option ℕ) → AreIndexed slots ends → r ≡ rank_of one.key → IsOneSlot p one
    → IsTouchedFrom slots r (p.stamp + window + 1) p.stamp window f → IsSecondFrom slots r p.stamp window f g → m ≡ merged (kept_from slots r f) one → q ≡ slot_with m (kept_from slots r g)
    → IsPutForStarts slots r q f g new → IsTaken slots p window new
joined slots new ends p one m q window r f g h rank is_one t u e d c =
    let s = second_of slots r p.stamp window t.slot f g t.starts u in
    let first = first_at slots r p.stamp window (p.stamp + window + 1) t.slot t.touched in
    let second = second_at slots r p.stamp window t.slot s.0 s.1 in
    let kept = kept_of slots r p.stamp window t.slot f t.starts first in
    let both = kept_of slots r p.stamp window s.0 g s.2 second in
    let is_merged : m ≡ merged t.slot one = e ∙ ap (λ (o : Option Slot). merged o one) kept in
    let is : q ≡ slot_with (merged t.slot one) s.0 = d ∙ (λ i. slot_with (is_merged i) (both i)) in
    record {
      one = one;
      first = t.slot;
      second = s.0;
      is_one = is_one;
      is_first = subst (λ (x : Rank). IsLastTouched slots x (p.stamp + window + 1) p.stamp window t.slot) rank t.touched;
      is_second = subst (λ (x : Rank). IsSecondTouched slots x p.stamp window t.slot s.0) rank s.1;
      replaced = subst (λ (x : Slot). IsReplaced slots x t.slot s.0 new) is (record {
        put = c.put;
        one = c.one;
        has = c.has;
        without_first = without_slot c.put c.one r t.slot f q.start t.starts (λ x k. h.own (by_start r x.start) x (first x k)) c.without_first;
        without_second = without_slot c.one new r s.0 g q.start s.2 (λ x k. h.own (by_start r x.start) x (second x k)) c.without_second;
      });
    }

-- the rank of a merged slot's key
merged_rank : (slots : SlotList) (ends : List ByEnd) (r : Rank) (a : ℕ) (f : Slot) → AreIndexed slots ends → kept_at slots (by_start r a) ≡ Some f → r ≡ rank_of f.key
merged_rank slots ends r a f h k = let e = h.own (by_start r a) f k in λ i. record { class = (e i).class; system = (e i).system; number = (e i).number; issue = (e i).issue }

pub kept_rank : (slots : SlotList) (ends : List ByEnd) (r : Rank) (o : Option ℕ) (f : Slot) → AreIndexed slots ends → kept_from slots r o ≡ Some f → r ≡ rank_of f.key
kept_rank slots ends r None f h k = absurd (let z : None ≡ Some f = k in cc)
kept_rank slots ends r (Some a) f h k = merged_rank slots ends r a f h k

-- what is due
pub due_none : (slots : SlotList) (ends : List ByEnd) (window watermark limit : ℕ) → AreIndexed slots ends → limit ≡ watermark - window → IsFirstEnd ends limit None → IsFirstDue slots window watermark None
due_none slots ends window watermark limit h e none = λ s i. let l = h.listed (at_of s) s i in omega (arith, none (by_end (at_of s) l.e) l.has, l.by, e)

pub due_some : (slots : SlotList) (ends : List ByEnd) (window watermark limit : ℕ) (y : ByEnd) (s : Slot) → AreIndexed slots ends → limit ≡ watermark - window → IsFirstEnd ends limit (Some y)
    → kept_at slots (start_place y) ≡ Some s → s.end ≤ y.end → IsFirstDue slots window watermark (Some s)
due_some slots ends window watermark limit y s h e f k l =
    let own = h.own (start_place y) s k in (
      record {
        here = subst (λ (x : ByStart). kept_at slots x ≡ Some s) own k;
        least = λ t i. let m = h.listed (at_of t) t i in not_before y s t m.e own l m.by (f.2 (by_end (at_of t) m.e) m.has);
      },
      omega (arith, f.1, l, e),
    )
