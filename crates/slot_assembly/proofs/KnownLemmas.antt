-- The stored items: after parts are taken, in the verdict on the next period, and after a period is given.
use Rattle.std.proofs.Common.{◌≡◌, ℕ, ◌+◌, ◌<◌, ◌≤◌, ◌⊎◌, inl, inr, Bool, true, false, cond, List, Option, None, Some, IsSome, refl, sym, ap, subst, ◌∙◌, arith, rules}
use Rattle.std.specs.BTreeMap.{is_at}
use Rattle.std.proofs.lemmas.Bool.{both_ways, cases_lt}
use Rattle.nav_eph.specs.Values.{IsPartValue}
use Rattle.nav_eph.specs.declared.items.NavItem.{NavItem}
use Rattle.nav_eph.specs.declared.part.Part.{Part}
use Rattle.periods.specs.declared.key.PeriodKey.{PeriodKey}
use Rattle.periods.specs.declared.key.PeriodKey.TheVariants.{Gps, Gal, GpsIon, GalIon}
use Rattle.periods.specs.declared.key.PeriodId.{PeriodId}
use Rattle.periods.specs.declared.closed.Finding.{Finding}
use Rattle.periods.specs.declared.closed.Finding.TheVariants.{Differs, Misses, LacksHealth, Complete}
use Rattle.periods.specs.DigestsOf.{item_of}
use Rattle.periods.specs.Periods.{IsPeriod, IsBefore}
use Rattle.periods.specs.PeriodsOf.{end_place}
use Rattle.periods.specs.Verdicts.{IsOfEphemeris, IsComplete, IsFound, Repeats}
use Rattle.periods.proofs.Surface.{some_is, none_some, IsKeyValue, cases_place, before_irr, before_end, period_key, AreLater, IsComplete-keeps, IsComplete-was, IsFound-one, IsKnownBefore, Compares, compares_known}
use Rattle.slot_assembly.specs.Given.{GivenBelow}
use Rattle.slot_assembly.specs.Standing.{IsAfter, IsDue}
use Rattle.slot_assembly.proofs.Surface.{after_low, after_trans}
use Rattle.slot_assembly.specs.declared.order.Rank.{Rank}
use Rattle.slot_assembly.specs.contracts.order.RankOrd.TheImpl.{cmp-value as rank_cmp}
use Rattle.slot_assembly.specs.Order.{rank_of}
use Rattle.slot_assembly.specs.SlotStanding.{known_at, known_for, item_to_keep, AreSameItems, IsRemembered, IsGiven, IsLastGiven, IsKnownGiven, AreKnown}
use Rattle.slot_assembly.proofs.RankOrder.{one_rank}

abbrev Items : Type 0
Items = List (Rank × NavItem)

rank_is : (x y : Rank) → is_at (rank_cmp.it x) y ≡ true → x ≡ y
rank_is x y h = search rules

rank_own : (x : Rank) → is_at (rank_cmp.it x) x ≡ true
rank_own x = search rules

class_of : (a b : Rank) → a ≡ b → a.class ≡ b.class
class_of a b e = ap (λ (x : Rank). x.class) e

eph_values : (a b : PeriodKey) → IsOfEphemeris a → rank_of a ≡ rank_of b → IsKeyValue a × IsKeyValue b
eph_values (Gps s i) (Gps t j) h e = (tt, tt)
eph_values (Gps s i) (Gal t j) h e = (tt, tt)
eph_values (Gps s i) (GpsIon c) h e = absurd (let z = class_of _ _ e in omega arith)
eph_values (Gps s i) (GalIon c) h e = absurd (let z = class_of _ _ e in omega arith)
eph_values (Gal s i) (Gps t j) h e = (tt, tt)
eph_values (Gal s i) (Gal t j) h e = (tt, tt)
eph_values (Gal s i) (GpsIon c) h e = absurd (let z = class_of _ _ e in omega arith)
eph_values (Gal s i) (GalIon c) h e = absurd (let z = class_of _ _ e in omega arith)
eph_values (GpsIon c) b h e = absurd h
eph_values (GalIon c) b h e = absurd h

item_is : (f : Finding) (item : NavItem) → item_of f ≡ Some item → f ≡ Complete item
item_is Differs item e = absurd (none_some item e)
item_is Misses item e = absurd (none_some item e)
item_is LacksHealth item e = absurd (none_some item e)
item_is (Complete x) item e = ap Complete (some_is x item e)

keeps_is : (key : PeriodKey) (f : Finding) (item : NavItem) → item_to_keep key f ≡ Some item → IsOfEphemeris key × (f ≡ Complete item)
keeps_is (Gps s i) f item e = (tt, item_is f item e)
keeps_is (Gal s i) f item e = (tt, item_is f item e)
keeps_is (GpsIon c) f item e = absurd (none_some item e)
keeps_is (GalIon c) f item e = absurd (none_some item e)

keeps_none : (key : PeriodKey) (f : Finding) (item : NavItem) → item_to_keep key f ≡ None → IsOfEphemeris key → f ≡ Complete item → ⊥
keeps_none (Gps s i) f item e h k = none_some item (sym e ∙ ap item_of k)
keeps_none (Gal s i) f item e h k = none_some item (sym e ∙ ap item_of k)
keeps_none (GpsIon c) f item e h k = h
keeps_none (GalIon c) f item e h k = h

-- later parts
given_low : (w watermark : ℕ) (last : Option PeriodId) (q : PeriodId) → GivenBelow w watermark last → IsGiven last q → q.end + w < watermark
given_low w watermark last q g h = elim (cases_lt (q.end + w) watermark) [ inl l ↦ l | inr l ↦ absurd (h (after_low w watermark last q g l)) ]

known_later : (r w watermark : ℕ) (old new : Part → Type 0) (last : Option PeriodId) (key : PeriodKey) (o : Option NavItem) → AreLater watermark old new → GivenBelow w watermark last → IsKnownGiven r w old last key o → IsKnownGiven r w new last key o
known_later r w watermark old new last key None l g h = λ eph f item c k. h eph f item (IsComplete-was r w watermark old new key f item l (given_low w watermark last (end_place key f) g k) c) k
known_later r w watermark old new last key (Some item) l g h = record {
  ephemeris = h.ephemeris;
  at = h.at;
  complete = IsComplete-keeps r w watermark old new key h.at item l (given_low w watermark last (end_place key h.at) g h.given) h.complete;
  given = h.given;
  greatest = λ f other c k. h.greatest f other (IsComplete-was r w watermark old new key f other l (given_low w watermark last (end_place key f) g k) c) k;
}

pub are_known_later : (r w watermark : ℕ) (old new : Part → Type 0) (last : Option PeriodId) (known : Items) → AreLater watermark old new → GivenBelow w watermark last → AreKnown r w old last known → AreKnown r w new last known
are_known_later r w watermark old new last known l g h = record {
  each = λ key. known_later r w watermark old new last key (known_at known (rank_of key)) l g (h.each key);
  only = h.only;
}

-- the same items
pub are_known_same : (r w : ℕ) (parts : Part → Type 0) (last : Option PeriodId) (known known' : Items) → AreSameItems known known' → AreKnown r w parts last known → AreKnown r w parts last known'
are_known_same r w parts last known known' same h = record {
  each = λ key. subst (IsKnownGiven r w parts last key) (sym (same (rank_of key))) (h.each key);
  only = λ x i. h.only x (subst IsSome (same x) i);
}

-- the first due period: the key's periods that end before it are those that were given
pub record IsFirst (w : ℕ) (parts : Part → Type 0) (watermark : ℕ) (last : Option PeriodId) (q : PeriodId) : Type 0 where
  pub period : IsPeriod w parts q
  pub low : q.end + w < watermark
  pub after : IsAfter last q
  pub least : (z : PeriodId) → IsDue w parts watermark last z → IsBefore z q → ⊥

module _ (r w watermark : ℕ) (parts : Part → Type 0) (last : Option PeriodId) (q : PeriodId) (first : IsFirst w parts watermark last q) where
  before_given : (z : PeriodId) → IsPeriod w parts z → z.end ≤ q.end → IsBefore z q → IsGiven last z
  before_given z h l b = λ a. first.least z (record { period = h; low = omega (arith, first.low); after = a }) b

  given_before : (key : PeriodKey) (f : ℕ) → q.key ≡ key → IsGiven last (end_place key f) → f < q.end
  given_before key f e g = elim (cases_lt f q.end) [
    | inl l ↦ l
    | inr l ↦ absurd (elim (cases_lt q.end f) [
      | inl m ↦ g (after_trans last q (end_place key f) first.after (inl m))
      | inr m ↦ g (subst (IsAfter last) (let same : q.end ≡ f = omega arith in (λ i. record { end = same i; key = e i })) first.after)
    ])
  ]

  known_before : (key : PeriodKey) (o : Option NavItem) → q.key ≡ key → IsOfEphemeris key → IsKnownGiven r w parts last key o → IsKnownBefore r w parts key q.end o
  known_before key None e eph h = λ f item c l. h eph f item c (before_given (end_place key f) c.period (omega arith) (inl l))
  known_before key (Some item) e eph h = record {
    at = h.at;
    earlier = given_before key h.at e h.given;
    complete = h.complete;
    last = λ f other c l. h.greatest f other c (before_given (end_place key f) c.period (omega arith) (inl l));
  }

  compares_for : (key : PeriodKey) (known : Items) → q.key ≡ key → ((p : Part) → parts p → IsPartValue p) → AreKnown r w parts last known → Compares (Repeats r w parts (end_place key q.end)) (known_for key known)
  compares_for (Gps s i) known e values h = compares_known r w parts (Gps s i) q.end _ values tt (known_before (Gps s i) _ e tt (h.each (Gps s i)))
  compares_for (Gal s i) known e values h = compares_known r w parts (Gal s i) q.end _ values tt (known_before (Gal s i) _ e tt (h.each (Gal s i)))
  compares_for (GpsIon c) known e values h = λ item k. k.ephemeris
  compares_for (GalIon c) known e values h = λ item k. k.ephemeris

  pub compares_kept : (known : Items) → ((p : Part) → parts p → IsPartValue p) → AreKnown r w parts last known → Compares (Repeats r w parts q) (known_for q.key known)
  compares_kept known values h = compares_for q.key known refl values h

  -- after it is given
  was_given : (z : PeriodId) → IsGiven last z → IsGiven (Some q) z
  was_given z g = λ b. g (after_trans last q z first.after b)

  now_given : (z : PeriodId) → ((p : Part) → parts p → IsPartValue p) → IsPeriod w parts z → IsGiven (Some q) z → IsGiven last z ⊎ (z ≡ q)
  now_given z values h g = elim (cases_place z q (period_key w parts z values h) (period_key w parts q values first.period)) [
    | inl b ↦ inl (before_given z h (before_end z q b) b)
    | inr o ↦ elim o [ inl e ↦ inr e | inr b ↦ absurd (g b) ]
  ]

  known_on : (key : PeriodKey) (o : Option NavItem) → ((p : Part) → parts p → IsPartValue p) → (IsOfEphemeris key → (f : ℕ) (item : NavItem) → IsComplete r w parts key f item → end_place key f ≡ q → ⊥) → IsKnownGiven r w parts last key o
      → IsKnownGiven r w parts (Some q) key o
  known_on key None values none h = λ eph f item c g. elim (now_given (end_place key f) values c.period g) [ inl k ↦ h eph f item c k | inr e ↦ none eph f item c e ]
  known_on key (Some item) values none h = record {
    ephemeris = h.ephemeris;
    at = h.at;
    complete = h.complete;
    given = was_given (end_place key h.at) h.given;
    greatest = λ f other c g. elim (now_given (end_place key f) values c.period g) [ inl k ↦ h.greatest f other c k | inr e ↦ absurd (none h.ephemeris f other c e) ];
  }

  known_new : (item : NavItem) → IsOfEphemeris q.key → IsComplete r w parts q.key q.end item → IsLastGiven r w parts (Some q) q.key item
  known_new item eph c = record {
    ephemeris = eph;
    at = q.end;
    complete = c;
    given = before_irr q;
    greatest = λ f other d g. elim (cases_lt q.end f) [ inl l ↦ absurd (g (inl l)) | inr l ↦ l ];
  }

  same_rank : (key : PeriodKey) → IsOfEphemeris q.key → rank_of q.key ≡ rank_of key → q.key ≡ key
  same_rank key eph e = let v = eph_values q.key key eph e in one_rank q.key key v.0 v.1 e

  ephemeris_kept : (item : NavItem) (finding : Finding) → item_to_keep q.key finding ≡ Some item → IsOfEphemeris q.key × (finding ≡ Complete item)
  ephemeris_kept item finding e = keeps_is q.key finding item e

  none_complete : (finding : Finding) (key : PeriodKey) (f : ℕ) (item : NavItem) → ((p : Part) → parts p → IsPartValue p) → IsFound r w parts q finding → item_to_keep q.key finding ≡ None → IsOfEphemeris key → IsComplete r w parts key f item
      → end_place key f ≡ q → ⊥
  none_complete finding key f item values h e eph c same =
      let found : IsFound r w parts q (Complete item) = subst (λ (z : PeriodId). IsFound r w parts z (Complete item)) same c.found in
      keeps_none q.key finding item e (subst (λ (z : PeriodId). IsOfEphemeris z.key) same eph) (IsFound-one r w parts q finding (Complete item) values h found)

  pub are_known_given : (finding : Finding) (o : Option NavItem) (known known' : Items) → ((p : Part) → parts p → IsPartValue p) → IsFound r w parts q finding → item_to_keep q.key finding ≡ o
      → IsRemembered known (rank_of q.key) o known' → AreKnown r w parts last known → AreKnown r w parts (Some q) known'
  are_known_given finding None known known' values f e same h = record {
    each = λ key. subst (IsKnownGiven r w parts (Some q) key) (sym (same (rank_of key)))
        (known_on key (known_at known (rank_of key)) values (λ eph g item c s. none_complete finding key g item values f e eph c s) (h.each key));
    only = λ x i. h.only x (subst IsSome (same x) i);
  }
  are_known_given finding (Some item) known known' values f e c h =
      let k = ephemeris_kept item finding e in
      let complete : IsComplete r w parts q.key q.end item = record { period = first.period; found = subst (IsFound r w parts q) k.1 f } in
      record {
        each = λ key. each_by key (known_new item k.0 complete) k.0 (is_at (rank_cmp.it (rank_of q.key)) (rank_of key)) refl;
        only = λ x i. only_by x i k.0 (is_at (rank_cmp.it (rank_of q.key)) x) refl;
      }
    where
      each_by : (key : PeriodKey) → IsLastGiven r w parts (Some q) q.key item → IsOfEphemeris q.key → (b : Bool) → is_at (rank_cmp.it (rank_of q.key)) (rank_of key) ≡ b → IsKnownGiven r w parts (Some q) key (known_at known' (rank_of key))
      each_by key new eph true t =
          subst (IsKnownGiven r w parts (Some q) key) (sym (c (rank_of key) ∙ ap (λ (b : Bool). cond b (Some item) (known_at known (rank_of key))) t))
          (subst (λ (z : PeriodKey). IsLastGiven r w parts (Some q) z item) (same_rank key eph (rank_is (rank_of q.key) (rank_of key) t)) new)
      each_by key new eph false t =
          subst (IsKnownGiven r w parts (Some q) key) (sym (c (rank_of key) ∙ ap (λ (b : Bool). cond b (Some item) (known_at known (rank_of key))) t))
          (known_on key (known_at known (rank_of key)) values (λ eph' g other d s.
          both_ways (is_at (rank_cmp.it (rank_of q.key)) (rank_of key)) t
          (subst (λ (z : PeriodId). is_at (rank_cmp.it (rank_of z.key)) (rank_of key) ≡ true) s (rank_own (rank_of key)))) (h.each key))

      only_by : (x : Rank) → IsSome (known_at known' x) → IsOfEphemeris q.key → (b : Bool) → is_at (rank_cmp.it (rank_of q.key)) x ≡ b → (key : PeriodKey) × IsOfEphemeris key × (x ≡ rank_of key)
      only_by x i eph true t = (q.key, eph, sym (rank_is (rank_of q.key) x t))
      only_by x i eph false t = h.only x (subst IsSome (c x ∙ ap (λ (b : Bool). cond b (Some item) (known_at known x)) t) i)
