-- The search for the key's last complete period before an end, and the verdict by the item found.
use Rattle.std.proofs.Common.{◌≡◌, ℕ, ◌<◌, ◌↔◌, inl, inr, Bool, true, false, nat_lt, if◌then◌else◌, List, Option, None, Some, Contains, refl, sym, ap, subst, ◌∙◌, ltb-true, lt-ltb}
use Rattle.std.proofs.lemmas.Bool.{and_parts, and_from, both_ways, cases_lt}
use Rattle.nav_eph.specs.Items.{IsAlike}
use Rattle.nav_eph.specs.declared.items.NavItem.{NavItem}
use Rattle.nav_eph.specs.declared.part.Part.{Part}
use Rattle.periods.proofs.EndFacts.{In-from_contains, contains_from_In}
use Rattle.periods.specs.declared.key.PeriodKey.{PeriodKey}
use Rattle.periods.specs.declared.key.PeriodKey.TheVariants.{Gps, Gal, GpsIon, GalIon}
use Rattle.periods.specs.declared.key.PeriodId.{PeriodId}
use Rattle.periods.specs.declared.closed.Finding.{Finding}
use Rattle.periods.specs.declared.closed.Finding.TheVariants.{Differs, Misses, LacksHealth, Complete}
use Rattle.periods.specs.declared.closed.Verdict.TheVariants.{Whole, Again}
use Rattle.nav_eph.specs.Items.{is_alike}
use Rattle.periods.specs.Values.{IsBest}
use Rattle.nav_eph.specs.Values.{IsPartValue}
use Rattle.periods.specs.Periods.{IsPeriod}
use Rattle.periods.specs.Verdicts.{IsOfEphemeris, IsFound, IsComplete, IsLastBefore, Repeats, IsJudged, IsVerdict}
use Rattle.periods.specs.DigestsOf.{item_of, is_complete, verdict_of}
use Rattle.periods.specs.PeriodsOf.{quiet, stamp_of, end_below, end_place, complete_below, complete_before, item_at, last_item, item_before, finding_at, verdict_at}
use Rattle.periods.proofs.Folds.{Passing, best_among-is, IsBest-same}
use Rattle.nav_eph.proofs.Surface.{is_alike-decides}
use Rattle.periods.proofs.PeriodLemmas.{IsFound-one}
use Rattle.periods.proofs.AgainLemmas.{IsLastBefore-one}
use Rattle.periods.proofs.SearchLemmas.{IsAbove, above_decides, end_from_quiet, quiet_from_end, stamp_of-is, is-stamp_of, finding_at-is}

-- a complete finding has an item
complete_has : (f : Finding) → is_complete f ≡ true → (item : NavItem) × (f ≡ Complete item)
complete_has Differs e = absurd (both_ways false refl e)
complete_has Misses e = absurd (both_ways false refl e)
complete_has LacksHealth e = absurd (both_ways false refl e)
complete_has (Complete item) e = (item, refl)

-- a complete period of the key that ends below another end
pub record IsCompleteBelow (r w : ℕ) (parts : Part → Type 0) (key : PeriodKey) (e s : ℕ) : Type 0 where
  pub item : NavItem
  pub complete : IsComplete r w parts key s item
  pub below : s < e

-- the finding of a complete period is its item
found_item : (r w : ℕ) (parts : List Part) (key : PeriodKey) (s : ℕ) (item : NavItem) → ((p : Part) → Contains parts p → IsPartValue p)
    → IsComplete r w (Contains parts) key s item → finding_at r w parts (end_place key s) ≡ Complete item
found_item r w parts key s item values h =
    IsFound-one r w (Contains parts) (end_place key s) (finding_at r w parts (end_place key s)) (Complete item) values
    (finding_at-is r w parts (end_place key s) h.period) h.found

passing_complete : (r w : ℕ) (parts : List Part) (key : PeriodKey) (e s : ℕ)
    → Passing (stamp_of key) (complete_below r w parts key e) parts s → IsCompleteBelow r w (Contains parts) key e s
passing_complete r w parts key e s h =
    let f = stamp_of-is key h.element s h.is in
    let t = and_parts (end_below parts w key e s) (is_complete (finding_at r w parts (end_place key s))) h.passes in
    let u = and_parts (nat_lt s e) (quiet parts w key s) t.0 in
    let period = end_from_quiet w parts key s h.element (contains_from_In parts h.element h.here) f.0 f.1 u.1 in
    let c = complete_has (finding_at r w parts (end_place key s)) t.1 in
    record {
      item = c.0;
      complete = record {
        period = period;
        found = subst (λ (x : Finding). IsFound r w (Contains parts) (end_place key s) x) c.1 (finding_at-is r w parts (end_place key s) period);
      };
      below = ltb-true s e u.0;
    }

complete_passing : (r w : ℕ) (parts : List Part) (key : PeriodKey) (e s : ℕ) → ((p : Part) → Contains parts p → IsPartValue p)
    → IsCompleteBelow r w (Contains parts) key e s → Passing (stamp_of key) (complete_below r w parts key e) parts s
complete_passing r w parts key e s values h =
    let p = h.complete.period.heard in
    record {
      element = p.part;
      here = In-from_contains parts p.part p.here;
      is = is-stamp_of key p.part p.of_key ∙ ap Some p.at_stamp;
      passes = and_from (end_below parts w key e s) (is_complete (finding_at r w parts (end_place key s)))
          (and_from (nat_lt s e) (quiet parts w key s) (lt-ltb s e h.below) (quiet_from_end w parts key s h.complete.period))
          (ap is_complete (found_item r w parts key s h.item values h.complete));
    }

complete_before-is : (r w : ℕ) (parts : List Part) (key : PeriodKey) (e : ℕ) → ((p : Part) → Contains parts p → IsPartValue p)
    → IsBest IsAbove (IsCompleteBelow r w (Contains parts) key e) (complete_before r w parts key e)
complete_before-is r w parts key e values =
    IsBest-same IsAbove (Passing (stamp_of key) (complete_below r w parts key e) parts) (IsCompleteBelow r w (Contains parts) key e) (complete_before r w parts key e)
    (λ s h. passing_complete r w parts key e s h) (λ s h. complete_passing r w parts key e s values h)
    (best_among-is (stamp_of key) (complete_below r w parts key e) (λ a b. nat_lt b a) IsAbove above_decides parts)

-- the item of the key's last complete period before, or none
abbrev pub IsKnownBefore : ℕ → ℕ → (Part → Type 0) → PeriodKey → ℕ → Option NavItem → Type 0
IsKnownBefore r w parts key e None = (s : ℕ) (item : NavItem) → IsComplete r w parts key s item → s < e → ⊥
IsKnownBefore r w parts key e (Some item) = IsLastBefore r w parts key e item

known_at : (r w : ℕ) (parts : List Part) (key : PeriodKey) (e : ℕ) (o : Option ℕ) → ((p : Part) → Contains parts p → IsPartValue p)
    → IsBest IsAbove (IsCompleteBelow r w (Contains parts) key e) o → IsKnownBefore r w (Contains parts) key e (item_at r w parts key o)
known_at r w parts key e None values b = λ s item c l. b s (record { item = item; complete = c; below = l })
known_at r w parts key e (Some s) values b =
    subst (λ (f : Finding). IsKnownBefore r w (Contains parts) key e (item_of f)) (sym (found_item r w parts key s b.here.item values b.here.complete)) (record {
      at = s;
      earlier = b.here.below;
      complete = b.here.complete;
      last = λ f other c l. elim (cases_lt s f) [
        | inl k ↦ absurd (b.first f (record { item = other; complete = c; below = l }) k)
        | inr k ↦ k
      ];
    })

pub last_item-is : (r w : ℕ) (parts : List Part) (key : PeriodKey) (e : ℕ) → ((p : Part) → Contains parts p → IsPartValue p)
    → IsKnownBefore r w (Contains parts) key e (last_item r w parts key e)
last_item-is r w parts key e values =
    known_at r w parts key e (complete_before r w parts key e) values (complete_before-is r w parts key e values)

-- comparison with the item before decides whether the period repeats it
abbrev pub Compares : (NavItem → Type 0) → Option NavItem → Type 0
Compares repeats None = (item : NavItem) → repeats item → ⊥
Compares repeats (Some before) = (item : NavItem) → repeats item ↔ IsAlike before item

pub compares_known : (r w : ℕ) (parts : Part → Type 0) (key : PeriodKey) (e : ℕ) (o : Option NavItem) → ((p : Part) → parts p → IsPartValue p)
    → IsOfEphemeris key → IsKnownBefore r w parts key e o → Compares (Repeats r w parts (end_place key e)) o
compares_known r w parts key e None values eph h = λ item k. h k.is_before.at k.before k.is_before.complete k.is_before.earlier
compares_known r w parts key e (Some before) values eph h = λ item. (
  λ k. subst (λ (z : NavItem). IsAlike z item) (IsLastBefore-one r w parts key e k.before before values k.is_before h) k.alike,
  λ alike. record { ephemeris = eph; before = before; is_before = h; alike = alike },
)

compares_before : (r w : ℕ) (parts : List Part) (key : PeriodKey) (e : ℕ) → ((p : Part) → Contains parts p → IsPartValue p)
    → Compares (Repeats r w (Contains parts) (end_place key e)) (item_before r w parts key e)
compares_before r w parts (Gps sat i) e values =
    compares_known r w (Contains parts) (Gps sat i) e (last_item r w parts (Gps sat i) e) values tt (last_item-is r w parts (Gps sat i) e values)
compares_before r w parts (Gal sat i) e values =
    compares_known r w (Contains parts) (Gal sat i) e (last_item r w parts (Gal sat i) e) values tt (last_item-is r w parts (Gal sat i) e values)
compares_before r w parts (GpsIon c) e values = λ item h. h.ephemeris
compares_before r w parts (GalIon c) e values = λ item h. h.ephemeris

judged_item : (repeats : NavItem → Type 0) (before item : NavItem) (t : Bool) → is_alike before item ≡ t
    → repeats item ↔ IsAlike before item → IsJudged repeats (Complete item) (if t then Again else Whole item)
judged_item repeats before item true e h = inl (h.1 ((is_alike-decides before item).0 e), refl)
judged_item repeats before item false e h = inr (λ k. both_ways (is_alike before item) e ((is_alike-decides before item).1 (h.0 k)), refl)

-- the verdict by the item before
pub judged_by : (repeats : NavItem → Type 0) (o : Option NavItem) (f : Finding) → Compares repeats o → IsJudged repeats f (verdict_of o f)
judged_by repeats o Differs h = refl
judged_by repeats o Misses h = refl
judged_by repeats o LacksHealth h = refl
judged_by repeats None (Complete item) h = inr (h item, refl)
judged_by repeats (Some before) (Complete item) h = judged_item repeats before item (is_alike before item) refl (h item)

pub verdict_at-is : (r w : ℕ) (parts : List Part) (q : PeriodId) → ((p : Part) → Contains parts p → IsPartValue p)
    → IsPeriod w (Contains parts) q → IsVerdict r w (Contains parts) q (verdict_at r w parts q)
verdict_at-is r w parts q values hq = record {
  finding = finding_at r w parts q;
  found = finding_at-is r w parts q hq;
  judged = judged_by (Repeats r w (Contains parts) q) (item_before r w parts q.key q.end) (finding_at r w parts q) (compares_before r w parts q.key q.end values);
}
