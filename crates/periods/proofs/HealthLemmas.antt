-- The health that the search finds near an end is the one that the period takes.
use Rattle.std.proofs.Common.{ℕ, ◌+◌, inl, inr, nat_lt, nat_le, List, Option, None, Some, Contains, ltb-true, lt-ltb}
use Rattle.std.proofs.lemmas.Bool.{and_parts, and_from, leb-true, le-leb}
use Rattle.nav_eph.specs.Satellite.{Satellite}
use Rattle.nav_eph.specs.declared.galileo.GalHealth.{GalHealth}
use Rattle.nav_eph.specs.declared.tag.SentTag.{SentTag}
use Rattle.nav_eph.specs.declared.part.Part.{Part}
use Rattle.periods.proofs.EndFacts.{Same}
use Rattle.periods.proofs.EndFacts.{In-from_contains, contains_from_In}
use Rattle.periods.specs.declared.key.PeriodKey.{PeriodKey}
use Rattle.periods.specs.declared.key.PeriodKey.TheVariants.{Gps, Gal, GpsIon, GalIon}
use Rattle.periods.specs.Values.{IsBest, IsEarlier, IsLater}
use Rattle.periods.specs.Parts.{HealthOf, health_numbers}
use Rattle.periods.specs.Readings.{reading}
use Rattle.periods.specs.Verdicts.{HasHealth, IsUpToEnd, IsBehindEnd}
use Rattle.periods.specs.Digests.{IsBestHealth}
use Rattle.periods.specs.DigestsOf.{health_at}
use Rattle.periods.specs.Mirrors.{earlier, later, best_among, or_else, up_to_end, behind_end}
use Rattle.periods.proofs.ReadingLemmas.{said_of, reading_of}
use Rattle.periods.proofs.Orders.{earlier_decides, later_decides}
use Rattle.periods.proofs.Folds.{IsBest-same, Passing, best_among-is}

-- the healths that pass the tests of the windows before and after the end
up_to_end_set : (window : ℕ) (parts : List Part) (sat : Satellite) (issue e : ℕ)
    → Same (Passing (reading (HealthOf sat)) (up_to_end window e) parts) (IsUpToEnd window (Contains parts) (Gal sat issue) e)
up_to_end_set window parts sat issue e = record {
  to = λ h p.
      let t = and_parts (nat_le h.0 e) (nat_le e (h.0 + window)) p.passes in
      record {
        heard = record { part = p.element; here = contains_from_In parts p.element p.here; says = said_of (HealthOf sat) p.element h p.is };
        by_end = leb-true h.0 e t.0;
        near = leb-true e (h.0 + window) t.1;
      };
  from = λ h p. record {
    element = p.heard.part;
    here = In-from_contains parts p.heard.part p.heard.here;
    is = reading_of (HealthOf sat) p.heard.part h p.heard.says;
    passes = and_from (nat_le h.0 e) (nat_le e (h.0 + window)) (le-leb h.0 e p.by_end) (le-leb e (h.0 + window) p.near);
  };
}

behind_end_set : (window : ℕ) (parts : List Part) (sat : Satellite) (issue e : ℕ)
    → Same (Passing (reading (HealthOf sat)) (behind_end window e) parts) (IsBehindEnd window (Contains parts) (Gal sat issue) e)
behind_end_set window parts sat issue e = record {
  to = λ h p.
      let t = and_parts (nat_lt e h.0) (nat_le h.0 (e + window)) p.passes in
      record {
        heard = record { part = p.element; here = contains_from_In parts p.element p.here; says = said_of (HealthOf sat) p.element h p.is };
        behind = ltb-true e h.0 t.0;
        near = leb-true h.0 (e + window) t.1;
      };
  from = λ h p. record {
    element = p.heard.part;
    here = In-from_contains parts p.heard.part p.heard.here;
    is = reading_of (HealthOf sat) p.heard.part h p.heard.says;
    passes = and_from (nat_lt e h.0) (nat_le h.0 (e + window)) (lt-ltb e h.0 p.behind) (le-leb h.0 (e + window) p.near);
  };
}

pub best_health : (before behind : ℕ × GalHealth × SentTag → Type 0) (x y : Option (ℕ × GalHealth × SentTag))
    → IsBest (IsLater health_numbers) before x → IsBest (IsEarlier health_numbers) behind y → IsBestHealth before behind (or_else x y)
best_health before behind None None h k = (h, k)
best_health before behind None (Some y) h k = inr (h, k)
best_health before behind (Some x) y h k = inl h

-- keys other than of Galileo ephemerides take no health
pub no_health : (w : ℕ) (parts : Part → Type 0) (key : PeriodKey) (e : ℕ) → ((h : ℕ × GalHealth × SentTag) → HasHealth key parts h → ⊥)
    → IsBestHealth (IsUpToEnd w parts key e) (IsBehindEnd w parts key e) None
no_health w parts key e none = (λ v h. none v h.heard, λ v h. none v h.heard)

pub health_at-is : (window : ℕ) (parts : List Part) (key : PeriodKey) (e : ℕ)
    → IsBestHealth (IsUpToEnd window (Contains parts) key e) (IsBehindEnd window (Contains parts) key e) (health_at window parts key e)
health_at-is window parts (Gal sat issue) e =
    let s = up_to_end_set window parts sat issue e in
    let t = behind_end_set window parts sat issue e in
    best_health (IsUpToEnd window (Contains parts) (Gal sat issue) e) (IsBehindEnd window (Contains parts) (Gal sat issue) e)
    (best_among (reading (HealthOf sat)) (up_to_end window e) (later health_numbers) parts None)
    (best_among (reading (HealthOf sat)) (behind_end window e) (earlier health_numbers) parts None)
    (IsBest-same (IsLater health_numbers) (Passing (reading (HealthOf sat)) (up_to_end window e) parts) (IsUpToEnd window (Contains parts) (Gal sat issue) e)
    (best_among (reading (HealthOf sat)) (up_to_end window e) (later health_numbers) parts None) s.to s.from
    (best_among-is (reading (HealthOf sat)) (up_to_end window e) (later health_numbers) (IsLater health_numbers) (later_decides health_numbers) parts))
    (IsBest-same (IsEarlier health_numbers) (Passing (reading (HealthOf sat)) (behind_end window e) parts) (IsBehindEnd window (Contains parts) (Gal sat issue) e)
    (best_among (reading (HealthOf sat)) (behind_end window e) (earlier health_numbers) parts None) t.to t.from
    (best_among-is (reading (HealthOf sat)) (behind_end window e) (earlier health_numbers) (IsEarlier health_numbers) (earlier_decides health_numbers) parts))
health_at-is window parts (Gps sat issue) e = no_health window (Contains parts) (Gps sat issue) e (λ h x. x)
health_at-is window parts (GpsIon content) e = no_health window (Contains parts) (GpsIon content) e (λ h x. x)
health_at-is window parts (GalIon content) e = no_health window (Contains parts) (GalIon content) e (λ h x. x)
