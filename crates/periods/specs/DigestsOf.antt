-- Digests, findings and verdicts as functions; the theorem `digests_are` states that they meet
-- `IsDigest` and `IsFound`.
use Rattle.std.specs.Prelude.{ℕ, ◌*◌, Bool, true, false, ◌||◌, if◌then◌else◌, List, Option, None, Some}
use Rattle.nav_eph.specs.Satellite.{Satellite}
use Rattle.nav_eph.specs.declared.galileo.GalHealth.{GalHealth}
use Rattle.nav_eph.specs.declared.gps.GpsClock.{GpsClock}
use Rattle.nav_eph.specs.declared.gps.GpsSide.{GpsSide}
use Rattle.nav_eph.specs.declared.gps.GpsOrbitA.{GpsOrbitA}
use Rattle.nav_eph.specs.declared.gps.GpsOrbitB.{GpsOrbitB}
use Rattle.nav_eph.specs.declared.galileo.GalWord1.{GalWord1}
use Rattle.nav_eph.specs.declared.galileo.GalWord2.{GalWord2}
use Rattle.nav_eph.specs.declared.galileo.GalWord3.{GalWord3}
use Rattle.nav_eph.specs.declared.galileo.GalWord4.{GalWord4}
use Rattle.nav_eph.specs.declared.tag.SentTag.{SentTag}
use Rattle.nav_eph.specs.declared.ion.IonContent.TheVariants.{Gps as OfGps, Gal as OfGal}
use Rattle.nav_eph.specs.declared.items.NavItem.TheVariants.{Gps as GpsItem, Gal as GalItem, Ion as IonItem}
use Rattle.nav_eph.specs.declared.items.NavItem.{NavItem}
use Rattle.nav_eph.specs.declared.part.Part.{Part}
use Rattle.nav_eph.specs.contracts.gps.GpsClockPartialEq.TheImpl.{eq-value as clock_eq}
use Rattle.nav_eph.specs.contracts.gps.GpsOrbitAPartialEq.TheImpl.{eq-value as orbit_a_eq}
use Rattle.nav_eph.specs.contracts.gps.GpsOrbitBPartialEq.TheImpl.{eq-value as orbit_b_eq}
use Rattle.nav_eph.specs.contracts.galileo.GalWord1PartialEq.TheImpl.{eq-value as word1_eq}
use Rattle.nav_eph.specs.contracts.galileo.GalWord2PartialEq.TheImpl.{eq-value as word2_eq}
use Rattle.nav_eph.specs.contracts.galileo.GalWord3PartialEq.TheImpl.{eq-value as word3_eq}
use Rattle.nav_eph.specs.contracts.galileo.GalWord4PartialEq.TheImpl.{eq-value as word4_eq}
use Rattle.periods.specs.declared.key.PeriodKey.{PeriodKey}
use Rattle.periods.specs.declared.key.PeriodKey.TheVariants.{Gps, Gal, GpsIon, GalIon}
use Rattle.periods.specs.declared.key.Transmission.{Transmission}
use Rattle.periods.specs.declared.closed.Finding.{Finding}
use Rattle.periods.specs.declared.closed.Finding.TheVariants.{Differs, Misses, LacksHealth, Complete}
use Rattle.periods.specs.declared.closed.Verdict.{Verdict}
use Rattle.periods.specs.declared.closed.Verdict.TheVariants.{Whole, Partial, Contradicted, NoHealth, Again}
use Rattle.periods.specs.declared.digest.GpsDigest.{GpsDigest}
use Rattle.periods.specs.declared.digest.GalDigest.{GalDigest}
use Rattle.periods.specs.declared.digest.Digest.{Digest}
use Rattle.periods.specs.declared.digest.Digest.TheVariants.{Gps as GpsForm, Gal as GalForm, Ion as IonForm}
use Rattle.nav_eph.specs.Items.{is_alike}
use Rattle.periods.specs.Parts.{key_of, Clock, OrbitA, OrbitB, Word1, Word2, Word3, Word4, Side, FitFlag, TransmissionTag, ToeTag, IonTransmission, HealthOf, side_numbers, fit_numbers, tag_numbers, transmission_numbers, health_numbers}
use Rattle.periods.specs.Readings.{reading}
use Rattle.periods.specs.Items.{gps_moment, gal_moment, toe_week_of, sent_second, gps_ion_moment, gal_ion_moment}
use Rattle.periods.specs.Mirrors.{earlier, later, best_among, best_join, or_else, seen_of, seen_join, seen_differs, seen_only, up_to_end, behind_end}

-- the digest of one part of a GPS key
abbrev pub gps_digest : Part → GpsDigest
gps_digest p = record {
  clock = seen_of (reading Clock p);
  a = seen_of (reading OrbitA p);
  b = seen_of (reading OrbitB p);
  side = reading Side p;
  fit = reading FitFlag p;
  sent = reading TransmissionTag p;
  toe = reading ToeTag p;
}

-- the digest of one part of a Galileo key
abbrev pub gal_digest : Part → GalDigest
gal_digest p = record { w1 = seen_of (reading Word1 p); w2 = seen_of (reading Word2 p); w3 = seen_of (reading Word3 p); w4 = seen_of (reading Word4 p) }

-- the digest of one transmission of an ionosphere
abbrev pub ion_digest : Option Transmission → Option Digest
ion_digest None = None
ion_digest (Some s) = Some (IonForm s)

-- the digest of one part, by its key
abbrev pub digest_for : Option PeriodKey → Part → Option Digest
digest_for None p = None
digest_for (Some (Gps sat issue)) p = Some (GpsForm (gps_digest p))
digest_for (Some (Gal sat issue)) p = Some (GalForm (gal_digest p))
digest_for (Some (GpsIon content)) p = ion_digest (reading IonTransmission p)
digest_for (Some (GalIon content)) p = ion_digest (reading IonTransmission p)

-- the digest of one part; none for Galileo health, which has no key
abbrev pub digest_of : Part → Option Digest
digest_of p = digest_for (key_of p) p

-- the digest of the union of two sets of parts of a GPS key
abbrev pub gps_join : GpsDigest → GpsDigest → GpsDigest
gps_join x y = record {
  clock = seen_join clock_eq.it x.clock y.clock;
  a = seen_join orbit_a_eq.it x.a y.a;
  b = seen_join orbit_b_eq.it x.b y.b;
  side = best_join (later side_numbers) x.side y.side;
  fit = best_join (later fit_numbers) x.fit y.fit;
  sent = best_join (earlier tag_numbers) x.sent y.sent;
  toe = best_join (earlier tag_numbers) x.toe y.toe;
}

-- the digest of the union of two sets of parts of a Galileo key
abbrev pub gal_join : GalDigest → GalDigest → GalDigest
gal_join x y = record {
  w1 = seen_join word1_eq.it x.w1 y.w1;
  w2 = seen_join word2_eq.it x.w2 y.w2;
  w3 = seen_join word3_eq.it x.w3 y.w3;
  w4 = seen_join word4_eq.it x.w4 y.w4;
}

-- the digest of the union of two sets of parts of one key
abbrev pub digest_join : Digest → Digest → Digest
digest_join (GpsForm x) (GpsForm y) = GpsForm (gps_join x y)
digest_join (GalForm x) (GalForm y) = GalForm (gal_join x y)
digest_join (IonForm x) (IonForm y) = IonForm (if earlier transmission_numbers y x then y else x)
digest_join x y = x

-- the earlier of a transmission and that of a further part, if it has one
abbrev pub transmission_with : Transmission → Option Transmission → Transmission
transmission_with s None = s
transmission_with s (Some t) = if earlier transmission_numbers t s then t else s

-- the finding of a GPS period without differing contents: complete if all is there
abbrev pub gps_item : ℕ → Satellite → Option GpsClock → Option GpsOrbitA → Option GpsOrbitB → Option (ℕ × GpsSide) → Option (ℕ × ℕ) → Option (ℕ × SentTag) → Finding
gps_item r satellite (Some c) (Some o) (Some q) (Some s) (Some f) (Some t) =
    let week = toe_week_of (gps_moment r t.1) (16 * o.toe) in
    Complete (GpsItem (record { sat = satellite; clock = c; side = s.1; a = o; fit = f.1; b = q; toe_week = week; sent = sent_second t.1 (gps_moment r t.1) week }))
gps_item r satellite c o q s f t = Misses

-- the finding of a Galileo period without differing contents: complete if all four words and health
-- are there
abbrev pub gal_item : ℕ → Satellite → Option GalWord1 → Option GalWord2 → Option GalWord3 → Option GalWord4 → Option (ℕ × GalHealth × SentTag) → Finding
gal_item r satellite (Some x) (Some y) (Some z) (Some u) (Some h) =
    let week = toe_week_of (gal_moment r h.2) (60 * x.toe) in
    Complete (GalItem (record { sat = satellite; w1 = x; w2 = y; w3 = z; w4 = u; health = h.1; toe_week = week; sent = sent_second h.2 (gal_moment r h.2) week }))
gal_item r satellite (Some x) (Some y) (Some z) (Some u) None = LacksHealth
gal_item r satellite x y z u h = Misses

-- the finding of a GPS digest
abbrev pub gps_finding : ℕ → Satellite → GpsDigest → Finding
gps_finding r satellite d =
    if seen_differs d.clock || (seen_differs d.a || seen_differs d.b) then Differs
    else gps_item r satellite (seen_only d.clock) (seen_only d.a) (seen_only d.b) d.side d.fit (or_else d.sent d.toe)

-- the finding of a Galileo digest and the health near the end
abbrev pub gal_finding : ℕ → Satellite → GalDigest → Option (ℕ × GalHealth × SentTag) → Finding
gal_finding r satellite d health =
    if seen_differs d.w1 || (seen_differs d.w2 || (seen_differs d.w3 || seen_differs d.w4)) then Differs
    else gal_item r satellite (seen_only d.w1) (seen_only d.w2) (seen_only d.w3) (seen_only d.w4) health

-- the finding of a digest and the health near the end
abbrev pub digest_finding : ℕ → PeriodKey → Digest → Option (ℕ × GalHealth × SentTag) → Finding
digest_finding r (Gps sat issue) (GpsForm d) health = gps_finding r sat d
digest_finding r (Gal sat issue) (GalForm d) health = gal_finding r sat d health
digest_finding r (GpsIon content) (IonForm s) health = Complete (IonItem (record { sat = s.sat; moment = gps_ion_moment r s; content = OfGps content }))
digest_finding r (GalIon content) (IonForm s) health = Complete (IonItem (record { sat = s.sat; moment = gal_ion_moment r s; content = OfGal content }))
digest_finding r key digest health = Misses

-- the item of a complete finding
abbrev pub item_of : Finding → Option NavItem
item_of Differs = None
item_of Misses = None
item_of LacksHealth = None
item_of (Complete item) = Some item

-- the finding is complete
abbrev pub is_complete : Finding → Bool
is_complete Differs = false
is_complete Misses = false
is_complete LacksHealth = false
is_complete (Complete item) = true

-- the verdict on the item of a complete period; the option is the item of the last complete period before it
abbrev pub verdict_on_item : Option NavItem → NavItem → Verdict
verdict_on_item None item = Whole item
verdict_on_item (Some before) item = if is_alike before item then Again else Whole item

-- the verdict on a finding
abbrev pub verdict_of : Option NavItem → Finding → Verdict
verdict_of before Differs = Contradicted
verdict_of before Misses = Partial
verdict_of before LacksHealth = NoHealth
verdict_of before (Complete item) = verdict_on_item before item

-- the satellite's last health in the window up to an end or, if there is none, the first one in the
-- window after it
abbrev pub satellite_health : ℕ → List Part → Satellite → ℕ → Option (ℕ × GalHealth × SentTag)
satellite_health window parts satellite e =
    or_else (best_among (reading (HealthOf satellite)) (up_to_end window e) (later health_numbers) parts None)
    (best_among (reading (HealthOf satellite)) (behind_end window e) (earlier health_numbers) parts None)

-- the health that a period takes; none unless its key is of a Galileo ephemeris
abbrev pub health_at : ℕ → List Part → PeriodKey → ℕ → Option (ℕ × GalHealth × SentTag)
health_at window parts (Gal satellite issue) e = satellite_health window parts satellite e
health_at window parts (Gps satellite issue) e = None
health_at window parts (GpsIon content) e = None
health_at window parts (GalIon content) e = None
