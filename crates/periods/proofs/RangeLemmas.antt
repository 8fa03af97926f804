-- An item has its fields within their widths in bits where its members have.
use Rattle.std.proofs.Common.{◌≡◌, ℕ, ◌+◌, ◌*◌, ◌^◌, ◌<◌, ◌≤◌, inl, inr, Some, sym, subst, ◌∙◌, arith}
use Rattle.nav_eph.specs.Weeks.{IsMoment, IsReference, IsSecond, IsWeek}
use Rattle.nav_eph.specs.Functions.{gps_week_to, galileo_week_to}
use Rattle.nav_eph.proofs.Surface.{moment_near-nearest}
use Rattle.nav_eph.specs.Satellite.{Satellite, IsSat}
use Rattle.nav_eph.specs.Conditions.{wn_of}
use Rattle.nav_eph.specs.Bodies.{IsGalHealth, IsGalIon, IsGpsIon, IsIonContent, IsSentTag}
use Rattle.nav_eph.specs.Ranges.{HasRanges, IsGalWord1}
use Rattle.nav_eph.specs.Values.{HasBodyRanges, HasPartRanges, IsPartValue}
use Rattle.nav_eph.specs.declared.galileo.GalHealth.{GalHealth}
use Rattle.nav_eph.specs.declared.tag.SentTag.{SentTag}
use Rattle.nav_eph.specs.declared.tag.SentTag.TheVariants.{Sent, Toe}
use Rattle.nav_eph.specs.declared.ion.GpsIon.{GpsIon as GpsIonosphere}
use Rattle.nav_eph.specs.declared.ion.GalIon.{GalIon as GalIonosphere}
use Rattle.nav_eph.specs.declared.ion.IonContent.TheVariants.{Gps as OfGpsContent, Gal as OfGalContent}
use Rattle.nav_eph.specs.declared.items.NavItem.{NavItem}
use Rattle.nav_eph.specs.declared.items.NavItem.TheVariants.{Gps as GpsItem, Gal as GalItem, Ion as IonItem}
use Rattle.nav_eph.specs.declared.part.Part.{Part}
use Rattle.nav_eph.specs.declared.part.Body.{Body}
use Rattle.nav_eph.specs.declared.part.Body.TheVariants.{GpsClock as OfClock, GpsA as OfOrbitA, GpsB as OfOrbitB, GalW1 as OfWord1, GalW2 as OfWord2, GalW3 as OfWord3, GalW4 as OfWord4, GalHealth as OfHealth, GpsIon as OfGpsIon, GalIon as OfGalIon}
use Rattle.periods.specs.declared.key.PeriodKey.{PeriodKey}
use Rattle.periods.specs.declared.key.PeriodKey.TheVariants.{Gps, Gal, GpsIon, GalIon}
use Rattle.periods.specs.declared.key.Transmission.{Transmission}
use Rattle.periods.specs.declared.closed.Closed.{Closed}
use Rattle.periods.specs.declared.closed.Finding.{Finding}
use Rattle.periods.specs.declared.closed.Verdict.TheVariants.{Whole}
use Rattle.periods.specs.Parts.{key_in, key_of}
use Rattle.periods.specs.Items.{IsGpsTag, IsHealth, gal_ion_moment, gal_moment, gps_ion_moment, gps_moment, tag_second, toe_week_of}
use Rattle.periods.specs.Periods.{IsMember}
use Rattle.periods.specs.Verdicts.{IsClosed, IsFound, IsUpToEnd, IsBehindEnd, IsItemOf, Repeats, closed_place}
use Rattle.periods.proofs.Folds.{none_some}
use Rattle.periods.proofs.PeriodLemmas.{before_value, behind_value}
use Rattle.periods.proofs.ValueFindings.{IsHealthValue, transmission_value, sent_value, toe_value}
use Rattle.periods.proofs.ValueItems.{galileo_week_high, galileo_week_low, gps_week_low}
use Rattle.periods.proofs.VerdictLemmas.{whole_item}

-- ---- the satellite of a key, and the content of the key of an ionosphere

abbrev IsRanged : Satellite → Type 0
IsRanged sat = IsSat sat.system sat.number

gps_key : {s t : Satellite} {i j : ℕ} → Some (Gps s i) ≡ Some (Gps t j) → s ≡ t
gps_key e = cc

gal_key : {s t : Satellite} {i j : ℕ} → Some (Gal s i) ≡ Some (Gal t j) → s ≡ t
gal_key e = cc

gps_ion_key : {x y : GpsIonosphere} → Some (GpsIon x) ≡ Some (GpsIon y) → x ≡ y
gps_ion_key e = cc

gal_ion_key : {x y : GalIonosphere} → Some (GalIon x) ≡ Some (GalIon y) → x ≡ y
gal_ion_key e = cc

gps_satellite : (sat : Satellite) (body : Body) (s : Satellite) (issue : ℕ) → IsRanged sat → key_in sat body ≡ Some (Gps s issue) → IsRanged s
gps_satellite sat (OfClock c x t) s issue h e = subst IsRanged (gps_key e) h
gps_satellite sat (OfOrbitA o f) s issue h e = subst IsRanged (gps_key e) h
gps_satellite sat (OfOrbitB o) s issue h e = subst IsRanged (gps_key e) h
gps_satellite sat (OfHealth h t) s issue k e = absurd (none_some (Gps s issue) e)
gps_satellite sat _ s issue h e = absurd cc

gal_satellite : (sat : Satellite) (body : Body) (s : Satellite) (issue : ℕ) → IsRanged sat → key_in sat body ≡ Some (Gal s issue) → IsRanged s
gal_satellite sat (OfWord1 w) s issue h e = subst IsRanged (gal_key e) h
gal_satellite sat (OfWord2 w) s issue h e = subst IsRanged (gal_key e) h
gal_satellite sat (OfWord3 w) s issue h e = subst IsRanged (gal_key e) h
gal_satellite sat (OfWord4 w) s issue h e = subst IsRanged (gal_key e) h
gal_satellite sat (OfHealth h t) s issue k e = absurd (none_some (Gal s issue) e)
gal_satellite sat _ s issue h e = absurd cc

gps_ion_ranges : (sat : Satellite) (body : Body) (content : GpsIonosphere) → HasBodyRanges body → key_in sat body ≡ Some (GpsIon content) → IsGpsIon content
gps_ion_ranges sat (OfGpsIon i n) content h e = subst IsGpsIon (gps_ion_key e) h
gps_ion_ranges sat (OfHealth h t) content k e = absurd (none_some (GpsIon content) e)
gps_ion_ranges sat _ content h e = absurd cc

gal_ion_ranges : (sat : Satellite) (body : Body) (content : GalIonosphere) → HasBodyRanges body → key_in sat body ≡ Some (GalIon content) → IsGalIon content
gal_ion_ranges sat (OfGalIon i w n) content h e = subst IsGalIon (gal_ion_key e) h
gal_ion_ranges sat (OfHealth h t) content k e = absurd (none_some (GalIon content) e)
gal_ion_ranges sat _ content h e = absurd cc

-- ---- weeks and GPS times

gps_week_high : (r n : ℕ) → IsReference r → gps_week_to r n ≤ 8702
unfolding gps_week_to
gps_week_high r n reference = omega (arith, reference.1)

tag_second_is : (tag : SentTag) → IsSentTag tag → IsSecond (tag_second tag)
tag_second_is (Sent wn second) h = h.1
tag_second_is (Toe wn second) h = h.1

-- the week of the GPS time nearest to one in the weeks 2 to 10,238
near_week : (week second toe : ℕ) → 2 ≤ week → week ≤ 10238 → IsSecond second → IsSecond toe
    → IsWeek (toe_week_of (604800 * week + second) toe)
near_week week second toe low high small toe_small =
    let n = moment_near-nearest (604800 * week + second) toe (omega (arith, low)) toe_small in
    (omega (arith, low, n.from), omega (arith, high, small, n.to))

gps_toe_week : (r : ℕ) (tag : SentTag) (toe : ℕ) → IsReference r → IsSentTag tag → toe < 37800 → IsWeek (toe_week_of (gps_moment r tag) (16 * toe))
gps_toe_week r tag toe reference h small =
    let low = gps_week_low r (wn_of tag) reference in
    let high = gps_week_high r (wn_of tag) reference in
    near_week (gps_week_to r (wn_of tag)) (tag_second tag) (16 * toe) (omega (arith, low)) (omega (arith, high)) (tag_second_is tag h) (omega (arith, small))

gal_toe_week : (r : ℕ) (tag : SentTag) (toe : ℕ) → IsReference r → IsSentTag tag → toe < 10080 → IsWeek (toe_week_of (gal_moment r tag) (60 * toe))
gal_toe_week r tag toe reference h small =
    let low = galileo_week_low r (wn_of tag) reference in
    let high = galileo_week_high r (wn_of tag) reference in
    near_week (galileo_week_to r (wn_of tag)) (tag_second tag) (60 * toe) (omega (arith, low)) (omega (arith, high)) (tag_second_is tag h) (omega (arith, small))

gps_ion_moment_is : (r : ℕ) (s : Transmission) → IsReference r → s.stamp < 2 ^ 32 → IsSecond s.second → IsMoment (gps_ion_moment r s)
gps_ion_moment_is r s reference stamp small =
    let n = moment_near-nearest (604800 * r + s.stamp) s.second (omega (arith, reference.0)) small in
    omega (arith, reference.1, stamp, n.to)

gal_ion_moment_is : (r : ℕ) (s : Transmission) → IsReference r → IsSecond s.second → IsMoment (gal_ion_moment r s)
gal_ion_moment_is r s reference small =
    let high = galileo_week_high r s.wn reference in
    omega (arith, high, small)

-- ---- the item

-- the members are of the key; each has a satellite of its system and fields within their widths in bits
record AreRanged (key : PeriodKey) (members : Part → Type 0) : Type 0 where
  of_key : (p : Part) → members p → key_of p ≡ Some key
  has : (p : Part) → members p → HasPartRanges p
  is_value : (p : Part) → members p → IsPartValue p

tag_ranges : (members : Part → Type 0) (tag : ℕ × SentTag) → ((p : Part) → members p → IsPartValue p) → IsGpsTag members tag → IsSentTag tag.1
tag_ranges members tag values h = elim h [
  | inl k ↦ sent_value members tag values k.here
  | inr k ↦ toe_value members tag values k.1.here
]

health_ranges : (before behind : ℕ × GalHealth × SentTag → Type 0) (v : ℕ × GalHealth × SentTag)
    → ((h : ℕ × GalHealth × SentTag) → before h → IsHealthValue h) → ((h : ℕ × GalHealth × SentTag) → behind h → IsHealthValue h)
    → IsHealth before behind v → IsHealthValue v
health_ranges before behind v first second h = elim h [
  | inl k ↦ first v k.here
  | inr k ↦ second v k.1.here
]

item_ranges : (r : ℕ) (key : PeriodKey) (members : Part → Type 0) (before behind : ℕ × GalHealth × SentTag → Type 0) (item : NavItem)
    → IsReference r → AreRanged key members
    → ((h : ℕ × GalHealth × SentTag) → before h → IsHealthValue h) → ((h : ℕ × GalHealth × SentTag) → behind h → IsHealthValue h)
    → IsItemOf r key members before behind item → HasRanges item
item_ranges r (Gps s issue) members before behind (GpsItem e) reference are first second h =
    let c = h.clock.here in
    let a = h.a.here in
    let b = h.b.here in
    let x = h.side.here in
    let f = h.fit.here in
    let c_has = are.has c.part c.here in
    let a_is = (subst HasBodyRanges a.says.1 (are.has a.part a.here).body).0 in
    record {
      sat = subst IsRanged (sym h.sat) (gps_satellite c.part.sat c.part.body s issue c_has.sat (are.of_key c.part c.here));
      clock = (subst HasBodyRanges c.says.2 c_has.body).0;
      side = (subst HasBodyRanges x.says.2 (are.has x.part x.here).body).1;
      a = a_is;
      fit = (subst HasBodyRanges f.says.1 (are.has f.part f.here).body).1;
      b = subst HasBodyRanges b.says (are.has b.part b.here).body;
      toe_week = subst IsWeek (sym h.toe_week) (gps_toe_week r h.tag.1 e.a.toe reference (tag_ranges members h.tag are.is_value h.tag_is) a_is.toe);
    }
item_ranges r (Gal s issue) members before behind (GalItem e) reference are first second h =
    let x = h.w1.here in
    let y = h.w2.here in
    let z = h.w3.here in
    let u = h.w4.here in
    let x_has = are.has x.part x.here in
    let x_is : IsGalWord1 e.w1 = subst HasBodyRanges x.says x_has.body in
    let health = health_ranges before behind h.heard first second h.received_is in
    record {
      sat = subst IsRanged (sym h.sat) (gal_satellite x.part.sat x.part.body s issue x_has.sat (are.of_key x.part x.here));
      w1 = x_is;
      w2 = subst HasBodyRanges y.says (are.has y.part y.here).body;
      w3 = subst HasBodyRanges z.says (are.has z.part z.here).body;
      w4 = subst HasBodyRanges u.says (are.has u.part u.here).body;
      health = subst IsGalHealth (sym h.health) health.health;
      toe_week = subst IsWeek (sym h.toe_week) (gal_toe_week r h.heard.2 e.w1.toe reference health.tag x_is.toe);
    }
item_ranges r (GpsIon content) members before behind (IonItem e) reference are first second h =
    let f = h.first.here in
    let has = are.has f.part f.here in
    let at = transmission_value members h.transmission are.is_value f in
    let content_is : IsIonContent (OfGpsContent content) = gps_ion_ranges f.part.sat f.part.body content has.body (are.of_key f.part f.here) in
    record {
      sat = subst IsRanged (f.says.1 ∙ sym h.sat) has.sat;
      moment = subst IsMoment (sym h.moment)
          (gps_ion_moment_is r h.transmission reference (subst (λ (n : ℕ). n < 2 ^ 32) f.says.0 (are.is_value f.part f.here).stamp) at);
      content = subst IsIonContent (sym h.content) content_is;
    }
item_ranges r (GalIon content) members before behind (IonItem e) reference are first second h =
    let f = h.first.here in
    let has = are.has f.part f.here in
    let at = transmission_value members h.transmission are.is_value f in
    let content_is : IsIonContent (OfGalContent content) = gal_ion_ranges f.part.sat f.part.body content has.body (are.of_key f.part f.here) in
    record {
      sat = subst IsRanged (f.says.1 ∙ sym h.sat) has.sat;
      moment = subst IsMoment (sym h.moment) (gal_ion_moment_is r h.transmission reference at);
      content = subst IsIonContent (sym h.content) content_is;
    }
item_ranges r key members before behind item reference are first second h = absurd h

-- the item of a complete period of parts whose fields are within their widths in bits
pub period_ranges : (r w : ℕ) (parts : Part → Type 0) (c : Closed) (item : NavItem) → IsReference r
    → ((p : Part) → parts p → IsPartValue p) → ((p : Part) → parts p → HasPartRanges p)
    → IsClosed r w parts c → c.verdict ≡ Whole item → HasRanges item
period_ranges r w parts c item reference values ranges h e =
    let q = closed_place c in
    let f = whole_item (Repeats r w parts q) h.verdict.finding item c.verdict h.verdict.judged e in
    item_ranges r q.key (IsMember w parts q) (IsUpToEnd w parts q.key q.end) (IsBehindEnd w parts q.key q.end) item reference
    (record { of_key = λ p m. m.of_key; has = λ p m. ranges p m.here; is_value = λ p m. values p m.here })
    (λ v b. before_value w parts q.key q.end v values b) (λ v b. behind_value w parts q.key q.end v values b)
    (subst (λ (x : Finding). IsFound r w parts q x) f h.verdict.found)
