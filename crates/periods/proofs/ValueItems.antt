-- An item of valid parts is valid: one satellite of the right system, equal issues of data, and times within
-- their ranges.
use Rattle.std.proofs.Common.{◌≡◌, ℕ, ◌+◌, ◌*◌, ◌/◌, ◌^◌, ◌<◌, ◌≤◌, Some, pos, neg_ℤ, ◌-ℤ◌, ◌≤ℤ◌, refl, sym, ap, subst, ◌∙◌, arith}
use Rattle.std.proofs.lemmas.Int.{ints}
use Rattle.nav_eph.specs.Weeks.{IsReference, IsSecond, IsWeek, week_of}
use Rattle.nav_eph.specs.Functions.{gps_week_to, galileo_week_to, moment_near}
use Rattle.nav_eph.proofs.Surface.{moment_near-nearest}
use Rattle.nav_eph.specs.Satellite.{Satellite}
use Rattle.nav_eph.specs.Conditions.{IsPart, wn_of}
use Rattle.nav_eph.specs.Items.{IsSentSecond, content_system}
use Rattle.nav_eph.specs.Ranges.{HasRanges, IsItem as FitsTogether}
use Rattle.nav_eph.specs.declared.sat.System.{System}
use Rattle.nav_eph.specs.declared.sat.System.TheVariants.{Gps as OfGps, Gal as OfGal}
use Rattle.nav_eph.specs.declared.galileo.GalHealth.{GalHealth}
use Rattle.nav_eph.specs.declared.tag.SentTag.{SentTag}
use Rattle.nav_eph.specs.declared.tag.SentTag.TheVariants.{Sent, Toe}
use Rattle.nav_eph.specs.declared.ion.GpsIon.{GpsIon as GpsIonosphere}
use Rattle.nav_eph.specs.declared.ion.GalIon.{GalIon as GalIonosphere}
use Rattle.nav_eph.specs.declared.ion.IonContent.{IonContent}
use Rattle.nav_eph.specs.declared.ion.IonContent.TheVariants.{Gps as OfGpsContent, Gal as OfGalContent}
use Rattle.nav_eph.specs.declared.items.SentSecond.{SentSecond}
use Rattle.nav_eph.specs.declared.items.IonEph.{IonEph}
use Rattle.nav_eph.specs.declared.items.NavItem.{NavItem}
use Rattle.nav_eph.specs.declared.items.NavItem.TheVariants.{Gps as GpsItem, Gal as GalItem, Ion as IonItem}
use Rattle.nav_eph.specs.declared.part.Part.{Part}
use Rattle.nav_eph.specs.declared.part.Body.{Body}
use Rattle.nav_eph.specs.declared.part.Body.TheVariants.{GpsClock as OfClock, GpsA as OfOrbitA, GpsB as OfOrbitB, GalW1 as OfWord1, GalW2 as OfWord2, GalW3 as OfWord3, GalW4 as OfWord4, GalHealth as OfHealth, GpsIon as OfGpsIon, GalIon as OfGalIon}
use Rattle.periods.specs.declared.key.PeriodKey.{PeriodKey}
use Rattle.periods.specs.declared.key.PeriodKey.TheVariants.{Gps, Gal, GpsIon, GalIon}
use Rattle.periods.specs.declared.key.Transmission.{Transmission}
use Rattle.nav_eph.specs.Values.{IsPartValue}
use Rattle.periods.specs.Parts.{key_in, key_of}
use Rattle.periods.specs.Items.{gps_moment, gal_moment, toe_week_of, sent_second, gps_ion_moment, gal_ion_moment, IsIonItemOf}
use Rattle.periods.specs.Verdicts.{IsItemOf}
use Rattle.periods.proofs.Folds.{none_some}
use Rattle.periods.proofs.ValueFindings.{transmission_value}

-- the members are of the key, and each is of a satellite of the right system
pub record AreParts (key : PeriodKey) (members : Part → Type 0) : Type 0 where
  pub of_key : (p : Part) → members p → key_of p ≡ Some key
  pub is_part : (p : Part) → members p → IsPart p.sat p.body
  pub is_value : (p : Part) → members p → IsPartValue p

-- what keys that are the same have in common
gps_satellite : {s t : Satellite} {i j : ℕ} → Some (Gps s i) ≡ Some (Gps t j) → s ≡ t
gps_satellite e = cc

gps_issue : {s t : Satellite} {i j : ℕ} → Some (Gps s i) ≡ Some (Gps t j) → i ≡ j
gps_issue e = cc

gal_satellite : {s t : Satellite} {i j : ℕ} → Some (Gal s i) ≡ Some (Gal t j) → s ≡ t
gal_satellite e = cc

gal_issue : {s t : Satellite} {i j : ℕ} → Some (Gal s i) ≡ Some (Gal t j) → i ≡ j
gal_issue e = cc

system_same : (s t : Satellite) (system : System) → s ≡ t → s.system ≡ system → t.system ≡ system
system_same s t system e h = subst (λ (x : Satellite). x.system ≡ system) e h

-- the satellite of a key is of the key's system
gps_system : (sat : Satellite) (body : Body) (s : Satellite) (issue : ℕ) → key_in sat body ≡ Some (Gps s issue) → IsPart sat body → s.system ≡ OfGps
gps_system sat (OfClock c x t) s issue e p = system_same sat s OfGps (gps_satellite e) p.system
gps_system sat (OfOrbitA o f) s issue e p = system_same sat s OfGps (gps_satellite e) p.system
gps_system sat (OfOrbitB o) s issue e p = system_same sat s OfGps (gps_satellite e) p.system
gps_system sat (OfHealth h t) s issue e p = absurd (none_some (Gps s issue) e)
gps_system sat _ s issue e p = absurd cc

gal_system : (sat : Satellite) (body : Body) (s : Satellite) (issue : ℕ) → key_in sat body ≡ Some (Gal s issue) → IsPart sat body → s.system ≡ OfGal
gal_system sat (OfWord1 w) s issue e p = system_same sat s OfGal (gal_satellite e) p.system
gal_system sat (OfWord2 w) s issue e p = system_same sat s OfGal (gal_satellite e) p.system
gal_system sat (OfWord3 w) s issue e p = system_same sat s OfGal (gal_satellite e) p.system
gal_system sat (OfWord4 w) s issue e p = system_same sat s OfGal (gal_satellite e) p.system
gal_system sat (OfHealth h t) s issue e p = absurd (none_some (Gal s issue) e)
gal_system sat _ s issue e p = absurd cc

gps_ion_system : (sat : Satellite) (body : Body) (content : GpsIonosphere) → key_in sat body ≡ Some (GpsIon content) → IsPart sat body → sat.system ≡ OfGps
gps_ion_system sat (OfGpsIon i n) content e p = p.system
gps_ion_system sat (OfHealth h t) content e p = absurd (none_some (GpsIon content) e)
gps_ion_system sat _ content e p = absurd cc

gal_ion_system : (sat : Satellite) (body : Body) (content : GalIonosphere) → key_in sat body ≡ Some (GalIon content) → IsPart sat body → sat.system ≡ OfGal
gal_ion_system sat (OfGalIon i w n) content e p = p.system
gal_ion_system sat (OfHealth h t) content e p = absurd (none_some (GalIon content) e)
gal_ion_system sat _ content e p = absurd cc

-- the issue of data in a content is the key's
gps_issue_is : (p : Part) (s : Satellite) (body : Body) (issue n : ℕ) → key_of p ≡ Some (Gps s issue) → p.body ≡ body → key_in p.sat body ≡ Some (Gps p.sat n) → n ≡ issue
gps_issue_is p s body issue n e h k = gps_issue (sym k ∙ sym (ap (key_in p.sat) h) ∙ e)

gal_issue_is : (p : Part) (s : Satellite) (body : Body) (issue n : ℕ) → key_of p ≡ Some (Gal s issue) → p.body ≡ body → key_in p.sat body ≡ Some (Gal p.sat n) → n ≡ issue
gal_issue_is p s body issue n e h k = gal_issue (sym k ∙ sym (ap (key_in p.sat) h) ∙ e)

-- ranges of resolved week numbers
pub gps_week_low : (r n : ℕ) → IsReference r → 512 ≤ gps_week_to r n
unfolding gps_week_to
gps_week_low r n reference = omega (arith, reference.0)

pub galileo_week_low : (r n : ℕ) → IsReference r → 1024 ≤ galileo_week_to r n
unfolding galileo_week_to
galileo_week_low r n reference = omega (arith, reference.0)

pub galileo_week_high : (r n : ℕ) → IsReference r → galileo_week_to r n ≤ 10238
unfolding galileo_week_to
galileo_week_high r n reference = omega (arith, reference.1)

-- the transmission time lies near the week of toe
near_week : (t m : ℕ) → t < m + 302400 → m ≤ t + 302400
    → (neg_ℤ (pos 302400) ≤ℤ (pos t -ℤ pos (604800 * (m / 604800)))) × ((pos t -ℤ pos (604800 * (m / 604800))) ≤ℤ pos 907199)
near_week t m h k = (omega (arith, ints), omega (arith, ints))

sent_in_range : (tag : SentTag) (moment second : ℕ) → 604800 ≤ moment → IsSecond second → IsSentSecond (sent_second tag moment (toe_week_of moment second))
sent_in_range (Sent wn s) moment second late small =
    let n = moment_near-nearest moment second late small in near_week moment (moment_near moment second) n.from n.to
sent_in_range (Toe wn s) moment second late small = tt

gps_sent : (r : ℕ) (tag : SentTag) (toe : ℕ) → IsReference r → toe < 37800 → IsSentSecond (sent_second tag (gps_moment r tag) (toe_week_of (gps_moment r tag) (16 * toe)))
gps_sent r tag toe reference small =
    let low : 512 ≤ gps_week_to r (wn_of tag) = gps_week_low r (wn_of tag) reference in
    sent_in_range tag (gps_moment r tag) (16 * toe) (omega arith) (omega arith)

gal_sent : (r : ℕ) (tag : SentTag) (toe : ℕ) → IsReference r → toe < 10080 → IsSentSecond (sent_second tag (gal_moment r tag) (toe_week_of (gal_moment r tag) (60 * toe)))
gal_sent r tag toe reference small =
    let low : 1024 ≤ galileo_week_to r (wn_of tag) = galileo_week_low r (wn_of tag) reference in
    sent_in_range tag (gal_moment r tag) (60 * toe) (omega arith) (omega arith)

-- the week of an ionosphere
gps_ion_week : (r : ℕ) (s : Transmission) → IsReference r → s.stamp < 2 ^ 32 → IsSecond s.second → IsWeek (week_of (gps_ion_moment r s))
gps_ion_week r s reference stamp small =
    let n = moment_near-nearest (604800 * r + s.stamp) s.second (omega (arith, reference.0)) small in
    (omega (arith, reference.0, n.from, n.to), omega (arith, reference.1, n.from, n.to))

gal_ion_week : (r : ℕ) (s : Transmission) → IsReference r → IsSecond s.second → IsWeek (week_of (gal_ion_moment r s))
gal_ion_week r s reference small =
    let low : 1024 ≤ galileo_week_to r s.wn = galileo_week_low r s.wn reference in
    let high : galileo_week_to r s.wn ≤ 10238 = galileo_week_high r s.wn reference in
    (omega arith, omega arith)

-- the transmission time of the item
sent_is : (tag : SentTag) (moment second week : ℕ) (sent : SentSecond) → week ≡ toe_week_of moment second → sent ≡ sent_second tag moment week
    → IsSentSecond (sent_second tag moment (toe_week_of moment second)) → IsSentSecond sent
sent_is tag moment second week sent e f h = subst IsSentSecond (sym (f ∙ ap (λ (w : ℕ). sent_second tag moment w) e)) h

-- an ionosphere is of its satellite's system, and its week is in range
ion_fits : (r : ℕ) (key : PeriodKey) (moment_of : Transmission → ℕ) (said : IonContent) (members : Part → Type 0) (e : IonEph) → AreParts key members → HasRanges (IonItem e)
    → IsIonItemOf moment_of said members e
    → ((p : Part) → key_of p ≡ Some key → IsPart p.sat p.body → p.sat.system ≡ content_system said)
    → ((s : Transmission) → s.stamp < 2 ^ 32 → IsSecond s.second → IsWeek (week_of (moment_of s))) → FitsTogether (IonItem e)
ion_fits r key moment_of said members e are ranges h system week =
    let f = h.first.here in
    record {
      ranges = ranges;
      whole = record {
        system = system_same f.part.sat e.sat (content_system said) (f.says.1 ∙ sym h.sat) (system f.part (are.of_key f.part f.here) (are.is_part f.part f.here))
            ∙ sym (ap content_system h.content);
        week = subst (λ (m : ℕ). IsWeek (week_of m)) (sym h.moment)
            (week h.transmission (subst (λ (n : ℕ). n < 2 ^ 32) f.says.0 (are.is_value f.part f.here).stamp) (transmission_value members h.transmission are.is_value f));
      };
    }

pub item_fits : (r : ℕ) (key : PeriodKey) (members : Part → Type 0) (before behind : ℕ × GalHealth × SentTag → Type 0) (item : NavItem)
    → IsReference r → AreParts key members → HasRanges item → IsItemOf r key members before behind item → FitsTogether item
item_fits r (Gps s issue) members before behind (GpsItem e) reference are ranges h =
    let c = h.clock.here in
    let a = h.a.here in
    let b = h.b.here in
    let a_issue = gps_issue_is a.part s (OfOrbitA e.a a.says.0) issue e.a.iode (are.of_key a.part a.here) a.says.1 refl in
    let b_issue = gps_issue_is b.part s (OfOrbitB e.b) issue e.b.iode (are.of_key b.part b.here) b.says refl in
    record {
      ranges = ranges;
      whole = record {
        system = system_same s e.sat OfGps (sym h.sat) (gps_system c.part.sat c.part.body s issue (are.of_key c.part c.here) (are.is_part c.part c.here));
        issue = a_issue ∙ sym b_issue;
        second = sent_is h.tag.1 (gps_moment r h.tag.1) (16 * e.a.toe) e.toe_week e.sent h.toe_week h.sent (gps_sent r h.tag.1 e.a.toe reference ranges.a.toe);
      };
    }
item_fits r (Gal s issue) members before behind (GalItem e) reference are ranges h =
    let x = h.w1.here in
    let y = h.w2.here in
    let z = h.w3.here in
    let u = h.w4.here in
    let x_issue = gal_issue_is x.part s (OfWord1 e.w1) issue e.w1.iodnav (are.of_key x.part x.here) x.says refl in
    let y_issue = gal_issue_is y.part s (OfWord2 e.w2) issue e.w2.iodnav (are.of_key y.part y.here) y.says refl in
    let z_issue = gal_issue_is z.part s (OfWord3 e.w3) issue e.w3.iodnav (are.of_key z.part z.here) z.says refl in
    let u_issue = gal_issue_is u.part s (OfWord4 e.w4) issue e.w4.iodnav (are.of_key u.part u.here) u.says refl in
    record {
      ranges = ranges;
      whole = record {
        system = system_same s e.sat OfGal (sym h.sat) (gal_system x.part.sat x.part.body s issue (are.of_key x.part x.here) (are.is_part x.part x.here));
        issue2 = y_issue ∙ sym x_issue;
        issue3 = z_issue ∙ sym x_issue;
        issue4 = u_issue ∙ sym x_issue;
        second = sent_is h.heard.2 (gal_moment r h.heard.2) (60 * e.w1.toe) e.toe_week e.sent h.toe_week h.sent (gal_sent r h.heard.2 e.w1.toe reference ranges.w1.toe);
      };
    }
item_fits r (GpsIon content) members before behind (IonItem e) reference are ranges h =
    ion_fits r (GpsIon content) (gps_ion_moment r) (OfGpsContent content) members e are ranges h
    (λ p k is. gps_ion_system p.sat p.body content k is) (λ s stamp second. gps_ion_week r s reference stamp second)
item_fits r (GalIon content) members before behind (IonItem e) reference are ranges h =
    ion_fits r (GalIon content) (gal_ion_moment r) (OfGalContent content) members e are ranges h
    (λ p k is. gal_ion_system p.sat p.body content k is) (λ s stamp second. gal_ion_week r s reference second)
item_fits r key members before behind item reference are ranges h = absurd h
