-- One slot whose parts are received at any seconds of its first two hours, each at least once: its periods and their items.
use Rattle.std.proofs.Common.{◌≡◌, ℕ, ◌+◌, ◌*◌, ◌<◌, ◌≤◌, ◌⊎◌, inl, inr, pos, ◌-ℤ◌, Bool, if◌then◌else◌, List, [], ◌∷◌, ◌++◌, Option, None, Some, Contains, refl, sym, ap, subst, ◌∙◌, arith}
use Rattle.std.proofs.lemmas.Bool.{cases_lt}
use Rattle.nav_eph.specs.Weeks.{week_of}
use Rattle.nav_eph.specs.Functions.{galileo_week_to, gps_week_to, moment_near}
use Rattle.nav_eph.proofs.Surface.{galileo_number-means, gps_number-means}
use Rattle.nav_eph.specs.Satellite.{Satellite}
use Rattle.nav_eph.specs.Items.{galileo_toe_moment}
use Rattle.nav_eph.specs.declared.gps.GpsClock.{GpsClock}
use Rattle.nav_eph.specs.declared.gps.GpsSide.{GpsSide}
use Rattle.nav_eph.specs.declared.gps.GpsOrbitA.{GpsOrbitA}
use Rattle.nav_eph.specs.declared.gps.GpsOrbitB.{GpsOrbitB}
use Rattle.nav_eph.specs.declared.galileo.GalWord1.{GalWord1}
use Rattle.nav_eph.specs.declared.galileo.GalWord2.{GalWord2}
use Rattle.nav_eph.specs.declared.galileo.GalWord3.{GalWord3}
use Rattle.nav_eph.specs.declared.galileo.GalWord4.{GalWord4}
use Rattle.nav_eph.specs.declared.galileo.GalHealth.{GalHealth}
use Rattle.nav_eph.specs.declared.tag.SentTag.{SentTag}
use Rattle.nav_eph.specs.declared.tag.SentTag.TheVariants.{Sent}
use Rattle.nav_eph.specs.declared.part.Part.{Part}
use Rattle.nav_eph.specs.declared.part.Body.{Body}
use Rattle.nav_eph.specs.declared.part.Body.TheVariants.{GpsClock as OfClock, GpsA as OfOrbitA, GpsB as OfOrbitB, GalW1 as OfWord1, GalW2 as OfWord2, GalW3 as OfWord3, GalW4 as OfWord4, GalHealth as OfHealth, GalIon as OfGalIon}
use Rattle.nav_eph.specs.declared.items.SentSecond.TheVariants.{At}
use Rattle.nav_eph.specs.declared.items.GpsEph.{GpsEph}
use Rattle.nav_eph.specs.declared.items.GalEph.{GalEph}
use Rattle.nav_eph.specs.declared.items.NavItem.{NavItem}
use Rattle.nav_eph.specs.declared.items.NavItem.TheVariants.{Gps as GpsItem, Gal as GalItem, Ion as IonItem}
use Rattle.periods.specs.declared.key.PeriodKey.{PeriodKey}
use Rattle.periods.specs.declared.key.PeriodKey.TheVariants.{Gps, Gal}
use Rattle.periods.specs.declared.key.PeriodId.{PeriodId}
use Rattle.periods.specs.declared.key.Transmission.{Transmission}
use Rattle.periods.specs.declared.closed.Finding.{Finding}
use Rattle.periods.specs.declared.closed.Finding.TheVariants.{Differs, Misses, LacksHealth, Complete}
use Rattle.periods.specs.declared.closed.Verdict.TheVariants.{Whole}
use Rattle.periods.specs.declared.closed.Closed.{Closed}
use Rattle.periods.specs.Ends.{IsEnd}
use Rattle.periods.specs.Items.{gal_moment, gps_moment, sent_second, toe_week_of}
use Rattle.periods.specs.Parts.{Kind, Clock, OrbitA, OrbitB, Word1, Word2, Word3, Word4, Side, FitFlag, TransmissionTag, IonTransmission, HealthOf, Value, HasValue, key_in, key_of}
use Rattle.periods.specs.Readings.{reading_in, same_sat}
use Rattle.periods.specs.Periods.{IsBefore, IsReceivedAt, IsMember, IsPeriod}
use Rattle.periods.specs.PeriodLists.{IsAscending, items_in}
use Rattle.periods.specs.PeriodsOf.{end_place, finding_at}
use Rattle.periods.specs.Verdicts.{IsComplete, IsFound, IsOfEphemeris, closed_place}
use Rattle.periods.proofs.Surface.{In, In-from_contains, contains_from_In, covered, finding_at-is, is-same_sat, known_parts, none_some, reading_of, some_is}
use Rattle.sent_captures.specs.Slots.{galileo_second, galileo_week_number, gps_second, gps_transmission, gps_week_number, no_ionosphere}
use Rattle.sent_captures.specs.SentItems.{as_sent, ionosphere_with}
use Rattle.nav_laws.specs.SentAgain.{IsIonosphere, IsWord}
use Rattle.nav_laws.specs.SlotParts.{parts_at}
use Rattle.nav_laws.proofs.Slots.{IsSentGal, IsSentGps, gal_key, gps_key, ion_item, ion_key, sent_is, toe_week_is, IsSent, key_of_item}

-- ---- what is sent in a slot, without time tags

abbrev pub sat_of : NavItem → Satellite
sat_of (GpsItem e) = e.sat
sat_of (GalItem e) = e.sat
sat_of (IonItem e) = e.sat

abbrev pub gps_tag : GpsEph → SentTag
gps_tag e = Sent (gps_week_number e) (gps_transmission e)

abbrev pub gal_tag : GalEph → SentTag
gal_tag e = Sent (galileo_week_number e) (galileo_second e)

abbrev pub bodies_of : NavItem → List Body
bodies_of (GpsItem e) = OfClock e.clock e.side (gps_tag e) ∷ OfOrbitA e.a e.fit ∷ OfOrbitB e.b ∷ []
bodies_of (GalItem e) =
    OfWord1 e.w1 ∷ OfWord2 e.w2 ∷ OfWord3 e.w3 ∷ OfWord4 e.w4
    ∷ OfHealth e.health (gal_tag e) ∷ OfGalIon no_ionosphere (galileo_week_number e) (galileo_second e) ∷ []
bodies_of (IonItem e) = []

-- the parts are of this satellite and these contents, each at least once, within two hours
pub record AreOfSlot (s : ℕ) (sat : Satellite) (bodies : List Body) (parts : List Part) : Type 0 where
  pub sat_is : (p : Part) → In parts p → p.sat ≡ sat
  pub body : (p : Part) → In parts p → In bodies p.body
  pub low : (p : Part) → In parts p → s ≤ p.stamp
  pub high : (p : Part) → In parts p → p.stamp ≤ s + 7200
  pub every : (b : Body) → In bodies b → (p : Part) × In parts p × (p.body ≡ b)

pub body_at : (s : ℕ) (x : NavItem) (q : Part) → In (parts_at s x) q → (q.sat ≡ sat_of x) × In (bodies_of x) q.body
body_at s (GpsItem e) q (inl is) = (ap (λ (z : Part). z.sat) (sym is), inl (ap (λ (z : Part). z.body) is))
body_at s (GpsItem e) q (inr (inl is)) = (ap (λ (z : Part). z.sat) (sym is), inr (inl (ap (λ (z : Part). z.body) is)))
body_at s (GpsItem e) q (inr (inr (inl is))) = (ap (λ (z : Part). z.sat) (sym is), inr (inr (inl (ap (λ (z : Part). z.body) is))))
body_at s (GpsItem e) q (inr (inr (inr is))) = absurd is
body_at s (GalItem e) q (inl is) = (ap (λ (z : Part). z.sat) (sym is), inl (ap (λ (z : Part). z.body) is))
body_at s (GalItem e) q (inr (inl is)) = (ap (λ (z : Part). z.sat) (sym is), inr (inl (ap (λ (z : Part). z.body) is)))
body_at s (GalItem e) q (inr (inr (inl is))) = (ap (λ (z : Part). z.sat) (sym is), inr (inr (inl (ap (λ (z : Part). z.body) is))))
body_at s (GalItem e) q (inr (inr (inr (inl is)))) = (ap (λ (z : Part). z.sat) (sym is), inr (inr (inr (inl (ap (λ (z : Part). z.body) is)))))
body_at s (GalItem e) q (inr (inr (inr (inr (inl is))))) = (ap (λ (z : Part). z.sat) (sym is), inr (inr (inr (inr (inl (ap (λ (z : Part). z.body) is))))))
body_at s (GalItem e) q (inr (inr (inr (inr (inr (inl is)))))) =
    (ap (λ (z : Part). z.sat) (sym is), inr (inr (inr (inr (inr (inl (ap (λ (z : Part). z.body) is)))))))
body_at s (GalItem e) q (inr (inr (inr (inr (inr (inr is)))))) = absurd is
body_at s (IonItem e) q is = absurd is

pub part_with : (s : ℕ) (x : NavItem) (b : Body) → In (bodies_of x) b → (q : Part) × In (parts_at s x) q × (q.body ≡ b)
part_with s (GpsItem e) b (inl is) = (_, inl refl, is)
part_with s (GpsItem e) b (inr (inl is)) = (_, inr (inl refl), is)
part_with s (GpsItem e) b (inr (inr (inl is))) = (_, inr (inr (inl refl)), is)
part_with s (GpsItem e) b (inr (inr (inr is))) = absurd is
part_with s (GalItem e) b (inl is) = (_, inl refl, is)
part_with s (GalItem e) b (inr (inl is)) = (_, inr (inl refl), is)
part_with s (GalItem e) b (inr (inr (inl is))) = (_, inr (inr (inl refl)), is)
part_with s (GalItem e) b (inr (inr (inr (inl is)))) = (_, inr (inr (inr (inl refl))), is)
part_with s (GalItem e) b (inr (inr (inr (inr (inl is))))) = (_, inr (inr (inr (inr (inl refl)))), is)
part_with s (GalItem e) b (inr (inr (inr (inr (inr (inl is)))))) = (_, inr (inr (inr (inr (inr (inl refl))))), is)
part_with s (GalItem e) b (inr (inr (inr (inr (inr (inr is)))))) = absurd is
part_with s (IonItem e) b is = absurd is

-- ---- values

-- each content, at any stamp, gives only values with P
abbrev AllGive : (k : Kind) → (Value k → Type 0) → Satellite → List Body → Type 0
AllGive k P sat [] = Unit {0}
AllGive k P sat (b ∷ bs) = ((t : ℕ) (w : Value k) → reading_in k t sat b ≡ Some w → P w) × AllGive k P sat bs

given : (k : Kind) (P : Value k → Type 0) (sat : Satellite) (bs : List Body) (t : ℕ) (body : Body) (w : Value k)
    → AllGive k P sat bs → In bs body → reading_in k t sat body ≡ Some w → P w
given k P sat [] t body w all i e = absurd i
given k P sat (b ∷ bs) t body w all (inl is) e = all.0 t w (ap (reading_in k t sat) is ∙ e)
given k P sat (b ∷ bs) t body w all (inr i) e = given k P sat bs t body w all.1 i e

value_is : (k : Kind) (P : Value k → Type 0) (s : ℕ) (sat : Satellite) (bs : List Body) (parts : List Part) (set : Part → Type 0) (w : Value k)
    → AreOfSlot s sat bs parts → AllGive k P sat bs → ((p : Part) → set p → In parts p) → HasValue k set w → P w
value_is k P s sat bs parts set w again all within h =
    let i = within h.part h.here in
    given k P sat bs h.part.stamp h.part.body w all (again.body h.part i)
    (ap (λ (z : Satellite). reading_in k h.part.stamp z h.part.body) (sym (again.sat_is h.part i)) ∙ reading_of k h.part w h.says)

-- a content that gives this value alone, and one that gives none
one : {X : Type 0} (v : X) (t : ℕ) (w : X) → Some v ≡ Some w → w ≡ v
one v t w e = sym (some_is v w e)

none : {X : Type 0} (P : X → Type 0) (t : ℕ) (w : X) → None ≡ Some w → P w
none P t w e = absurd (none_some w e)

-- ---- ends

heard_in : (s : ℕ) (sat : Satellite) (bs : List Body) (parts : List Part) (key : PeriodKey) (t : ℕ) → AreOfSlot s sat bs parts → IsReceivedAt (Contains parts) key t
    → (s ≤ t) × (t ≤ s + 7200)
heard_in s sat bs parts key t again x =
    let i = In-from_contains parts x.part x.here in
    let low = again.low x.part i in
    let high = again.high x.part i in
    (omega (arith, low, x.at_stamp), omega (arith, high, x.at_stamp))

one_end : (s : ℕ) (at : ℕ → Type 0) (e f : ℕ) → ((t : ℕ) → at t → (s ≤ t) × (t ≤ s + 7200)) → IsEnd 7200 at e → IsEnd 7200 at f → e ≡ f
one_end s at e f bounds he hf = elim (cases_lt e f) [
  | inl l ↦ let far = he.quiet f hf.heard l in let be = bounds e he.heard in let bf = bounds f hf.heard in absurd (omega (arith, far, be.0, bf.1))
  | inr g ↦ elim (cases_lt f e) [
    | inl l ↦ let far = hf.quiet e he.heard l in let be = bounds e he.heard in let bf = bounds f hf.heard in absurd (omega (arith, far, bf.0, be.1))
    | inr k ↦ omega (arith, g, k)
  ]
]

-- a key of which a part was received has one period
record IsPeriodOf (s : ℕ) (parts : List Part) (key : PeriodKey) : Type 0 where
  end : ℕ
  from : s ≤ end
  to : end ≤ s + 7200
  period : IsPeriod 7200 (Contains parts) (end_place key end)
  only : (q : PeriodId) → IsPeriod 7200 (Contains parts) q → q.key ≡ key → q ≡ end_place key end
  member : (p : Part) → In parts p → key_of p ≡ Some key → IsMember 7200 (Contains parts) (end_place key end) p

period_of : (s : ℕ) (sat : Satellite) (bs : List Body) (parts : List Part) (key : PeriodKey) (p : Part) → AreOfSlot s sat bs parts → In parts p → key_of p ≡ Some key
    → IsPeriodOf s parts key
period_of s sat bs parts key p again i of_key =
    let at = IsReceivedAt (Contains parts) key in
    let bounds : (t : ℕ) → at t → (s ≤ t) × (t ≤ s + 7200) = λ t x. heard_in s sat bs parts key t again x in
    let end = covered 7200 at (known_parts 7200 parts key) p.stamp (record { part = p; here = contains_from_In parts p i; of_key = of_key; at_stamp = refl }) in
    let is_end = end.1.is_end in
    let within = bounds end.0 is_end.heard in
    record {
      end = end.0;
      from = within.0;
      to = within.1;
      period = is_end;
      only = λ q hq is.
          let moved : IsEnd 7200 at q.end = subst (λ (k : PeriodKey). IsEnd 7200 (IsReceivedAt (Contains parts) k) q.end) is hq in
          let same : q.end ≡ end.0 = one_end s at q.end end.0 bounds moved is_end in
          λ j. record { end = same j; key = is j };
      member = λ q iq kq. record {
        here = contains_from_In parts q iq;
        of_key = kq;
        ends = record {
          is_end = is_end;
          after = elim (cases_lt end.0 q.stamp) [
            | inl l ↦
                let far = is_end.quiet q.stamp (record { part = q; here = contains_from_In parts q iq; of_key = kq; at_stamp = refl }) l in
                let high = again.high q iq in
                absurd (omega (arith, far, high, within.0))
            | inr g ↦ g
          ];
          first = λ other io l. let same = one_end s at other end.0 bounds io is_end in omega (arith, same);
        };
      };
    }

-- the key of a part
key_at : (s : ℕ) (sat : Satellite) (bs : List Body) (parts : List Part) (p : Part) → AreOfSlot s sat bs parts → In parts p → key_of p ≡ key_in sat p.body
key_at s sat bs parts p again i = ap (λ (z : Satellite). key_in z p.body) (again.sat_is p i)

-- a period whose every finding is the item is complete with it
complete_by : (r : ℕ) (parts : List Part) (key : PeriodKey) (e : ℕ) (item : NavItem) → IsPeriod 7200 (Contains parts) (end_place key e)
    → ((f : Finding) → IsFound r 7200 (Contains parts) (end_place key e) f → f ≡ Complete item)
    → IsComplete r 7200 (Contains parts) key e item
complete_by r parts key e item period is =
    let found = finding_at-is r 7200 parts (end_place key e) period in
    record {
      period = period;
      found = subst (λ (f : Finding). IsFound r 7200 (Contains parts) (end_place key e) f) (is (finding_at r 7200 parts (end_place key e)) found) found;
    }

-- ---- GPS

gps_keys : (r : ℕ) (e : GpsEph) (b : Body) → IsSentGps r e → In (bodies_of (GpsItem e)) b → key_in e.sat b ≡ Some (gps_key e)
gps_keys r e b h (inl is) = ap (key_in e.sat) (sym is) ∙ ap (λ i. Some (Gps e.sat i)) h.issue
gps_keys r e b h (inr (inl is)) = ap (key_in e.sat) (sym is)
gps_keys r e b h (inr (inr (inl is))) = ap (key_in e.sat) (sym is) ∙ ap (λ i. Some (Gps e.sat i)) (sym h.item.whole.issue)
gps_keys r e b h (inr (inr (inr is))) = absurd is

-- the values of the members of a GPS period
record GpsValues (e : GpsEph) (members : Part → Type 0) : Type 0 where
  clock : (w : GpsClock) → HasValue Clock members w → w ≡ e.clock
  a : (w : GpsOrbitA) → HasValue OrbitA members w → w ≡ e.a
  b : (w : GpsOrbitB) → HasValue OrbitB members w → w ≡ e.b
  side : (w : ℕ × GpsSide) → HasValue Side members w → w.1 ≡ e.side
  fit : (w : ℕ × ℕ) → HasValue FitFlag members w → w.1 ≡ e.fit
  tag : (w : ℕ × SentTag) → HasValue TransmissionTag members w → w.1 ≡ gps_tag e
  has_clock : HasValue Clock members e.clock
  has_a : HasValue OrbitA members e.a
  has_b : HasValue OrbitB members e.b
  has_tag : (w : ℕ × SentTag) × HasValue TransmissionTag members w

gps_values : (r s : ℕ) (e : GpsEph) (parts : List Part) (members : Part → Type 0) → IsSentGps r e → AreOfSlot s e.sat (bodies_of (GpsItem e)) parts
    → ((p : Part) → members p → In parts p) → ((p : Part) → In parts p → key_of p ≡ Some (gps_key e) → members p) → GpsValues e members
gps_values r s e parts members h again within has =
    let bs = bodies_of (GpsItem e) in
    let member : (p : Part) → In parts p → members p = λ p i. has p i (key_at s e.sat bs parts p again i ∙ gps_keys r e p.body h (again.body p i)) in
    let clock = again.every (OfClock e.clock e.side (gps_tag e)) (inl refl) in
    let a = again.every (OfOrbitA e.a e.fit) (inr (inl refl)) in
    let b = again.every (OfOrbitB e.b) (inr (inr (inl refl))) in
    let only : (k : Kind) (P : Value k → Type 0) → AllGive k P e.sat bs → (w : Value k) → HasValue k members w → P w =
    λ k P all w v. value_is k P s e.sat bs parts members w again all within v in
    record {
      clock = only Clock (λ x. x ≡ e.clock) (one e.clock, (none _, (none _, tt)));
      a = only OrbitA (λ x. x ≡ e.a) (none _, (one e.a, (none _, tt)));
      b = only OrbitB (λ x. x ≡ e.b) (none _, (none _, (one e.b, tt)));
      side = only Side (λ x. x.1 ≡ e.side) ((λ t x k. ap (λ (z : ℕ × GpsSide). z.1) (one (t, e.side) t x k)), (none _, (none _, tt)));
      fit = only FitFlag (λ x. x.1 ≡ e.fit) (none _, ((λ t x k. ap (λ (z : ℕ × ℕ). z.1) (one (t, e.fit) t x k)), (none _, tt)));
      tag = only TransmissionTag (λ x. x.1 ≡ gps_tag e) ((λ t x k. ap (λ (z : ℕ × SentTag). z.1) (one (t, gps_tag e) t x k)), (none _, (none _, tt)));
      has_clock = record { part = clock.0; here = member clock.0 clock.1; says = (e.side, gps_tag e, clock.2) };
      has_a = record { part = a.0; here = member a.0 a.1; says = (e.fit, a.2) };
      has_b = record { part = b.0; here = member b.0 b.1; says = b.2 };
      has_tag = (
        (clock.0.stamp, gps_tag e),
        record { part = clock.0; here = member clock.0 clock.1; says = (e.clock, e.side, gps_week_number e, gps_transmission e, clock.2, refl) },
      );
    }

-- the week of toe and the transmission time that the tag gives
gps_week_is : (r : ℕ) (e : GpsEph) → IsSentGps r e → toe_week_of (gps_moment r (gps_tag e)) (gps_second e) ≡ e.toe_week
gps_week_is r e h =
    let small : gps_second e < 604800 = omega (arith, h.item.ranges.a.toe) in
    let low : gps_transmission e ≤ gps_second e = omega arith in
    let high : gps_second e < gps_transmission e + 6 = omega arith in
    let means : e.toe_week ≡ gps_week_to r (gps_week_number e) = sym (gps_number-means r e.toe_week h.near) in
    sym (toe_week_is e.toe_week (gps_transmission e) (gps_second e) small low high
    ∙ ap (λ z. week_of (moment_near (604800 * z + gps_transmission e) (gps_second e))) means)

gps_sent_is : (r : ℕ) (e : GpsEph) → IsSentGps r e → sent_second (gps_tag e) (gps_moment r (gps_tag e)) e.toe_week ≡ At (pos (gps_transmission e))
gps_sent_is r e h =
    let means : e.toe_week ≡ gps_week_to r (gps_week_number e) = sym (gps_number-means r e.toe_week h.near) in
    sym (sent_is e.toe_week (gps_transmission e) ∙ ap (λ z. At (pos (604800 * z + gps_transmission e) -ℤ pos (604800 * e.toe_week))) means)

gps_finding : (r s : ℕ) (e : GpsEph) (parts : List Part) (end : ℕ) (f : Finding) → IsSentGps r e
    → GpsValues e (IsMember 7200 (Contains parts) (end_place (gps_key e) end))
    → IsFound r 7200 (Contains parts) (end_place (gps_key e) end) f → f ≡ Complete (as_sent (GpsItem e))
gps_finding r s e parts end Differs h v (inl d) = absurd (d.differ (v.clock d.one d.one_here ∙ sym (v.clock d.other d.other_here)))
gps_finding r s e parts end Differs h v (inr (inl d)) = absurd (d.differ (v.a d.one d.one_here ∙ sym (v.a d.other d.other_here)))
gps_finding r s e parts end Differs h v (inr (inr d)) = absurd (d.differ (v.b d.one d.one_here ∙ sym (v.b d.other d.other_here)))
gps_finding r s e parts end Misses h v f = elim f.1 [
  | inl m ↦ absurd (m e.clock v.has_clock)
  | inr o ↦ elim o [ inl m ↦ absurd (m e.a v.has_a) | inr m ↦ absurd (m e.b v.has_b) ]
]
gps_finding r s e parts end LacksHealth h v f = absurd f.2
gps_finding r s e parts end (Complete (GpsItem g)) h v f =
    let clock = v.clock g.clock f.clock.here in
    let a = v.a g.a f.a.here in
    let b = v.b g.b f.b.here in
    let side : g.side ≡ e.side = v.side (f.side_stamp, g.side) f.side.here in
    let fit : g.fit ≡ e.fit = v.fit (f.fit_stamp, g.fit) f.fit.here in
    let tag : f.tag.1 ≡ gps_tag e = elim f.tag_is [
      | inl first ↦ v.tag f.tag first.here
      | inr none ↦ absurd (none.0 v.has_tag.0 v.has_tag.1)
    ] in
    let week : g.toe_week ≡ e.toe_week =
    f.toe_week ∙ ap (λ (z : SentTag). toe_week_of (gps_moment r z) (16 * g.a.toe)) tag
    ∙ ap (λ (z : GpsOrbitA). toe_week_of (gps_moment r (gps_tag e)) (16 * z.toe)) a ∙ gps_week_is r e h in
    let sent : g.sent ≡ At (pos (gps_transmission e)) =
    f.sent ∙ ap (λ (z : SentTag). sent_second z (gps_moment r z) g.toe_week) tag
    ∙ ap (λ z. sent_second (gps_tag e) (gps_moment r (gps_tag e)) z) week ∙ gps_sent_is r e h in
    let sat : g.sat ≡ e.sat = f.sat in
    λ i. Complete (GpsItem (record { sat = sat i; clock = clock i; side = side i; a = a i; fit = fit i; b = b i; toe_week = week i; sent = sent i }))
gps_finding r s e parts end (Complete (GalItem g)) h v f = absurd f
gps_finding r s e parts end (Complete (IonItem g)) h v f = absurd f

-- ---- Galileo

abbrev GalKeys : GalEph → Option PeriodKey → Type 0
GalKeys e k = (k ≡ Some (gal_key e)) ⊎ ((k ≡ None) ⊎ (k ≡ Some ion_key))

gal_keys : (r : ℕ) (e : GalEph) (b : Body) → IsSentGal r e → In (bodies_of (GalItem e)) b → GalKeys e (key_in e.sat b)
gal_keys r e b h (inl is) = inl (ap (key_in e.sat) (sym is))
gal_keys r e b h (inr (inl is)) = inl (ap (key_in e.sat) (sym is) ∙ ap (λ i. Some (Gal e.sat i)) h.item.whole.issue2)
gal_keys r e b h (inr (inr (inl is))) = inl (ap (key_in e.sat) (sym is) ∙ ap (λ i. Some (Gal e.sat i)) h.item.whole.issue3)
gal_keys r e b h (inr (inr (inr (inl is)))) = inl (ap (key_in e.sat) (sym is) ∙ ap (λ i. Some (Gal e.sat i)) h.item.whole.issue4)
gal_keys r e b h (inr (inr (inr (inr (inl is))))) = inr (inl (ap (key_in e.sat) (sym is)))
gal_keys r e b h (inr (inr (inr (inr (inr (inl is)))))) = inr (inr (ap (key_in e.sat) (sym is)))
gal_keys r e b h (inr (inr (inr (inr (inr (inr is)))))) = absurd is

keys_differ : (e : GalEph) → Some ion_key ≡ Some (gal_key e) → ⊥
keys_differ e is = let same = some_is ion_key (gal_key e) is in cc

-- the contents of either key
word_of_key : (e : GalEph) (b : Body) → In (bodies_of (GalItem e)) b → key_in e.sat b ≡ Some (gal_key e) → IsWord b
word_of_key e b (inl is) k = subst IsWord is tt
word_of_key e b (inr (inl is)) k = subst IsWord is tt
word_of_key e b (inr (inr (inl is))) k = subst IsWord is tt
word_of_key e b (inr (inr (inr (inl is)))) k = subst IsWord is tt
word_of_key e b (inr (inr (inr (inr (inl is))))) k = absurd (none_some (gal_key e) (ap (key_in e.sat) is ∙ k))
word_of_key e b (inr (inr (inr (inr (inr (inl is)))))) k = absurd (keys_differ e (ap (key_in e.sat) is ∙ k))
word_of_key e b (inr (inr (inr (inr (inr (inr is)))))) k = absurd is

ion_of_key : (r : ℕ) (e : GalEph) (b : Body) → IsSentGal r e → In (bodies_of (GalItem e)) b → key_in e.sat b ≡ Some ion_key → IsIonosphere b
ion_of_key r e b h (inl is) k = absurd (keys_differ e (sym (ap (key_in e.sat) is ∙ k)))
ion_of_key r e b h (inr (inl is)) k = absurd (keys_differ e (sym (ap (λ i. Some (Gal e.sat i)) (sym h.item.whole.issue2) ∙ ap (key_in e.sat) is ∙ k)))
ion_of_key r e b h (inr (inr (inl is))) k = absurd (keys_differ e (sym (ap (λ i. Some (Gal e.sat i)) (sym h.item.whole.issue3) ∙ ap (key_in e.sat) is ∙ k)))
ion_of_key r e b h (inr (inr (inr (inl is)))) k = absurd (keys_differ e (sym (ap (λ i. Some (Gal e.sat i)) (sym h.item.whole.issue4) ∙ ap (key_in e.sat) is ∙ k)))
ion_of_key r e b h (inr (inr (inr (inr (inl is))))) k = absurd (none_some ion_key (ap (key_in e.sat) is ∙ k))
ion_of_key r e b h (inr (inr (inr (inr (inr (inl is)))))) k = subst IsIonosphere is tt
ion_of_key r e b h (inr (inr (inr (inr (inr (inr is)))))) k = absurd is

-- the values of the members of a Galileo period
record GalValues (e : GalEph) (members : Part → Type 0) : Type 0 where
  w1 : (w : GalWord1) → HasValue Word1 members w → w ≡ e.w1
  w2 : (w : GalWord2) → HasValue Word2 members w → w ≡ e.w2
  w3 : (w : GalWord3) → HasValue Word3 members w → w ≡ e.w3
  w4 : (w : GalWord4) → HasValue Word4 members w → w ≡ e.w4
  has1 : HasValue Word1 members e.w1
  has2 : HasValue Word2 members e.w2
  has3 : HasValue Word3 members e.w3
  has4 : HasValue Word4 members e.w4

gal_values : (r s : ℕ) (e : GalEph) (parts : List Part) (members : Part → Type 0) → IsSentGal r e → AreOfSlot s e.sat (bodies_of (GalItem e)) parts
    → ((p : Part) → members p → In parts p) → ((p : Part) → In parts p → key_of p ≡ Some (gal_key e) → members p) → GalValues e members
gal_values r s e parts members h again within has =
    let bs = bodies_of (GalItem e) in
    let p1 = again.every (OfWord1 e.w1) (inl refl) in
    let p2 = again.every (OfWord2 e.w2) (inr (inl refl)) in
    let p3 = again.every (OfWord3 e.w3) (inr (inr (inl refl))) in
    let p4 = again.every (OfWord4 e.w4) (inr (inr (inr (inl refl)))) in
    let key : (p : Part) (b : Body) → In parts p → p.body ≡ b → key_of p ≡ key_in e.sat b =
    λ p b i is. key_at s e.sat bs parts p again i ∙ ap (key_in e.sat) is in
    let only : (k : Kind) (P : Value k → Type 0) → AllGive k P e.sat bs → (w : Value k) → HasValue k members w → P w =
    λ k P all w v. value_is k P s e.sat bs parts members w again all within v in
    record {
      w1 = only Word1 (λ x. x ≡ e.w1) (one e.w1, (none _, (none _, (none _, (none _, (none _, tt))))));
      w2 = only Word2 (λ x. x ≡ e.w2) (none _, (one e.w2, (none _, (none _, (none _, (none _, tt))))));
      w3 = only Word3 (λ x. x ≡ e.w3) (none _, (none _, (one e.w3, (none _, (none _, (none _, tt))))));
      w4 = only Word4 (λ x. x ≡ e.w4) (none _, (none _, (none _, (one e.w4, (none _, (none _, tt))))));
      has1 = record { part = p1.0; here = has p1.0 p1.1 (key p1.0 (OfWord1 e.w1) p1.1 p1.2); says = p1.2 };
      has2 = record { part = p2.0; here = has p2.0 p2.1 (key p2.0 (OfWord2 e.w2) p2.1 p2.2 ∙ ap (λ i. Some (Gal e.sat i)) h.item.whole.issue2); says = p2.2 };
      has3 = record { part = p3.0; here = has p3.0 p3.1 (key p3.0 (OfWord3 e.w3) p3.1 p3.2 ∙ ap (λ i. Some (Gal e.sat i)) h.item.whole.issue3); says = p3.2 };
      has4 = record { part = p4.0; here = has p4.0 p4.1 (key p4.0 (OfWord4 e.w4) p4.1 p4.2 ∙ ap (λ i. Some (Gal e.sat i)) h.item.whole.issue4); says = p4.2 };
    }

-- the health that is received in the slot
abbrev Healthy : GalEph → ℕ × GalHealth × SentTag → Type 0
Healthy e w = (w.1 ≡ e.health) × (w.2 ≡ gal_tag e)

health_one : (t : ℕ) (sat : Satellite) (health : GalHealth) (tag : SentTag) (w : ℕ × GalHealth × SentTag)
    → (if same_sat sat sat then Some (t, health, tag) else None) ≡ Some w → w ≡ (t, health, tag)
health_one t sat health tag w e = one (t, health, tag) t w (sym (ap (λ (b : Bool). if b then Some (t, health, tag) else None) (is-same_sat sat)) ∙ e)

health_gives : (e : GalEph) (t : ℕ) (w : ℕ × GalHealth × SentTag)
    → (if same_sat e.sat e.sat then Some (t, e.health, gal_tag e) else None) ≡ Some w → Healthy e w
health_gives e t w k =
    let is = health_one t e.sat e.health (gal_tag e) w k in
    (ap (λ (z : ℕ × GalHealth × SentTag). z.1) is, ap (λ (z : ℕ × GalHealth × SentTag). z.2) is)

health_is : (s : ℕ) (e : GalEph) (parts : List Part) (w : ℕ × GalHealth × SentTag) → AreOfSlot s e.sat (bodies_of (GalItem e)) parts
    → HasValue (HealthOf e.sat) (Contains parts) w → Healthy e w
health_is s e parts w again v =
    value_is (HealthOf e.sat) (Healthy e) s e.sat (bodies_of (GalItem e)) parts (Contains parts) w again
    (none _, (none _, (none _, (none _, (health_gives e, (none _, tt)))))) (λ p i. In-from_contains parts p i) v

gal_week_is : (r : ℕ) (e : GalEph) → IsSentGal r e → toe_week_of (gal_moment r (gal_tag e)) (galileo_second e) ≡ e.toe_week
gal_week_is r e h =
    let t = galileo_second e in
    let small : t < 604800 = omega (arith, h.item.ranges.w1.toe) in
    let means : e.toe_week ≡ galileo_week_to r (galileo_week_number e) = sym (galileo_number-means r e.toe_week h.near) in
    sym (toe_week_is e.toe_week t t small (omega arith) (omega arith) ∙ ap (λ z. week_of (moment_near (604800 * z + t) t)) means)

gal_sent_is : (r : ℕ) (e : GalEph) → IsSentGal r e → sent_second (gal_tag e) (gal_moment r (gal_tag e)) e.toe_week ≡ At (pos (galileo_second e))
gal_sent_is r e h =
    let t = galileo_second e in
    let means : e.toe_week ≡ galileo_week_to r (galileo_week_number e) = sym (galileo_number-means r e.toe_week h.near) in
    sym (sent_is e.toe_week t ∙ ap (λ z. At (pos (604800 * z + t) -ℤ pos (604800 * e.toe_week))) means)

gal_finding : (r s : ℕ) (e : GalEph) (parts : List Part) (end : ℕ) (f : Finding) → IsSentGal r e → AreOfSlot s e.sat (bodies_of (GalItem e)) parts
    → s ≤ end → end ≤ s + 7200 → GalValues e (IsMember 7200 (Contains parts) (end_place (gal_key e) end))
    → IsFound r 7200 (Contains parts) (end_place (gal_key e) end) f → f ≡ Complete (as_sent (GalItem e))
gal_finding r s e parts end Differs h again from to v (inl d) = absurd (d.differ (v.w1 d.one d.one_here ∙ sym (v.w1 d.other d.other_here)))
gal_finding r s e parts end Differs h again from to v (inr (inl d)) = absurd (d.differ (v.w2 d.one d.one_here ∙ sym (v.w2 d.other d.other_here)))
gal_finding r s e parts end Differs h again from to v (inr (inr (inl d))) = absurd (d.differ (v.w3 d.one d.one_here ∙ sym (v.w3 d.other d.other_here)))
gal_finding r s e parts end Differs h again from to v (inr (inr (inr d))) = absurd (d.differ (v.w4 d.one d.one_here ∙ sym (v.w4 d.other d.other_here)))
gal_finding r s e parts end Misses h again from to v f = elim f.1 [
  | inl m ↦ absurd (m e.w1 v.has1)
  | inr o ↦ elim o [
    | inl m ↦ absurd (m e.w2 v.has2)
    | inr o ↦ elim o [ inl m ↦ absurd (m e.w3 v.has3) | inr m ↦ absurd (m e.w4 v.has4) ]
  ]
]
gal_finding r s e parts end LacksHealth h again from to v f =
    let p = again.every (OfHealth e.health (gal_tag e)) (inr (inr (inr (inr (inl refl))))) in
    let heard : HasValue (HealthOf e.sat) (Contains parts) (p.0.stamp, e.health, gal_tag e) =
    record { part = p.0; here = contains_from_In parts p.0 p.1; says = (again.sat_is p.0 p.1, p.2, refl) } in
    let low = again.low p.0 p.1 in
    let high = again.high p.0 p.1 in
    elim (cases_lt end p.0.stamp) [
      | inl l ↦ absurd (f.2.1 (p.0.stamp, e.health, gal_tag e) (record { heard = heard; behind = l; near = omega (arith, high, from) }))
      | inr g ↦ absurd (f.2.0 (p.0.stamp, e.health, gal_tag e) (record { heard = heard; by_end = g; near = omega (arith, low, to) }))
    ]
gal_finding r s e parts end (Complete (GpsItem g)) h again from to v f = absurd f
gal_finding r s e parts end (Complete (GalItem g)) h again from to v f =
    let w1 = v.w1 g.w1 f.w1.here in
    let w2 = v.w2 g.w2 f.w2.here in
    let w3 = v.w3 g.w3 f.w3.here in
    let w4 = v.w4 g.w4 f.w4.here in
    let said : Healthy e f.heard = elim f.received_is [
      | inl first ↦ health_is s e parts f.heard again first.here.heard
      | inr none ↦ health_is s e parts f.heard again none.1.here.heard
    ] in
    let health : g.health ≡ e.health = f.health ∙ said.0 in
    let week : g.toe_week ≡ e.toe_week =
    f.toe_week ∙ ap (λ (z : SentTag). toe_week_of (gal_moment r z) (60 * g.w1.toe)) said.1
    ∙ ap (λ (z : GalWord1). toe_week_of (gal_moment r (gal_tag e)) (60 * z.toe)) w1 ∙ gal_week_is r e h in
    let sent : g.sent ≡ At (pos (galileo_second e)) =
    f.sent ∙ ap (λ (z : SentTag). sent_second z (gal_moment r z) g.toe_week) said.1
    ∙ ap (λ z. sent_second (gal_tag e) (gal_moment r (gal_tag e)) z) week ∙ gal_sent_is r e h in
    let sat : g.sat ≡ e.sat = f.sat in
    λ i. Complete (GalItem (record { sat = sat i; w1 = w1 i; w2 = w2 i; w3 = w3 i; w4 = w4 i; health = health i; toe_week = week i; sent = sent i }))
gal_finding r s e parts end (Complete (IonItem g)) h again from to v f = absurd f

-- the ionosphere
record IsIonSent (e : GalEph) (w : Transmission) : Type 0 where
  sat : w.sat ≡ e.sat
  wn : w.wn ≡ galileo_week_number e
  second : w.second ≡ galileo_second e

ion_gives : (e : GalEph) (t : ℕ) (w : Transmission)
    → Some (record { stamp = t; sat = e.sat; wn = galileo_week_number e; second = galileo_second e }) ≡ Some w → IsIonSent e w
ion_gives e t w k =
    let is = one (record { stamp = t; sat = e.sat; wn = galileo_week_number e; second = galileo_second e }) t w k in
    record { sat = ap (λ (z : Transmission). z.sat) is; wn = ap (λ (z : Transmission). z.wn) is; second = ap (λ (z : Transmission). z.second) is }

ion_is : (s : ℕ) (e : GalEph) (parts : List Part) (members : Part → Type 0) (w : Transmission) → AreOfSlot s e.sat (bodies_of (GalItem e)) parts
    → ((p : Part) → members p → In parts p) → HasValue IonTransmission members w → IsIonSent e w
ion_is s e parts members w again within v =
    value_is IonTransmission (IsIonSent e) s e.sat (bodies_of (GalItem e)) parts members w again
    (none _, (none _, (none _, (none _, (none _, (ion_gives e, tt)))))) within v

ion_finding : (r s : ℕ) (e : GalEph) (parts : List Part) (end : ℕ) (f : Finding) → IsSentGal r e → AreOfSlot s e.sat (bodies_of (GalItem e)) parts
    → IsFound r 7200 (Contains parts) (end_place ion_key end) f → f ≡ Complete (ion_item e)
ion_finding r s e parts end Differs h again f = absurd f
ion_finding r s e parts end Misses h again f = absurd f.1
ion_finding r s e parts end LacksHealth h again f = absurd f.2
ion_finding r s e parts end (Complete (GpsItem g)) h again f = absurd f
ion_finding r s e parts end (Complete (GalItem g)) h again f = absurd f
ion_finding r s e parts end (Complete (IonItem g)) h again f =
    let w = f.transmission in
    let is = ion_is s e parts (IsMember 7200 (Contains parts) (end_place ion_key end)) w again (λ p m. In-from_contains parts p m.here) f.first.here in
    let means : e.toe_week ≡ galileo_week_to r (galileo_week_number e) = sym (galileo_number-means r e.toe_week h.near) in
    let sat : g.sat ≡ e.sat = f.sat ∙ is.sat in
    let moment : g.moment ≡ galileo_toe_moment e =
    f.moment ∙ ap (λ z. 604800 * galileo_week_to r z + w.second) is.wn
    ∙ ap (λ z. 604800 * galileo_week_to r (galileo_week_number e) + z) is.second
    ∙ sym (ap (λ z. 604800 * z + galileo_second e) means) in
    let content = f.content in
    λ i. Complete (IonItem (record { sat = sat i; moment = moment i; content = content i }))

-- ---- a slot

-- a period of the slot other than that of the ephemeris: that of an ionosphere
pub record IsIonPeriod (r : ℕ) (parts : List Part) (c : Closed) : Type 0 where
  pub item : NavItem
  pub period : IsPeriod 7200 (Contains parts) (closed_place c)
  pub found : IsFound r 7200 (Contains parts) (closed_place c) (Complete item)
  pub verdict : c.verdict ≡ Whole item
  pub other : IsOfEphemeris c.key → ⊥

-- an ionosphere was received before a word
pub record AreSwapped (parts : List Part) : Type 0 where
  pub ionosphere : Part
  pub word : Part
  pub ionosphere_here : In parts ionosphere
  pub word_here : In parts word
  pub is_ionosphere : IsIonosphere ionosphere.body
  pub is_word : IsWord word.body
  pub earlier : ionosphere.stamp < word.stamp

-- the periods of a slot: some before that of the ephemeris, that, and some after it
pub record IsSlot (r s : ℕ) (x : NavItem) (parts : List Part) : Type 0 where
  pub key : PeriodKey
  pub of_item : key_of_item x ≡ Some key
  pub eph : IsOfEphemeris key
  pub end : ℕ
  pub from : s ≤ end
  pub to : end ≤ s + 7200
  pub complete : IsComplete r 7200 (Contains parts) key end (as_sent x)
  pub first : List Closed
  pub last : List Closed
  pub first_each : (c : Closed) → In first c → IsIonPeriod r parts c × IsBefore (closed_place c) (end_place key end)
  pub last_each : (c : Closed) → In last c → IsIonPeriod r parts c × IsBefore (end_place key end) (closed_place c)
  pub first_ascending : IsAscending first
  pub last_ascending : IsAscending last
  pub items : items_in first ++ items_in last ≡ ionosphere_with x
  pub order : (items_in first ≡ []) ⊎ AreSwapped parts
  pub cases : (q : PeriodId) → IsPeriod 7200 (Contains parts) q
      → (q ≡ end_place key end) ⊎ (((c : Closed) × In first c × (closed_place c ≡ q)) ⊎ ((c : Closed) × In last c × (closed_place c ≡ q)))
  pub low : (p : Part) → In parts p → s ≤ p.stamp
  pub high : (p : Part) → In parts p → p.stamp ≤ s + 7200

gps_slot : (r s : ℕ) (e : GpsEph) (parts : List Part) → IsSentGps r e → AreOfSlot s e.sat (bodies_of (GpsItem e)) parts → IsSlot r s (GpsItem e) parts
gps_slot r s e parts h again =
    let bs = bodies_of (GpsItem e) in
    let keyed : (p : Part) → In parts p → key_of p ≡ Some (gps_key e) =
    λ p i. key_at s e.sat bs parts p again i ∙ gps_keys r e p.body h (again.body p i) in
    let clock = again.every (OfClock e.clock e.side (gps_tag e)) (inl refl) in
    let p = period_of s e.sat bs parts (gps_key e) clock.0 again clock.1 (keyed clock.0 clock.1) in
    let values = gps_values r s e parts (IsMember 7200 (Contains parts) (end_place (gps_key e) p.end)) h again (λ q m. In-from_contains parts q m.here) p.member in
    record {
      key = gps_key e;
      of_item = refl;
      eph = tt;
      end = p.end;
      from = p.from;
      to = p.to;
      complete = complete_by r parts (gps_key e) p.end (as_sent (GpsItem e)) p.period (λ f found. gps_finding r s e parts p.end f h values found);
      first = [];
      last = [];
      first_each = λ c i. absurd i;
      last_each = λ c i. absurd i;
      first_ascending = tt;
      last_ascending = tt;
      items = refl;
      order = inl refl;
      cases = λ q hq.
          let i = In-from_contains parts hq.heard.part hq.heard.here in
          inl (p.only q hq (some_is q.key (gps_key e) (sym hq.heard.of_key ∙ keyed hq.heard.part i)));
      low = again.low;
      high = again.high;
    }

gal_slot : (r s : ℕ) (e : GalEph) (parts : List Part) → IsSentGal r e → AreOfSlot s e.sat (bodies_of (GalItem e)) parts → IsSlot r s (GalItem e) parts
gal_slot r s e parts h again =
    let bs = bodies_of (GalItem e) in
    let p1 = again.every (OfWord1 e.w1) (inl refl) in
    let p6 = again.every (OfGalIon no_ionosphere (galileo_week_number e) (galileo_second e)) (inr (inr (inr (inr (inr (inl refl)))))) in
    let p = period_of s e.sat bs parts (gal_key e) p1.0 again p1.1 (key_at s e.sat bs parts p1.0 again p1.1 ∙ ap (key_in e.sat) p1.2) in
    let q = period_of s e.sat bs parts ion_key p6.0 again p6.1 (key_at s e.sat bs parts p6.0 again p6.1 ∙ ap (key_in e.sat) p6.2) in
    let values = gal_values r s e parts (IsMember 7200 (Contains parts) (end_place (gal_key e) p.end)) h again (λ t m. In-from_contains parts t m.here) p.member in
    let ion : Closed = record { end = q.end; key = ion_key; verdict = Whole (ion_item e) } in
    let ion_found = complete_by r parts ion_key q.end (ion_item e) q.period (λ f found. ion_finding r s e parts q.end f h again found) in
    let ion_period : IsIonPeriod r parts ion = record { item = ion_item e; period = q.period; found = ion_found.found; verdict = refl; other = λ never. never } in
    let complete = complete_by r parts (gal_key e) p.end (as_sent (GalItem e)) p.period (λ f found. gal_finding r s e parts p.end f h again p.from p.to values found) in
    let cases : (t : PeriodId) → IsPeriod 7200 (Contains parts) t → (t ≡ end_place (gal_key e) p.end) ⊎ (t ≡ end_place ion_key q.end) = λ t ht.
    let i = In-from_contains parts ht.heard.part ht.heard.here in
    let k = key_at s e.sat bs parts ht.heard.part again i in
    elim (gal_keys r e ht.heard.part.body h (again.body ht.heard.part i)) [
      | inl is ↦ inl (p.only t ht (some_is t.key (gal_key e) (sym ht.heard.of_key ∙ k ∙ is)))
      | inr o ↦ elim o [
        | inl is ↦ absurd (none_some t.key (sym is ∙ sym k ∙ ht.heard.of_key))
        | inr is ↦ inr (q.only t ht (some_is t.key ion_key (sym ht.heard.of_key ∙ k ∙ is)))
      ]
    ] in
    let word = p.period.heard in
    let ion_part = q.period.heard in
    let word_in = In-from_contains parts word.part word.here in
    let ion_in = In-from_contains parts ion_part.part ion_part.here in
    let swapped_if : q.end < p.end → AreSwapped parts = λ l. record {
      ionosphere = ion_part.part;
      word = word.part;
      ionosphere_here = ion_in;
      word_here = word_in;
      is_ionosphere = ion_of_key r e ion_part.part.body h (again.body ion_part.part ion_in) (sym (key_at s e.sat bs parts ion_part.part again ion_in) ∙ ion_part.of_key);
      is_word = word_of_key e word.part.body (again.body word.part word_in) (sym (key_at s e.sat bs parts word.part again word_in) ∙ word.of_key);
      earlier = omega (arith, l, word.at_stamp, ion_part.at_stamp);
    } in
    elim (cases_lt q.end p.end) [
      | inl l ↦ record {
        key = gal_key e;
        of_item = refl;
        eph = tt;
        end = p.end;
        from = p.from;
        to = p.to;
        complete = complete;
        first = ion ∷ [];
        last = [];
        first_each = λ c i. elim i [
          | inl is ↦ subst (λ (z : Closed). IsIonPeriod r parts z × IsBefore (closed_place z) (end_place (gal_key e) p.end)) is (ion_period, inl l)
          | inr is ↦ absurd is
        ];
        last_each = λ c i. absurd i;
        first_ascending = (tt, tt);
        last_ascending = tt;
        items = refl;
        order = inr (swapped_if l);
        cases = λ t ht. elim (cases t ht) [ inl is ↦ inl is | inr is ↦ inr (inl (ion, inl refl, sym is)) ];
        low = again.low;
        high = again.high;
      }
      | inr g ↦ record {
        key = gal_key e;
        of_item = refl;
        eph = tt;
        end = p.end;
        from = p.from;
        to = p.to;
        complete = complete;
        first = [];
        last = ion ∷ [];
        first_each = λ c i. absurd i;
        last_each = λ c i. elim i [
          | inl is ↦ subst (λ (z : Closed). IsIonPeriod r parts z × IsBefore (end_place (gal_key e) p.end) (closed_place z)) is (
            ion_period,
            elim (cases_lt p.end q.end) [
              | inl l ↦ inl l
              | inr k ↦ inr (omega (arith, g, k), inl (omega arith))
            ],
          )
          | inr is ↦ absurd is
        ];
        first_ascending = tt;
        last_ascending = (tt, tt);
        items = refl;
        order = inl refl;
        cases = λ t ht. elim (cases t ht) [ inl is ↦ inl is | inr is ↦ inr (inr (ion, inl refl, sym is)) ];
        low = again.low;
        high = again.high;
      }
    ]

pub is_slot : (r s : ℕ) (x : NavItem) (parts : List Part) → IsSent r x → AreOfSlot s (sat_of x) (bodies_of x) parts → IsSlot r s x parts
is_slot r s (GpsItem e) parts h again = gps_slot r s e parts h again
is_slot r s (GalItem e) parts h again = gal_slot r s e parts h again
is_slot r s (IonItem e) parts h again = absurd h
