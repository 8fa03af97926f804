-- The finding of the members' digest with the health near the end is the finding of the members.
use Rattle.std.proofs.Common.{◌≡◌, ℕ, inl, inr, Bool, true, false, ◌||◌, if◌then◌else◌, List, [], ◌∷◌, Option, None, Some, refl}
use Rattle.std.specs.List.{AllByRecursion}
use Rattle.std.proofs.lemmas.Bool.{both_ways, or_cases, or_parts}
use Rattle.nav_eph.specs.Satellite.{Satellite}
use Rattle.nav_eph.specs.declared.gps.GpsClock.{GpsClock}
use Rattle.nav_eph.specs.declared.gps.GpsSide.{GpsSide}
use Rattle.nav_eph.specs.declared.gps.GpsOrbitA.{GpsOrbitA}
use Rattle.nav_eph.specs.declared.gps.GpsOrbitB.{GpsOrbitB}
use Rattle.nav_eph.specs.declared.galileo.GalWord1.{GalWord1}
use Rattle.nav_eph.specs.declared.galileo.GalWord2.{GalWord2}
use Rattle.nav_eph.specs.declared.galileo.GalWord3.{GalWord3}
use Rattle.nav_eph.specs.declared.galileo.GalWord4.{GalWord4}
use Rattle.nav_eph.specs.declared.galileo.GalHealth.{GalHealth}
use Rattle.nav_eph.specs.declared.tag.SentTag.{SentTag}
use Rattle.nav_eph.specs.declared.tag.SentTag.TheVariants.{Sent, Toe}
use Rattle.nav_eph.specs.declared.part.Part.{Part}
use Rattle.nav_eph.specs.declared.part.Body.TheVariants.{GpsClock as OfClock}
use Rattle.periods.specs.declared.key.PeriodKey.{PeriodKey}
use Rattle.periods.specs.declared.key.PeriodKey.TheVariants.{Gps, Gal, GpsIon, GalIon}
use Rattle.periods.specs.declared.closed.Finding.TheVariants.{Differs}
use Rattle.periods.specs.declared.digest.Seen.{Seen}
use Rattle.periods.specs.declared.digest.Seen.TheVariants.{Nothing, One, Different}
use Rattle.periods.specs.declared.digest.GpsDigest.{GpsDigest}
use Rattle.periods.specs.declared.digest.GalDigest.{GalDigest}
use Rattle.periods.specs.declared.digest.Digest.{Digest}
use Rattle.periods.specs.declared.digest.Digest.TheVariants.{Gps as GpsForm, Gal as GalForm, Ion as IonForm}
use Rattle.periods.specs.Values.{IsEmpty, IsOnly, Differ, IsBest, IsEarlier, IsLater}
use Rattle.periods.specs.Parts.{Kind, Clock, OrbitA, OrbitB, Word1, Word2, Word3, Word4, Side, FitFlag, TransmissionTag, ToeTag, Value, HasValue, kinds_of, AnyOf, side_numbers, fit_numbers, tag_numbers}
use Rattle.periods.specs.Items.{IsGpsTag}
use Rattle.periods.specs.Verdicts.{IsContradicted, IsPartial, IsFoundIn}
use Rattle.periods.specs.Digests.{IsSeen, IsGpsDigest, IsGalDigest, IsDigest, IsBestHealth}
use Rattle.periods.specs.DigestsOf.{gps_item, gal_item, digest_finding}
use Rattle.periods.specs.Mirrors.{or_else, seen_differs, seen_only}
use Rattle.periods.proofs.ValueLemmas.{only_agrees, only_there, none_any}

-- the contents seen of some kinds, and whether two of one kind differ
abbrev Judged : (Part → Type 0) → Kind → Type 0
Judged members k = (s : Seen (Value k)) × IsSeen (HasValue k members) s

abbrev Agrees : (Part → Type 0) → Kind → Type 0
Agrees members k = (s : Seen (Value k)) × IsSeen (HasValue k members) s × (seen_differs s ≡ false)

abbrev differ_any : (members : Part → Type 0) (ks : List Kind) → AllByRecursion (Judged members) ks → Bool
differ_any members [] h = false
differ_any members (k ∷ []) h = seen_differs h.0.0
differ_any members (k ∷ l ∷ ks) h = seen_differs h.0.0 || differ_any members (l ∷ ks) h.1

seen_two : {X : Type 0} (values : X → Type 0) (s : Seen X) → IsSeen values s → seen_differs s ≡ true → Differ values
seen_two values Nothing h e = absurd (both_ways false refl e)
seen_two values (One x) h e = absurd (both_ways false refl e)
seen_two values Different h e = h

some_differ : (members : Part → Type 0) (ks : List Kind) (h : AllByRecursion (Judged members) ks) → differ_any members ks h ≡ true → AnyOf (λ k. Differ (HasValue k members)) ks
some_differ members [] h e = absurd (both_ways false refl e)
some_differ members (k ∷ []) h e = seen_two (HasValue k members) h.0.0 h.0.1 e
some_differ members (k ∷ l ∷ ks) h e = elim (or_cases (seen_differs h.0.0) (differ_any members (l ∷ ks) h.1) e) [
  | inl d ↦ inl (seen_two (HasValue k members) h.0.0 h.0.1 d)
  | inr d ↦ inr (some_differ members (l ∷ ks) h.1 d)
]

none_differ : (members : Part → Type 0) (ks : List Kind) (h : AllByRecursion (Judged members) ks) → differ_any members ks h ≡ false → AllByRecursion (Agrees members) ks
none_differ members [] h e = tt
none_differ members (k ∷ []) h e = ((h.0.0, h.0.1, e), tt)
none_differ members (k ∷ l ∷ ks) h e =
    let p = or_parts (seen_differs h.0.0) (differ_any members (l ∷ ks) h.1) e in
    ((h.0.0, h.0.1, p.0), none_differ members (l ∷ ks) h.1 p.1)

-- the only value, or none
abbrev IsOne : {X : Type 0} → (X → Type 0) → Option X → Type 0
IsOne values None = IsEmpty values
IsOne values (Some x) = IsOnly values x

seen_one : {X : Type 0} (values : X → Type 0) (s : Seen X) → IsSeen values s → seen_differs s ≡ false → IsOne values (seen_only s)
seen_one values Nothing h e = h
seen_one values (One x) h e = h
seen_one values Different h e = absurd (both_ways true e refl)

one_agrees : {X : Type 0} (values : X → Type 0) (o : Option X) → IsOne values o → Differ values → ⊥
one_agrees values None h d = h d.one d.one_here
one_agrees values (Some x) h d = only_agrees values x h d

agree : (key : PeriodKey) (members : Part → Type 0) → AllByRecursion (Agrees members) (kinds_of key) → IsContradicted key members → ⊥
agree key members h =
    none_any _ _ (kinds_of key) (λ k a d. one_agrees (HasValue k members) (seen_only a.0) (seen_one (HasValue k members) a.0 a.1 a.2) d) h

-- a clock comes with SV status and a tag, subframe 2 with the fit interval flag
has_side : (members : Part → Type 0) (clock : GpsClock) → HasValue Clock members clock → IsEmpty (HasValue Side members) → ⊥
has_side members clock h none =
    none (h.part.stamp, h.says.0) (record { part = h.part; here = h.here; says = (clock, h.says.1, h.says.2, refl) })

has_tag : (members : Part → Type 0) (clock : GpsClock) → HasValue Clock members clock → IsEmpty (HasValue TransmissionTag members) → IsEmpty (HasValue ToeTag members) → ⊥
has_tag members clock h none nor = named h.says.1 h.says.2
  where
    named : (tag : SentTag) → h.part.body ≡ OfClock clock h.says.0 tag → ⊥
    named (Sent wn second) e =
        none (h.part.stamp, Sent wn second) (record { part = h.part; here = h.here; says = (clock, h.says.0, wn, second, e, refl) })
    named (Toe wn second) e =
        nor (h.part.stamp, Toe wn second) (record { part = h.part; here = h.here; says = (clock, h.says.0, wn, second, e, refl) })

has_fit : (members : Part → Type 0) (orbit : GpsOrbitA) → HasValue OrbitA members orbit → IsEmpty (HasValue FitFlag members) → ⊥
has_fit members orbit h none = none (h.part.stamp, h.says.0) (record { part = h.part; here = h.here; says = (orbit, h.says.1, refl) })

-- the tag of GPS, or none
abbrev IsBestTag : (Part → Type 0) → Option (ℕ × SentTag) → Type 0
IsBestTag members None = IsEmpty (HasValue TransmissionTag members) × IsEmpty (HasValue ToeTag members)
IsBestTag members (Some t) = IsGpsTag members t

best_tag : (members : Part → Type 0) (sent toe : Option (ℕ × SentTag))
    → IsBest (IsEarlier tag_numbers) (HasValue TransmissionTag members) sent → IsBest (IsEarlier tag_numbers) (HasValue ToeTag members) toe
    → IsBestTag members (or_else sent toe)
best_tag members None None h k = (h, k)
best_tag members None (Some t) h k = inr (h, k)
best_tag members (Some t) toe h k = inl h

-- GPS
gps_item_at : (r : ℕ) (sat : Satellite) (issue : ℕ) (members : Part → Type 0) (before behind : ℕ × GalHealth × SentTag → Type 0)
    (c : Option GpsClock) (o : Option GpsOrbitA) (q : Option GpsOrbitB) (s : Option (ℕ × GpsSide)) (f : Option (ℕ × ℕ)) (t : Option (ℕ × SentTag))
    → (IsContradicted (Gps sat issue) members → ⊥)
    → IsOne (HasValue Clock members) c → IsOne (HasValue OrbitA members) o → IsOne (HasValue OrbitB members) q
    → IsBest (IsLater side_numbers) (HasValue Side members) s → IsBest (IsLater fit_numbers) (HasValue FitFlag members) f → IsBestTag members t
    → IsFoundIn r (Gps sat issue) members before behind (gps_item r sat c o q s f t)
gps_item_at r sat issue members before behind None o q s f t ok hc ho hq hs hf ht = (ok, inl hc)
gps_item_at r sat issue members before behind (Some c) None q s f t ok hc ho hq hs hf ht = (ok, inr (inl ho))
gps_item_at r sat issue members before behind (Some c) (Some o) None s f t ok hc ho hq hs hf ht = (ok, inr (inr hq))
gps_item_at r sat issue members before behind (Some c) (Some o) (Some q) None f t ok hc ho hq hs hf ht = absurd (has_side members c hc.here hs)
gps_item_at r sat issue members before behind (Some c) (Some o) (Some q) (Some s) None t ok hc ho hq hs hf ht = absurd (has_fit members o ho.here hf)
gps_item_at r sat issue members before behind (Some c) (Some o) (Some q) (Some s) (Some f) None ok hc ho hq hs hf ht = absurd (has_tag members c hc.here ht.0 ht.1)
gps_item_at r sat issue members before behind (Some c) (Some o) (Some q) (Some s) (Some f) (Some t) ok hc ho hq hs hf ht = record {
  sat = refl;
  clock = hc;
  a = ho;
  b = hq;
  side_stamp = s.0;
  side = hs;
  fit_stamp = f.0;
  fit = hf;
  tag = t;
  tag_is = ht;
  toe_week = refl;
  sent = refl;
}

gps_judged : (members : Part → Type 0) (d : GpsDigest) → IsGpsDigest members d → AllByRecursion (Judged members) (Clock ∷ OrbitA ∷ OrbitB ∷ [])
gps_judged members d h = ((d.clock, h.clock), ((d.a, h.a), ((d.b, h.b), tt)))

gps_at : (r : ℕ) (sat : Satellite) (issue : ℕ) (members : Part → Type 0) (before behind : ℕ × GalHealth × SentTag → Type 0) (d : GpsDigest) → IsGpsDigest members d
    → (t : Bool) → (seen_differs d.clock || (seen_differs d.a || seen_differs d.b)) ≡ t
    → IsFoundIn r (Gps sat issue) members before behind
    (if t then Differs else gps_item r sat (seen_only d.clock) (seen_only d.a) (seen_only d.b) d.side d.fit (or_else d.sent d.toe))
unfolding gps_judged
gps_at r sat issue members before behind d h true e = some_differ members (Clock ∷ OrbitA ∷ OrbitB ∷ []) (gps_judged members d h) e
gps_at r sat issue members before behind d h false e =
    let p = none_differ members (Clock ∷ OrbitA ∷ OrbitB ∷ []) (gps_judged members d h) e in
    let q = or_parts (seen_differs d.clock) (seen_differs d.a || seen_differs d.b) e in
    let s = or_parts (seen_differs d.a) (seen_differs d.b) q.1 in
    gps_item_at r sat issue members before behind (seen_only d.clock) (seen_only d.a) (seen_only d.b) d.side d.fit (or_else d.sent d.toe) (agree (Gps sat issue) members p)
    (seen_one (HasValue Clock members) d.clock h.clock q.0) (seen_one (HasValue OrbitA members) d.a h.a s.0) (seen_one (HasValue OrbitB members) d.b h.b s.1)
    h.side h.fit (best_tag members d.sent d.toe h.sent h.toe)

-- Galileo
gal_item_at : (r : ℕ) (sat : Satellite) (issue : ℕ) (members : Part → Type 0) (before behind : ℕ × GalHealth × SentTag → Type 0)
    (x : Option GalWord1) (y : Option GalWord2) (z : Option GalWord3) (u : Option GalWord4) (health : Option (ℕ × GalHealth × SentTag))
    → (IsContradicted (Gal sat issue) members → ⊥)
    → IsOne (HasValue Word1 members) x → IsOne (HasValue Word2 members) y → IsOne (HasValue Word3 members) z → IsOne (HasValue Word4 members) u
    → IsBestHealth before behind health
    → IsFoundIn r (Gal sat issue) members before behind (gal_item r sat x y z u health)
gal_item_at r sat issue members before behind None y z u health ok hx hy hz hu hh = (ok, inl hx)
gal_item_at r sat issue members before behind (Some x) None z u health ok hx hy hz hu hh = (ok, inr (inl hy))
gal_item_at r sat issue members before behind (Some x) (Some y) None u health ok hx hy hz hu hh = (ok, inr (inr (inl hz)))
gal_item_at r sat issue members before behind (Some x) (Some y) (Some z) None health ok hx hy hz hu hh = (ok, inr (inr (inr hu)))
gal_item_at r sat issue members before behind (Some x) (Some y) (Some z) (Some u) None ok hx hy hz hu hh = (ok, whole, hh)
  where
    whole : IsPartial (Gal sat issue) members → ⊥
    whole = none_any (λ k. (v : Value k) × IsOnly (HasValue k members) v) (λ k. IsEmpty (HasValue k members)) (Word1 ∷ Word2 ∷ Word3 ∷ Word4 ∷ [])
        (λ k o d. only_there (HasValue k members) o.0 o.1 d) ((x, hx), ((y, hy), ((z, hz), ((u, hu), tt))))
gal_item_at r sat issue members before behind (Some x) (Some y) (Some z) (Some u) (Some h) ok hx hy hz hu hh = record {
  sat = refl;
  w1 = hx;
  w2 = hy;
  w3 = hz;
  w4 = hu;
  heard = h;
  received_is = hh;
  health = refl;
  toe_week = refl;
  sent = refl;
}

gal_judged : (members : Part → Type 0) (d : GalDigest) → IsGalDigest members d → AllByRecursion (Judged members) (Word1 ∷ Word2 ∷ Word3 ∷ Word4 ∷ [])
gal_judged members d h = ((d.w1, h.w1), ((d.w2, h.w2), ((d.w3, h.w3), ((d.w4, h.w4), tt))))

gal_at : (r : ℕ) (sat : Satellite) (issue : ℕ) (members : Part → Type 0) (before behind : ℕ × GalHealth × SentTag → Type 0) (d : GalDigest)
    (health : Option (ℕ × GalHealth × SentTag)) → IsGalDigest members d → IsBestHealth before behind health
    → (t : Bool) → (seen_differs d.w1 || (seen_differs d.w2 || (seen_differs d.w3 || seen_differs d.w4))) ≡ t
    → IsFoundIn r (Gal sat issue) members before behind
    (if t then Differs else gal_item r sat (seen_only d.w1) (seen_only d.w2) (seen_only d.w3) (seen_only d.w4) health)
unfolding gal_judged
gal_at r sat issue members before behind d health h hh true e = some_differ members (Word1 ∷ Word2 ∷ Word3 ∷ Word4 ∷ []) (gal_judged members d h) e
gal_at r sat issue members before behind d health h hh false e =
    let p = none_differ members (Word1 ∷ Word2 ∷ Word3 ∷ Word4 ∷ []) (gal_judged members d h) e in
    let q = or_parts (seen_differs d.w1) (seen_differs d.w2 || (seen_differs d.w3 || seen_differs d.w4)) e in
    let s = or_parts (seen_differs d.w2) (seen_differs d.w3 || seen_differs d.w4) q.1 in
    let t = or_parts (seen_differs d.w3) (seen_differs d.w4) s.1 in
    gal_item_at r sat issue members before behind (seen_only d.w1) (seen_only d.w2) (seen_only d.w3) (seen_only d.w4) health (agree (Gal sat issue) members p)
    (seen_one (HasValue Word1 members) d.w1 h.w1 q.0) (seen_one (HasValue Word2 members) d.w2 h.w2 s.0)
    (seen_one (HasValue Word3 members) d.w3 h.w3 t.0) (seen_one (HasValue Word4 members) d.w4 h.w4 t.1) hh

pub digest_finding-is : (r : ℕ) (key : PeriodKey) (members : Part → Type 0) (before behind : ℕ × GalHealth × SentTag → Type 0) (d : Digest)
    (health : Option (ℕ × GalHealth × SentTag)) → IsDigest key members d → IsBestHealth before behind health
    → IsFoundIn r key members before behind (digest_finding r key d health)
digest_finding-is r (Gps sat issue) members before behind (GpsForm d) health h hh =
    gps_at r sat issue members before behind d h (seen_differs d.clock || (seen_differs d.a || seen_differs d.b)) refl
digest_finding-is r (Gal sat issue) members before behind (GalForm d) health h hh =
    gal_at r sat issue members before behind d health h hh (seen_differs d.w1 || (seen_differs d.w2 || (seen_differs d.w3 || seen_differs d.w4))) refl
digest_finding-is r (GpsIon content) members before behind (IonForm s) health h hh = record { content = refl; transmission = s; first = h; sat = refl; moment = refl }
digest_finding-is r (GalIon content) members before behind (IonForm s) health h hh = record { content = refl; transmission = s; first = h; sat = refl; moment = refl }
digest_finding-is r key members before behind d health h hh = absurd h
