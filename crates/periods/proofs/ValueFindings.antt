-- The finding of members and the health near an end: at most one, and the same for equal sets.
use Rattle.std.proofs.Common.{◌≡◌, ℕ, ◌*◌, inl, inr, ◌==◌, List, ◌∷◌, sym, ap, subst, refl, ◌∙◌, eq-eqb}
use Rattle.std.specs.List.{AllByRecursion}
use Rattle.std.proofs.lemmas.Bool.{and_from}
use Rattle.nav_eph.specs.Weeks.{IsSecond}
use Rattle.nav_eph.specs.Satellite.{Satellite, place_of}
use Rattle.nav_eph.specs.Bodies.{IsGpsSide, IsSentTag, IsGalHealth}
use Rattle.nav_eph.specs.declared.gps.GpsSide.{GpsSide}
use Rattle.nav_eph.specs.declared.galileo.GalHealth.{GalHealth}
use Rattle.nav_eph.specs.declared.tag.SentTag.{SentTag}
use Rattle.nav_eph.specs.declared.ion.IonContent.{IonContent}
use Rattle.nav_eph.specs.declared.ion.IonContent.TheVariants.{Gps as OfGps, Gal as OfGal}
use Rattle.nav_eph.specs.declared.items.GpsEph.{GpsEph}
use Rattle.nav_eph.specs.declared.items.GalEph.{GalEph}
use Rattle.nav_eph.specs.declared.items.IonEph.{IonEph}
use Rattle.nav_eph.specs.declared.items.NavItem.{NavItem}
use Rattle.nav_eph.specs.declared.items.NavItem.TheVariants.{Gps as GpsItem, Gal as GalItem, Ion as IonItem}
use Rattle.nav_eph.specs.declared.part.Part.{Part}
use Rattle.nav_eph.proofs.Surface.{one_side, one_tag, one_health, one_transmission}
use Rattle.periods.proofs.EndFacts.{Same, same_sym}
use Rattle.periods.specs.declared.key.PeriodKey.{PeriodKey}
use Rattle.periods.specs.declared.key.PeriodKey.TheVariants.{Gps, Gal, GpsIon, GalIon}
use Rattle.periods.specs.declared.key.Transmission.{Transmission}
use Rattle.periods.specs.declared.closed.Finding.{Finding}
use Rattle.periods.specs.declared.closed.Finding.TheVariants.{Differs, Misses, LacksHealth, Complete}
use Rattle.periods.specs.Values.{IsEmpty, IsOnly, IsFirstBy, IsEarlier, IsLater}
use Rattle.nav_eph.specs.Values.{IsPartValue}
use Rattle.periods.specs.Parts.{Clock, OrbitA, OrbitB, Word1, Word2, Word3, Word4, Side, FitFlag, TransmissionTag, ToeTag, IonTransmission, HealthOf, Value, Says, HasValue, kinds_of, side_numbers, fit_numbers, tag_numbers, health_numbers, transmission_numbers}
use Rattle.nav_eph.specs.Values.{IsBodyValue}
use Rattle.periods.specs.Items.{toe_week_of, gps_moment, gal_moment, sent_second, gps_ion_moment, gal_ion_moment, IsHealth, IsGpsTag, IsGpsItemOf, IsGalItemOf, IsIonItemOf}
use Rattle.periods.specs.Verdicts.{IsContradicted, IsPartial, IsWithoutHealth, IsItemOf, IsFoundIn}
use Rattle.periods.proofs.Orders.{same_numbers}
use Rattle.periods.proofs.KeyLemmas.{same_sat-is}
use Rattle.periods.proofs.ValueLemmas.{same_values, IsEmpty-same, only_same, Differ-same, first_same, IsFirstOrElse-same, only_agrees, only_there, any_same, none_any}

heads : {x y : ℕ} {xs ys : List ℕ} → x ∷ xs ≡ y ∷ ys → x ≡ y
heads e = cc

tails : {x y : ℕ} {xs ys : List ℕ} → x ∷ xs ≡ y ∷ ys → xs ≡ ys
tails e = cc

-- a health and its tag are within their ranges
pub record IsHealthValue (h : ℕ × GalHealth × SentTag) : Type 0 where
  pub health : IsGalHealth h.1
  pub tag : IsSentTag h.2

-- the values of the parts are within their widths in bits
transmission_value-in : (p : Part) (v : Transmission) → IsBodyValue p.body → Says IonTransmission p v → IsSecond v.second
transmission_value-in p v b h = elim h.2 [
  | inl g ↦ (subst IsBodyValue g.1 b).1
  | inr g ↦ (subst IsBodyValue g.1 b).1
]

pub transmission_value : (members : Part → Type 0) (v : Transmission) → ((p : Part) → members p → IsPartValue p) → HasValue IonTransmission members v → IsSecond v.second
transmission_value members v are h = transmission_value-in h.part v (are h.part h.here).body h.says

side_value : (members : Part → Type 0) (v : ℕ × GpsSide) → ((p : Part) → members p → IsPartValue p) → HasValue Side members v → IsGpsSide v.1
side_value members v are h = (subst IsBodyValue h.says.2 (are h.part h.here).body).0

pub sent_value : (members : Part → Type 0) (v : ℕ × SentTag) → ((p : Part) → members p → IsPartValue p) → HasValue TransmissionTag members v → IsSentTag v.1
sent_value members v are h = subst (λ (x : ℕ × SentTag). IsSentTag x.1) (sym h.says.5) (subst IsBodyValue h.says.4 (are h.part h.here).body).1

pub toe_value : (members : Part → Type 0) (v : ℕ × SentTag) → ((p : Part) → members p → IsPartValue p) → HasValue ToeTag members v → IsSentTag v.1
toe_value members v are h = subst (λ (x : ℕ × SentTag). IsSentTag x.1) (sym h.says.5) (subst IsBodyValue h.says.4 (are h.part h.here).body).1

pub health_value : (sat : Satellite) (p : Part) (h : ℕ × GalHealth × SentTag) → IsPartValue p → Says (HealthOf sat) p h → IsHealthValue h
health_value sat p h v says = let b = subst IsBodyValue says.1 v.body in record { health = b.0; tag = b.1 }

-- only values are equal, and so are first values
one_only : {X : Type 0} (values : X → Type 0) (v w : X) → IsOnly values v → IsOnly values w → v ≡ w
one_only values v w h k = k.only v h.here

first_numbers : {X : Type 0} (numbers : X → List ℕ) (values : X → Type 0) (v w : X)
    → IsFirstBy (IsEarlier numbers) values v → IsFirstBy (IsEarlier numbers) values w → numbers v ≡ numbers w
first_numbers numbers values v w h k = same_numbers numbers v w (λ r. k.first v h.here r) (λ r. h.first w k.here r)

last_numbers : {X : Type 0} (numbers : X → List ℕ) (values : X → Type 0) (v w : X)
    → IsFirstBy (IsLater numbers) values v → IsFirstBy (IsLater numbers) values w → numbers v ≡ numbers w
last_numbers numbers values v w h k = same_numbers numbers v w (λ r. h.first w k.here r) (λ r. k.first v h.here r)

one_side_of : (members : Part → Type 0) (v w : ℕ × GpsSide) → ((p : Part) → members p → IsPartValue p)
    → IsFirstBy (IsLater side_numbers) (HasValue Side members) v → IsFirstBy (IsLater side_numbers) (HasValue Side members) w → v.1 ≡ w.1
one_side_of members v w are h k =
    one_side v.1 w.1 (side_value members v are h.here) (side_value members w are k.here) (heads (tails (last_numbers side_numbers (HasValue Side members) v w h k)))

one_fit_of : (members : Part → Type 0) (v w : ℕ × ℕ)
    → IsFirstBy (IsLater fit_numbers) (HasValue FitFlag members) v → IsFirstBy (IsLater fit_numbers) (HasValue FitFlag members) w → v.1 ≡ w.1
one_fit_of members v w h k = heads (tails (last_numbers fit_numbers (HasValue FitFlag members) v w h k))

one_tag_of : (members : Part → Type 0) (v w : ℕ × SentTag) → ((p : Part) → members p → IsPartValue p) → IsGpsTag members v → IsGpsTag members w → v.1 ≡ w.1
one_tag_of members v w are (inl h) (inl k) =
    one_tag v.1 w.1 (sent_value members v are h.here) (sent_value members w are k.here) (heads (tails (first_numbers tag_numbers (HasValue TransmissionTag members) v w h k)))
one_tag_of members v w are (inl h) (inr k) = absurd (k.0 v h.here)
one_tag_of members v w are (inr h) (inl k) = absurd (h.0 w k.here)
one_tag_of members v w are (inr h) (inr k) =
    one_tag v.1 w.1 (toe_value members v are h.1.here) (toe_value members w are k.1.here) (heads (tails (first_numbers tag_numbers (HasValue ToeTag members) v w h.1 k.1)))

same_healths : (v w : ℕ × GalHealth × SentTag) → IsHealthValue v → IsHealthValue w → health_numbers v ≡ health_numbers w → (v.1 ≡ w.1) × (v.2 ≡ w.2)
same_healths v w a b e = one_health v.1 w.1 v.2 w.2 a.health b.health a.tag b.tag (heads (tails e))

one_health_of : (before behind : ℕ × GalHealth × SentTag → Type 0) (v w : ℕ × GalHealth × SentTag)
    → ((h : ℕ × GalHealth × SentTag) → before h → IsHealthValue h) → ((h : ℕ × GalHealth × SentTag) → behind h → IsHealthValue h)
    → IsHealth before behind v → IsHealth before behind w → (v.1 ≡ w.1) × (v.2 ≡ w.2)
one_health_of before behind v w x y (inl h) (inl k) = same_healths v w (x v h.here) (x w k.here) (last_numbers health_numbers before v w h k)
one_health_of before behind v w x y (inl h) (inr k) = absurd (k.0 v h.here)
one_health_of before behind v w x y (inr h) (inl k) = absurd (h.0 w k.here)
one_health_of before behind v w x y (inr h) (inr k) = same_healths v w (y v h.1.here) (y w k.1.here) (first_numbers health_numbers behind v w h.1 k.1)

one_satellite : (s t : Satellite) → place_of s.system ≡ place_of t.system → s.number ≡ t.number → s ≡ t
one_satellite s t e f =
    same_sat-is s t (and_from (place_of s.system == place_of t.system) (s.number == t.number) (eq-eqb (place_of s.system) (place_of t.system) e) (eq-eqb s.number t.number f))

one_transmission_of : (members : Part → Type 0) (v w : Transmission) → ((p : Part) → members p → IsPartValue p)
    → IsFirstBy (IsEarlier transmission_numbers) (HasValue IonTransmission members) v → IsFirstBy (IsEarlier transmission_numbers) (HasValue IonTransmission members) w → v ≡ w
one_transmission_of members v w are h k =
    let e : transmission_numbers v ≡ transmission_numbers w = first_numbers transmission_numbers (HasValue IonTransmission members) v w h k in
    let stamp : v.stamp ≡ w.stamp = heads e in
    let sat : v.sat ≡ w.sat = one_satellite v.sat w.sat (heads (tails e)) (heads (tails (tails e))) in
    let time = one_transmission v.wn w.wn v.second w.second (transmission_value members v are h.here) (transmission_value members w are k.here) (heads (tails (tails (tails e)))) in
    λ i. record { stamp = stamp i; sat = sat i; wn = time.0 i; second = time.1 i }

-- the item is unique
one_gps_item : (r : ℕ) (sat : Satellite) (members : Part → Type 0) (e f : GpsEph) → ((p : Part) → members p → IsPartValue p)
    → IsGpsItemOf r sat members e → IsGpsItemOf r sat members f → e ≡ f
one_gps_item r sat members e f are h k =
    let same : e.sat ≡ f.sat = h.sat ∙ sym k.sat in
    let clock : e.clock ≡ f.clock = one_only (HasValue Clock members) e.clock f.clock h.clock k.clock in
    let a : e.a ≡ f.a = one_only (HasValue OrbitA members) e.a f.a h.a k.a in
    let b : e.b ≡ f.b = one_only (HasValue OrbitB members) e.b f.b h.b k.b in
    let side : e.side ≡ f.side = one_side_of members (h.side_stamp, e.side) (k.side_stamp, f.side) are h.side k.side in
    let fit : e.fit ≡ f.fit = one_fit_of members (h.fit_stamp, e.fit) (k.fit_stamp, f.fit) h.fit k.fit in
    let tag : h.tag.1 ≡ k.tag.1 = one_tag_of members h.tag k.tag are h.tag_is k.tag_is in
    let week : e.toe_week ≡ f.toe_week = h.toe_week ∙ (λ i. toe_week_of (gps_moment r (tag i)) (16 * (a i).toe)) ∙ sym k.toe_week in
    let sent : e.sent ≡ f.sent = h.sent ∙ (λ i. sent_second (tag i) (gps_moment r (tag i)) (week i)) ∙ sym k.sent in
    λ i. record { sat = same i; clock = clock i; side = side i; a = a i; fit = fit i; b = b i; toe_week = week i; sent = sent i }

one_gal_item : (r : ℕ) (sat : Satellite) (members : Part → Type 0) (before behind : ℕ × GalHealth × SentTag → Type 0) (e f : GalEph)
    → ((h : ℕ × GalHealth × SentTag) → before h → IsHealthValue h) → ((h : ℕ × GalHealth × SentTag) → behind h → IsHealthValue h)
    → IsGalItemOf r sat members before behind e → IsGalItemOf r sat members before behind f → e ≡ f
one_gal_item r sat members before behind e f x y h k =
    let same : e.sat ≡ f.sat = h.sat ∙ sym k.sat in
    let w1 : e.w1 ≡ f.w1 = one_only (HasValue Word1 members) e.w1 f.w1 h.w1 k.w1 in
    let w2 : e.w2 ≡ f.w2 = one_only (HasValue Word2 members) e.w2 f.w2 h.w2 k.w2 in
    let w3 : e.w3 ≡ f.w3 = one_only (HasValue Word3 members) e.w3 f.w3 h.w3 k.w3 in
    let w4 : e.w4 ≡ f.w4 = one_only (HasValue Word4 members) e.w4 f.w4 h.w4 k.w4 in
    let heard = one_health_of before behind h.heard k.heard x y h.received_is k.received_is in
    let tag : h.heard.2 ≡ k.heard.2 = heard.1 in
    let health : e.health ≡ f.health = h.health ∙ heard.0 ∙ sym k.health in
    let week : e.toe_week ≡ f.toe_week = h.toe_week ∙ (λ i. toe_week_of (gal_moment r (tag i)) (60 * (w1 i).toe)) ∙ sym k.toe_week in
    let sent : e.sent ≡ f.sent = h.sent ∙ (λ i. sent_second (tag i) (gal_moment r (tag i)) (week i)) ∙ sym k.sent in
    λ i. record { sat = same i; w1 = w1 i; w2 = w2 i; w3 = w3 i; w4 = w4 i; health = health i; toe_week = week i; sent = sent i }

one_ion_item : (moment_of : Transmission → ℕ) (said : IonContent) (members : Part → Type 0) (e f : IonEph) → ((p : Part) → members p → IsPartValue p)
    → IsIonItemOf moment_of said members e → IsIonItemOf moment_of said members f → e ≡ f
one_ion_item moment_of said members e f are h k =
    let content : e.content ≡ f.content = h.content ∙ sym k.content in
    let transmission : h.transmission ≡ k.transmission = one_transmission_of members h.transmission k.transmission are h.first k.first in
    let sat : e.sat ≡ f.sat = h.sat ∙ (λ i. (transmission i).sat) ∙ sym k.sat in
    let moment : e.moment ≡ f.moment = h.moment ∙ (λ i. moment_of (transmission i)) ∙ sym k.moment in
    λ i. record { sat = sat i; moment = moment i; content = content i }

one_item : (r : ℕ) (key : PeriodKey) (members : Part → Type 0) (before behind : ℕ × GalHealth × SentTag → Type 0) (e f : NavItem)
    → ((p : Part) → members p → IsPartValue p) → ((h : ℕ × GalHealth × SentTag) → before h → IsHealthValue h) → ((h : ℕ × GalHealth × SentTag) → behind h → IsHealthValue h)
    → IsItemOf r key members before behind e → IsItemOf r key members before behind f → e ≡ f
one_item r (Gps sat issue) members before behind (GpsItem e) (GpsItem f) are x y h k = ap GpsItem (one_gps_item r sat members e f are h k)
one_item r (Gal sat issue) members before behind (GalItem e) (GalItem f) are x y h k = ap GalItem (one_gal_item r sat members before behind e f x y h k)
one_item r (GpsIon content) members before behind (IonItem e) (IonItem f) are x y h k = ap IonItem (one_ion_item (gps_ion_moment r) (OfGps content) members e f are h k)
one_item r (GalIon content) members before behind (IonItem e) (IonItem f) are x y h k = ap IonItem (one_ion_item (gal_ion_moment r) (OfGal content) members e f are h k)
one_item r (Gps sat issue) members before behind (GpsItem e) f are x y h k = absurd k
one_item r (Gal sat issue) members before behind (GalItem e) f are x y h k = absurd k
one_item r (GpsIon content) members before behind (IonItem e) f are x y h k = absurd k
one_item r (GalIon content) members before behind (IonItem e) f are x y h k = absurd k
one_item r key members before behind e f are x y h k = absurd h

-- where there is an item, the members agree, and each kind and health are there
only_each : (r : ℕ) (key : PeriodKey) (members : Part → Type 0) (before behind : ℕ × GalHealth × SentTag → Type 0) (e : NavItem)
    → IsItemOf r key members before behind e → AllByRecursion (λ k. (v : Value k) × IsOnly (HasValue k members) v) (kinds_of key)
only_each r (Gps sat issue) members before behind (GpsItem e) h = ((e.clock, h.clock), ((e.a, h.a), ((e.b, h.b), tt)))
only_each r (Gal sat issue) members before behind (GalItem e) h = ((e.w1, h.w1), ((e.w2, h.w2), ((e.w3, h.w3), ((e.w4, h.w4), tt))))
only_each r (GpsIon content) members before behind e h = tt
only_each r (GalIon content) members before behind e h = tt
only_each r key members before behind e h = absurd h

item_agrees : (r : ℕ) (key : PeriodKey) (members : Part → Type 0) (before behind : ℕ × GalHealth × SentTag → Type 0) (e : NavItem)
    → IsItemOf r key members before behind e → IsContradicted key members → ⊥
item_agrees r key members before behind e h =
    none_any _ _ (kinds_of key) (λ k o d. only_agrees (HasValue k members) o.0 o.1 d) (only_each r key members before behind e h)

item_whole : (r : ℕ) (key : PeriodKey) (members : Part → Type 0) (before behind : ℕ × GalHealth × SentTag → Type 0) (e : NavItem)
    → IsItemOf r key members before behind e → IsPartial key members → ⊥
item_whole r key members before behind e h =
    none_any _ _ (kinds_of key) (λ k o d. only_there (HasValue k members) o.0 o.1 d) (only_each r key members before behind e h)

health_there : (before behind : ℕ × GalHealth × SentTag → Type 0) (v : ℕ × GalHealth × SentTag) → IsHealth before behind v → IsEmpty before × IsEmpty behind → ⊥
health_there before behind v (inl h) none = none.0 v h.here
health_there before behind v (inr h) none = none.1 v h.1.here

item_healthy : (r : ℕ) (key : PeriodKey) (members : Part → Type 0) (before behind : ℕ × GalHealth × SentTag → Type 0) (e : NavItem)
    → IsItemOf r key members before behind e → IsWithoutHealth key before behind → ⊥
item_healthy r (Gps sat issue) members before behind e h d = d
item_healthy r (Gal sat issue) members before behind (GalItem e) h d = health_there before behind h.heard h.received_is d
item_healthy r (GpsIon content) members before behind e h d = d
item_healthy r (GalIon content) members before behind e h d = d
item_healthy r key members before behind e h d = absurd h

pub IsFoundIn-one : (r : ℕ) (key : PeriodKey) (members : Part → Type 0) (before behind : ℕ × GalHealth × SentTag → Type 0) (f g : Finding)
    → ((p : Part) → members p → IsPartValue p) → ((h : ℕ × GalHealth × SentTag) → before h → IsHealthValue h) → ((h : ℕ × GalHealth × SentTag) → behind h → IsHealthValue h)
    → IsFoundIn r key members before behind f → IsFoundIn r key members before behind g → f ≡ g
IsFoundIn-one r key members before behind Differs Differs are x y h k = refl
IsFoundIn-one r key members before behind Differs Misses are x y h k = absurd (k.0 h)
IsFoundIn-one r key members before behind Differs LacksHealth are x y h k = absurd (k.0 h)
IsFoundIn-one r key members before behind Differs (Complete j) are x y h k = absurd (item_agrees r key members before behind j k h)
IsFoundIn-one r key members before behind Misses Differs are x y h k = absurd (h.0 k)
IsFoundIn-one r key members before behind Misses Misses are x y h k = refl
IsFoundIn-one r key members before behind Misses LacksHealth are x y h k = absurd (k.1 h.1)
IsFoundIn-one r key members before behind Misses (Complete j) are x y h k = absurd (item_whole r key members before behind j k h.1)
IsFoundIn-one r key members before behind LacksHealth Differs are x y h k = absurd (h.0 k)
IsFoundIn-one r key members before behind LacksHealth Misses are x y h k = absurd (h.1 k.1)
IsFoundIn-one r key members before behind LacksHealth LacksHealth are x y h k = refl
IsFoundIn-one r key members before behind LacksHealth (Complete j) are x y h k = absurd (item_healthy r key members before behind j k h.2)
IsFoundIn-one r key members before behind (Complete i) Differs are x y h k = absurd (item_agrees r key members before behind i h k)
IsFoundIn-one r key members before behind (Complete i) Misses are x y h k = absurd (item_whole r key members before behind i h k.1)
IsFoundIn-one r key members before behind (Complete i) LacksHealth are x y h k = absurd (item_healthy r key members before behind i h k.2)
IsFoundIn-one r key members before behind (Complete i) (Complete j) are x y h k = ap Complete (one_item r key members before behind i j are x y h k)

-- findings of equal sets
contradicted_same : (key : PeriodKey) (a b : Part → Type 0) → Same a b → IsContradicted key a → IsContradicted key b
contradicted_same key a b s = any_same _ _ (kinds_of key) (λ k. Differ-same (HasValue k a) (HasValue k b) (same_values k a b s))

partial_same : (key : PeriodKey) (a b : Part → Type 0) → Same a b → IsPartial key a → IsPartial key b
partial_same key a b s = any_same _ _ (kinds_of key) (λ k. IsEmpty-same (HasValue k a) (HasValue k b) (same_values k a b s))

without_same : (key : PeriodKey) (before behind before' behind' : ℕ × GalHealth × SentTag → Type 0) → Same before before' → Same behind behind'
    → IsWithoutHealth key before behind → IsWithoutHealth key before' behind'
without_same (Gps sat issue) before behind before' behind' s t d = d
without_same (Gal sat issue) before behind before' behind' s t d = (IsEmpty-same before before' s d.0, IsEmpty-same behind behind' t d.1)
without_same (GpsIon content) before behind before' behind' s t d = d
without_same (GalIon content) before behind before' behind' s t d = d

ion_same : (moment_of : Transmission → ℕ) (said : IonContent) (a b : Part → Type 0) (e : IonEph) → Same a b → IsIonItemOf moment_of said a e → IsIonItemOf moment_of said b e
ion_same moment_of said a b e s h =
    record { content = h.content; transmission = h.transmission; first = first_same IonTransmission (IsEarlier transmission_numbers) a b h.transmission s h.first; sat = h.sat; moment = h.moment }

item_same : (r : ℕ) (key : PeriodKey) (a b : Part → Type 0) (before behind before' behind' : ℕ × GalHealth × SentTag → Type 0) (e : NavItem)
    → Same a b → Same before before' → Same behind behind' → IsItemOf r key a before behind e → IsItemOf r key b before' behind' e
item_same r (Gps sat issue) a b before behind before' behind' (GpsItem e) s t u h = record {
  sat = h.sat;
  clock = only_same Clock a b e.clock s h.clock;
  a = only_same OrbitA a b e.a s h.a;
  b = only_same OrbitB a b e.b s h.b;
  side_stamp = h.side_stamp;
  side = first_same Side (IsLater side_numbers) a b (h.side_stamp, e.side) s h.side;
  fit_stamp = h.fit_stamp;
  fit = first_same FitFlag (IsLater fit_numbers) a b (h.fit_stamp, e.fit) s h.fit;
  tag = h.tag;
  tag_is = IsFirstOrElse-same (IsEarlier tag_numbers) (IsEarlier tag_numbers) (HasValue TransmissionTag a) (HasValue TransmissionTag b) (HasValue ToeTag a) (HasValue ToeTag b) h.tag
      (same_values TransmissionTag a b s) (same_values ToeTag a b s) h.tag_is;
  toe_week = h.toe_week;
  sent = h.sent;
}
item_same r (Gal sat issue) a b before behind before' behind' (GalItem e) s t u h = record {
  sat = h.sat;
  w1 = only_same Word1 a b e.w1 s h.w1;
  w2 = only_same Word2 a b e.w2 s h.w2;
  w3 = only_same Word3 a b e.w3 s h.w3;
  w4 = only_same Word4 a b e.w4 s h.w4;
  heard = h.heard;
  received_is = IsFirstOrElse-same (IsLater health_numbers) (IsEarlier health_numbers) before before' behind behind' h.heard t u h.received_is;
  health = h.health;
  toe_week = h.toe_week;
  sent = h.sent;
}
item_same r (GpsIon content) a b before behind before' behind' (IonItem e) s t u h = ion_same (gps_ion_moment r) (OfGps content) a b e s h
item_same r (GalIon content) a b before behind before' behind' (IonItem e) s t u h = ion_same (gal_ion_moment r) (OfGal content) a b e s h
item_same r key a b before behind before' behind' e s t u h = absurd h

pub IsFoundIn-same : (r : ℕ) (key : PeriodKey) (a b : Part → Type 0) (before behind before' behind' : ℕ × GalHealth × SentTag → Type 0) (f : Finding)
    → Same a b → Same before before' → Same behind behind' → IsFoundIn r key a before behind f → IsFoundIn r key b before' behind' f
IsFoundIn-same r key a b before behind before' behind' Differs s t u h = contradicted_same key a b s h
IsFoundIn-same r key a b before behind before' behind' Misses s t u h =
    (λ d. h.0 (contradicted_same key b a (same_sym a b s) d), partial_same key a b s h.1)
IsFoundIn-same r key a b before behind before' behind' LacksHealth s t u h =
    (λ d. h.0 (contradicted_same key b a (same_sym a b s) d), λ d. h.1 (partial_same key b a (same_sym a b s) d), without_same key before behind before' behind' t u h.2)
IsFoundIn-same r key a b before behind before' behind' (Complete item) s t u h = item_same r key a b before behind before' behind' item s t u h
