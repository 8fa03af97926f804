-- Digests: of one part, of the union of two sets of parts, and of equal sets.
use Rattle.std.proofs.Common.{◌≡◌, ℕ, inl, inr, Bool, true, false, if◌then◌else◌, List, Option, None, Some, refl, sym, ap, subst, ◌∙◌, rules}
use Rattle.std.specs.Bool.{Decides}
use Rattle.std.proofs.lemmas.Bool.{both_ways}
use Rattle.nav_eph.proofs.Surface.{clock_decided, orbit_a_decided, orbit_b_decided, word2_decided, word3_decided, word4_decided}
use Rattle.nav_eph.specs.Satellite.{Satellite}
use Rattle.nav_eph.specs.contracts.gps.GpsClockPartialEq.TheImpl.{eq-value as clock_eq}
use Rattle.nav_eph.specs.contracts.gps.GpsOrbitAPartialEq.TheImpl.{eq-value as orbit_a_eq}
use Rattle.nav_eph.specs.contracts.gps.GpsOrbitBPartialEq.TheImpl.{eq-value as orbit_b_eq}
use Rattle.nav_eph.specs.contracts.galileo.GalWord1PartialEq.TheImpl.{eq-value as word1_eq}
use Rattle.nav_eph.specs.contracts.galileo.GalWord2PartialEq.TheImpl.{eq-value as word2_eq}
use Rattle.nav_eph.specs.contracts.galileo.GalWord3PartialEq.TheImpl.{eq-value as word3_eq}
use Rattle.nav_eph.specs.contracts.galileo.GalWord4PartialEq.TheImpl.{eq-value as word4_eq}
use Rattle.nav_eph.specs.declared.part.Part.{Part}
use Rattle.nav_eph.specs.declared.part.Body.{Body}
use Rattle.nav_eph.specs.declared.part.Body.TheVariants.{GpsClock as OfClock, GpsA as OfOrbitA, GpsB as OfOrbitB, GalW1 as OfWord1, GalW2 as OfWord2, GalW3 as OfWord3, GalW4 as OfWord4, GalHealth as OfHealth, GpsIon as OfGpsIon, GalIon as OfGalIon}
use Rattle.periods.proofs.EndFacts.{Same}
use Rattle.periods.specs.declared.key.PeriodKey.{PeriodKey}
use Rattle.periods.specs.declared.key.PeriodKey.TheVariants.{Gps, Gal, GpsIon, GalIon}
use Rattle.periods.specs.declared.key.Transmission.{Transmission}
use Rattle.periods.specs.declared.digest.Seen.{Seen}
use Rattle.periods.specs.declared.digest.Seen.TheVariants.{Nothing, One, Different}
use Rattle.periods.specs.declared.digest.GpsDigest.{GpsDigest}
use Rattle.periods.specs.declared.digest.GalDigest.{GalDigest}
use Rattle.periods.specs.declared.digest.Digest.{Digest}
use Rattle.periods.specs.declared.digest.Digest.TheVariants.{Gps as GpsForm, Gal as GalForm, Ion as IonForm}
use Rattle.periods.specs.Values.{IsOnly, IsFirstBy, IsBest, IsEarlier, IsLater}
use Rattle.periods.specs.Parts.{Kind, Clock, OrbitA, OrbitB, Word1, Word2, Word3, Word4, Side, FitFlag, TransmissionTag, ToeTag, IonTransmission, Value, HasValue, key_in, key_of, side_numbers, fit_numbers, tag_numbers, transmission_numbers}
use Rattle.periods.specs.Readings.{reading}
use Rattle.periods.specs.Digests.{IsSeen, IsGpsDigest, IsGalDigest, IsDigest}
use Rattle.periods.specs.DigestsOf.{gps_digest, gal_digest, ion_digest, digest_for, digest_of, gps_join, gal_join, digest_join}
use Rattle.periods.specs.Mirrors.{earlier, later, best_join, seen_of, seen_join}
use Rattle.periods.proofs.Orders.{earlier_decides, later_decides}
use Rattle.periods.proofs.Folds.{some_is, none_some, IsBest-same, Grows, best_join-is}
use Rattle.periods.proofs.ReadingLemmas.{part_of, said_of, reading_of}
use Rattle.periods.proofs.ValueLemmas.{IsUnion, same_values, union_values, IsEmpty-same, IsOnly-same, Differ-same, first_same}

-- the test holds exactly of equal values
abbrev IsExact : {T : Type 0} → (T → T → Bool) → Type 0
IsExact {T} eq = (x y : T) → Decides (eq x y) (x ≡ y)

word1_decided : IsExact word1_eq.it
word1_decided = λ x y. search rules

-- contents of the union of two sets
one_and_one : {X : Type 0} (eq : X → X → Bool) (exact : IsExact eq) (a b c : X → Type 0) (x y : X) → Grows a c b → IsOnly a x → IsOnly b y
    → (t : Bool) → eq x y ≡ t → IsSeen c (if t then One x else Different)
one_and_one eq exact a b c x y g h k true e = record {
  here = g.keeps x h.here;
  only = λ w hw. elim (g.only w hw) [ inl o ↦ h.only w o | inr o ↦ k.only w o ∙ sym ((exact x y).0 e) ];
}
one_and_one eq exact a b c x y g h k false e = record {
  one = x;
  other = y;
  one_here = g.keeps x h.here;
  other_here = g.has y k.here;
  differ = λ same. both_ways (eq x y) e ((exact x y).1 same);
}

seen_join-is : {X : Type 0} (eq : X → X → Bool) (exact : IsExact eq) (a b c : X → Type 0) (x y : Seen X) → Grows a c b
    → IsSeen a x → IsSeen b y → IsSeen c (seen_join eq x y)
seen_join-is eq exact a b c Nothing Nothing g h k = λ w hw. elim (g.only w hw) [ inl o ↦ h w o | inr o ↦ k w o ]
seen_join-is eq exact a b c Nothing (One y) g h k = record {
  here = g.has y k.here;
  only = λ w hw. elim (g.only w hw) [ inl o ↦ absurd (h w o) | inr o ↦ k.only w o ];
}
seen_join-is eq exact a b c Nothing Different g h k =
    record { one = k.one; other = k.other; one_here = g.has k.one k.one_here; other_here = g.has k.other k.other_here; differ = k.differ }
seen_join-is eq exact a b c (One x) Nothing g h k = record {
  here = g.keeps x h.here;
  only = λ w hw. elim (g.only w hw) [ inl o ↦ h.only w o | inr o ↦ absurd (k w o) ];
}
seen_join-is eq exact a b c (One x) (One y) g h k = one_and_one eq exact a b c x y g h k (eq x y) refl
seen_join-is eq exact a b c (One x) Different g h k =
    record { one = k.one; other = k.other; one_here = g.has k.one k.one_here; other_here = g.has k.other k.other_here; differ = k.differ }
seen_join-is eq exact a b c Different y g h k =
    record { one = h.one; other = h.other; one_here = g.keeps h.one h.one_here; other_here = g.keeps h.other h.other_here; differ = h.differ }

IsSeen-same : {X : Type 0} (a b : X → Type 0) (x : Seen X) → Same a b → IsSeen a x → IsSeen b x
IsSeen-same a b Nothing s h = IsEmpty-same a b s h
IsSeen-same a b (One x) s h = IsOnly-same a b x s h
IsSeen-same a b Different s h = Differ-same a b s h

-- of one part: the value of `reading`
reads : (k : Kind) (p : Part) (v : Value k) → HasValue k (λ q. q ≡ p) v → reading k p ≡ Some v
reads k p v h = sym (ap (reading k) h.here) ∙ reading_of k h.part v h.says

one_part : (k : Kind) (p : Part) (v : Value k) → reading k p ≡ Some v → HasValue k (λ q. q ≡ p) v
one_part k p v e = record { part = p; here = refl; says = said_of k p v e }

just_seen : (k : Kind) (p : Part) (o : Option (Value k)) → reading k p ≡ o → IsSeen (HasValue k (λ q. q ≡ p)) (seen_of o)
just_seen k p None e = λ v h. none_some v (sym e ∙ reads k p v h)
just_seen k p (Some x) e = record { here = one_part k p x e; only = λ w h. sym (some_is x w (sym e ∙ reads k p w h)) }

just_best : (k : Kind) (R : Value k → Value k → Type 0) (irr : (v : Value k) → R v v → ⊥) (p : Part) (o : Option (Value k)) → reading k p ≡ o → IsBest R (HasValue k (λ q. q ≡ p)) o
just_best k R irr p None e = λ v h. none_some v (sym e ∙ reads k p v h)
just_best k R irr p (Some x) e = record {
  here = one_part k p x e;
  first = λ w h r. irr x (subst (λ (z : Value k). R z x) (sym (some_is x w (sym e ∙ reads k p w h))) r);
}

gps_digest-is : (p : Part) → IsGpsDigest (λ q. q ≡ p) (gps_digest p)
gps_digest-is p = record {
  clock = just_seen Clock p (reading Clock p) refl;
  a = just_seen OrbitA p (reading OrbitA p) refl;
  b = just_seen OrbitB p (reading OrbitB p) refl;
  side = just_best Side (IsLater side_numbers) (later_decides side_numbers).irr p (reading Side p) refl;
  fit = just_best FitFlag (IsLater fit_numbers) (later_decides fit_numbers).irr p (reading FitFlag p) refl;
  sent = just_best TransmissionTag (IsEarlier tag_numbers) (earlier_decides tag_numbers).irr p (reading TransmissionTag p) refl;
  toe = just_best ToeTag (IsEarlier tag_numbers) (earlier_decides tag_numbers).irr p (reading ToeTag p) refl;
}

gal_digest-is : (p : Part) → IsGalDigest (λ q. q ≡ p) (gal_digest p)
gal_digest-is p = record {
  w1 = just_seen Word1 p (reading Word1 p) refl;
  w2 = just_seen Word2 p (reading Word2 p) refl;
  w3 = just_seen Word3 p (reading Word3 p) refl;
  w4 = just_seen Word4 p (reading Word4 p) refl;
}

-- the digest of a part of a key is that of the key's form
digest_is : (p : Part) (key : PeriodKey) (d : Digest) → key_of p ≡ Some key → digest_of p ≡ Some d → digest_for (Some key) p ≡ Some d
digest_is p key d kk dd = sym (ap (λ (o : Option PeriodKey). digest_for o p) kk) ∙ dd

ion_form : (p : Part) (o : Option Transmission) (d : Digest) → reading IonTransmission p ≡ o → ion_digest o ≡ Some d
    → (s : Transmission) × (IonForm s ≡ d) × IsFirstBy (IsEarlier transmission_numbers) (HasValue IonTransmission (λ q. q ≡ p)) s
ion_form p None d e h = absurd (none_some d h)
ion_form p (Some s) d e h = (s, some_is (IonForm s) d h, just_best IonTransmission (IsEarlier transmission_numbers) (earlier_decides transmission_numbers).irr p (Some s) e)

pub digest_of-is : (p : Part) (key : PeriodKey) (d : Digest) → key_of p ≡ Some key → digest_of p ≡ Some d → IsDigest key (λ q. q ≡ p) d
digest_of-is p (Gps sat issue) d kk dd =
    subst (λ (x : Digest). IsDigest (Gps sat issue) (λ q. q ≡ p) x) (some_is (GpsForm (gps_digest p)) d (digest_is p (Gps sat issue) d kk dd)) (gps_digest-is p)
digest_of-is p (Gal sat issue) d kk dd =
    subst (λ (x : Digest). IsDigest (Gal sat issue) (λ q. q ≡ p) x) (some_is (GalForm (gal_digest p)) d (digest_is p (Gal sat issue) d kk dd)) (gal_digest-is p)
digest_of-is p (GpsIon content) d kk dd =
    let f = ion_form p (reading IonTransmission p) d refl (digest_is p (GpsIon content) d kk dd) in
    subst (λ (x : Digest). IsDigest (GpsIon content) (λ q. q ≡ p) x) f.1 f.2
digest_of-is p (GalIon content) d kk dd =
    let f = ion_form p (reading IonTransmission p) d refl (digest_is p (GalIon content) d kk dd) in
    subst (λ (x : Digest). IsDigest (GalIon content) (λ q. q ≡ p) x) f.1 f.2

-- a part of a key has a digest
some_digest : (stamp : ℕ) (sat : Satellite) (body : Body) (key : PeriodKey) → key_in sat body ≡ Some key → (d : Digest) × (digest_of (part_of stamp sat body) ≡ Some d)
some_digest stamp sat (OfClock c s t) key e = (GpsForm (gps_digest (part_of stamp sat (OfClock c s t))), refl)
some_digest stamp sat (OfOrbitA o f) key e = (GpsForm (gps_digest (part_of stamp sat (OfOrbitA o f))), refl)
some_digest stamp sat (OfOrbitB o) key e = (GpsForm (gps_digest (part_of stamp sat (OfOrbitB o))), refl)
some_digest stamp sat (OfWord1 w) key e = (GalForm (gal_digest (part_of stamp sat (OfWord1 w))), refl)
some_digest stamp sat (OfWord2 w) key e = (GalForm (gal_digest (part_of stamp sat (OfWord2 w))), refl)
some_digest stamp sat (OfWord3 w) key e = (GalForm (gal_digest (part_of stamp sat (OfWord3 w))), refl)
some_digest stamp sat (OfWord4 w) key e = (GalForm (gal_digest (part_of stamp sat (OfWord4 w))), refl)
some_digest stamp sat (OfHealth h t) key e = absurd (none_some key e)
some_digest stamp sat (OfGpsIon i s) key e = (IonForm (record { stamp = stamp; sat = sat; wn = 0; second = s }), refl)
some_digest stamp sat (OfGalIon i w s) key e = (IonForm (record { stamp = stamp; sat = sat; wn = w; second = s }), refl)

pub digest_some : (p : Part) (key : PeriodKey) → key_of p ≡ Some key → (d : Digest) × (digest_of p ≡ Some d)
digest_some p key e = some_digest p.stamp p.sat p.body key e

-- a part of no key has none
pub digest_none : (p : Part) → key_of p ≡ None → digest_of p ≡ None
digest_none p e = ap (λ (o : Option PeriodKey). digest_for o p) e

-- of the union of two sets
seen_union : (k : Kind) (eq : Value k → Value k → Bool) (exact : IsExact eq) (a b c : Part → Type 0) (x y : Seen (Value k)) → IsUnion a b c
    → IsSeen (HasValue k a) x → IsSeen (HasValue k b) y → IsSeen (HasValue k c) (seen_join eq x y)
seen_union k eq exact a b c x y u h i = seen_join-is eq exact (HasValue k a) (HasValue k b) (HasValue k c) x y (union_values k a b c u) h i

earliest_union : (k : Kind) (numbers : Value k → List ℕ) (a b c : Part → Type 0) (x y : Option (Value k)) → IsUnion a b c
    → IsBest (IsEarlier numbers) (HasValue k a) x → IsBest (IsEarlier numbers) (HasValue k b) y → IsBest (IsEarlier numbers) (HasValue k c) (best_join (earlier numbers) x y)
earliest_union k numbers a b c x y u h i =
    best_join-is (earlier numbers) (IsEarlier numbers) (earlier_decides numbers) (HasValue k a) (HasValue k b) (HasValue k c) x y (union_values k a b c u) h i

latest_union : (k : Kind) (numbers : Value k → List ℕ) (a b c : Part → Type 0) (x y : Option (Value k)) → IsUnion a b c
    → IsBest (IsLater numbers) (HasValue k a) x → IsBest (IsLater numbers) (HasValue k b) y → IsBest (IsLater numbers) (HasValue k c) (best_join (later numbers) x y)
latest_union k numbers a b c x y u h i =
    best_join-is (later numbers) (IsLater numbers) (later_decides numbers) (HasValue k a) (HasValue k b) (HasValue k c) x y (union_values k a b c u) h i

gps_join-is : (a b c : Part → Type 0) (x y : GpsDigest) → IsUnion a b c → IsGpsDigest a x → IsGpsDigest b y → IsGpsDigest c (gps_join x y)
gps_join-is a b c x y u h k = record {
  clock = seen_union Clock clock_eq.it clock_decided a b c x.clock y.clock u h.clock k.clock;
  a = seen_union OrbitA orbit_a_eq.it orbit_a_decided a b c x.a y.a u h.a k.a;
  b = seen_union OrbitB orbit_b_eq.it orbit_b_decided a b c x.b y.b u h.b k.b;
  side = latest_union Side side_numbers a b c x.side y.side u h.side k.side;
  fit = latest_union FitFlag fit_numbers a b c x.fit y.fit u h.fit k.fit;
  sent = earliest_union TransmissionTag tag_numbers a b c x.sent y.sent u h.sent k.sent;
  toe = earliest_union ToeTag tag_numbers a b c x.toe y.toe u h.toe k.toe;
}

gal_join-is : (a b c : Part → Type 0) (x y : GalDigest) → IsUnion a b c → IsGalDigest a x → IsGalDigest b y → IsGalDigest c (gal_join x y)
gal_join-is a b c x y u h k = record {
  w1 = seen_union Word1 word1_eq.it word1_decided a b c x.w1 y.w1 u h.w1 k.w1;
  w2 = seen_union Word2 word2_eq.it word2_decided a b c x.w2 y.w2 u h.w2 k.w2;
  w3 = seen_union Word3 word3_eq.it word3_decided a b c x.w3 y.w3 u h.w3 k.w3;
  w4 = seen_union Word4 word4_eq.it word4_decided a b c x.w4 y.w4 u h.w4 k.w4;
}

-- the choice between two, inside and outside of Some
chosen : {V : Type 0} (R : V → V → Type 0) (c : V → Type 0) (x y : V) (t : Bool) → IsBest R c (if t then Some y else Some x) → IsFirstBy R c (if t then y else x)
chosen R c x y true h = h
chosen R c x y false h = h

first_join : (numbers : Transmission → List ℕ) (a b c : Part → Type 0) (x y : Transmission) → IsUnion a b c → IsFirstBy (IsEarlier numbers) (HasValue IonTransmission a) x
    → IsFirstBy (IsEarlier numbers) (HasValue IonTransmission b) y → IsFirstBy (IsEarlier numbers) (HasValue IonTransmission c) (if earlier numbers y x then y else x)
first_join numbers a b c x y u h k =
    chosen (IsEarlier numbers) (HasValue IonTransmission c) x y (earlier numbers y x) (earliest_union IonTransmission numbers a b c (Some x) (Some y) u h k)

pub digest_join-is : (key : PeriodKey) (a b c : Part → Type 0) (x y : Digest) → IsUnion a b c → IsDigest key a x → IsDigest key b y → IsDigest key c (digest_join x y)
digest_join-is (Gps s i) a b c (GpsForm x) (GpsForm y) u h k = gps_join-is a b c x y u h k
digest_join-is (Gal s i) a b c (GalForm x) (GalForm y) u h k = gal_join-is a b c x y u h k
digest_join-is (GpsIon n) a b c (IonForm x) (IonForm y) u h k = first_join transmission_numbers a b c x y u h k
digest_join-is (GalIon n) a b c (IonForm x) (IonForm y) u h k = first_join transmission_numbers a b c x y u h k
digest_join-is (Gps s i) a b c (GpsForm x) y u h k = absurd k
digest_join-is (Gal s i) a b c (GalForm x) y u h k = absurd k
digest_join-is (GpsIon n) a b c (IonForm x) y u h k = absurd k
digest_join-is (GalIon n) a b c (IonForm x) y u h k = absurd k
digest_join-is key a b c x y u h k = absurd h

-- equal sets have the same digest
seen_same : (k : Kind) (a b : Part → Type 0) (x : Seen (Value k)) → Same a b → IsSeen (HasValue k a) x → IsSeen (HasValue k b) x
seen_same k a b x s h = IsSeen-same (HasValue k a) (HasValue k b) x (same_values k a b s) h

best_same : (k : Kind) (R : Value k → Value k → Type 0) (a b : Part → Type 0) (x : Option (Value k)) → Same a b → IsBest R (HasValue k a) x → IsBest R (HasValue k b) x
best_same k R a b x s h = let v = same_values k a b s in IsBest-same R (HasValue k a) (HasValue k b) x v.to v.from h

pub IsDigest-same : (key : PeriodKey) (a b : Part → Type 0) (d : Digest) → Same a b → IsDigest key a d → IsDigest key b d
IsDigest-same (Gps sat issue) a b (GpsForm d) s h = record {
  clock = seen_same Clock a b d.clock s h.clock;
  a = seen_same OrbitA a b d.a s h.a;
  b = seen_same OrbitB a b d.b s h.b;
  side = best_same Side (IsLater side_numbers) a b d.side s h.side;
  fit = best_same FitFlag (IsLater fit_numbers) a b d.fit s h.fit;
  sent = best_same TransmissionTag (IsEarlier tag_numbers) a b d.sent s h.sent;
  toe = best_same ToeTag (IsEarlier tag_numbers) a b d.toe s h.toe;
}
IsDigest-same (Gal sat issue) a b (GalForm d) s h = record {
  w1 = seen_same Word1 a b d.w1 s h.w1;
  w2 = seen_same Word2 a b d.w2 s h.w2;
  w3 = seen_same Word3 a b d.w3 s h.w3;
  w4 = seen_same Word4 a b d.w4 s h.w4;
}
IsDigest-same (GpsIon content) a b (IonForm d) s h = first_same IonTransmission (IsEarlier transmission_numbers) a b d s h
IsDigest-same (GalIon content) a b (IonForm d) s h = first_same IonTransmission (IsEarlier transmission_numbers) a b d s h
IsDigest-same key a b d s h = absurd h
