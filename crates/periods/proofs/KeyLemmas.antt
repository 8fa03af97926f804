-- The code's test of keys, and the numbers of keys, decide whether two keys are equal.
use Rattle.std.proofs.Common.{◌≡◌, ℕ, ◌⊎◌, inl, inr, Bool, true, false, ◌==◌, List, ◌∷◌, Option, None, Some, refl, sym, ap, subst, arith, eqb-true, eq-eqb}
use Rattle.std.proofs.lemmas.Bool.{and_parts, and_from, both_ways}
use Rattle.nav_eph.specs.Satellite.{Satellite, place_of}
use Rattle.nav_eph.specs.Bodies.{IsGpsIon, IsGalIon}
use Rattle.nav_eph.specs.declared.sat.System.{System}
use Rattle.nav_eph.specs.declared.sat.System.TheVariants.{Gps as OfGps, Gal as OfGal}
use Rattle.nav_eph.specs.declared.ion.GpsIon.{GpsIon as GpsIonosphere}
use Rattle.nav_eph.specs.declared.ion.GalIon.{GalIon as GalIonosphere}
use Rattle.nav_eph.proofs.Surface.{one_gps_ionosphere, one_galileo_ionosphere}
use Rattle.nav_eph.proofs.Surface.{gps_ion_decided, gal_ion_decided}
use Rattle.nav_eph.specs.contracts.ion.GpsIonPartialEq.TheImpl.{eq-value as gps_ion_eq}
use Rattle.nav_eph.specs.contracts.ion.GalIonPartialEq.TheImpl.{eq-value as gal_ion_eq}
use Rattle.nav_eph.specs.declared.part.Part.{Part}
use Rattle.nav_eph.specs.declared.part.Body.{Body}
use Rattle.nav_eph.specs.declared.part.Body.TheVariants.{GpsClock as OfClock, GpsA as OfOrbitA, GpsB as OfOrbitB, GalW1 as OfWord1, GalW2 as OfWord2, GalW3 as OfWord3, GalW4 as OfWord4, GalHealth as OfHealth, GpsIon as OfGpsIon, GalIon as OfGalIon}
use Rattle.periods.specs.declared.key.PeriodKey.{PeriodKey}
use Rattle.periods.specs.declared.key.PeriodKey.TheVariants.{Gps, Gal, GpsIon, GalIon}
use Rattle.periods.specs.declared.key.PeriodId.{PeriodId}
use Rattle.nav_eph.specs.Values.{IsPartValue}
use Rattle.periods.specs.Parts.{key_in, key_of}
use Rattle.periods.specs.Readings.{same_sat}
use Rattle.nav_eph.specs.Values.{IsBodyValue}
use Rattle.periods.specs.Periods.{key_numbers, place_numbers, IsBefore}
use Rattle.periods.specs.KeyTests.{same_key, is_key, is_of}
use Rattle.periods.proofs.Orders.{trichotomy}
use Rattle.periods.proofs.Folds.{some_is, none_some}

heads : {x y : ℕ} {xs ys : List ℕ} → x ∷ xs ≡ y ∷ ys → x ≡ y
heads e = cc

tails : {x y : ℕ} {xs ys : List ℕ} → x ∷ xs ≡ y ∷ ys → xs ≡ ys
tails e = cc

same_system : (s t : System) → place_of s ≡ place_of t → s ≡ t
same_system OfGps OfGps e = refl
same_system OfGps OfGal e = absurd (omega arith)
same_system OfGal OfGps e = absurd (omega arith)
same_system OfGal OfGal e = refl

satellite_is : (s t : Satellite) → s.system ≡ t.system → s.number ≡ t.number → s ≡ t
satellite_is s t e f = λ i. record { system = e i; number = f i }

pub same_sat-is : (s t : Satellite) → same_sat s t ≡ true → s ≡ t
same_sat-is s t h =
    let p = and_parts (place_of s.system == place_of t.system) (s.number == t.number) h in
    satellite_is s t (same_system s.system t.system (eqb-true (place_of s.system) (place_of t.system) p.0)) (eqb-true s.number t.number p.1)

pub is-same_sat : (s : Satellite) → same_sat s s ≡ true
is-same_sat s = and_from (place_of s.system == place_of s.system) (s.number == s.number) (eq-eqb (place_of s.system) (place_of s.system) refl) (eq-eqb s.number s.number refl)

same_gps_ion : (a b : GpsIonosphere) → gps_ion_eq.it a b ≡ true → a ≡ b
same_gps_ion a b h = (gps_ion_decided a b).0 h

is-same_gps_ion : (a : GpsIonosphere) → gps_ion_eq.it a a ≡ true
is-same_gps_ion a = (gps_ion_decided a a).1 refl

same_gal_ion : (a b : GalIonosphere) → gal_ion_eq.it a b ≡ true → a ≡ b
same_gal_ion a b h = (gal_ion_decided a b).0 h

is-same_gal_ion : (a : GalIonosphere) → gal_ion_eq.it a a ≡ true
is-same_gal_ion a = (gal_ion_decided a a).1 refl

false_true : {A : Type 0} → false ≡ true → A
false_true e = absurd (both_ways false refl e)

pub same_key-is : (a b : PeriodKey) → same_key a b ≡ true → a ≡ b
same_key-is (Gps s i) (Gps t j) h =
    let p = and_parts (same_sat s t) (i == j) h in let e = same_sat-is s t p.0 in let f = eqb-true i j p.1 in λ k. Gps (e k) (f k)
same_key-is (Gal s i) (Gal t j) h =
    let p = and_parts (same_sat s t) (i == j) h in let e = same_sat-is s t p.0 in let f = eqb-true i j p.1 in λ k. Gal (e k) (f k)
same_key-is (GpsIon a) (GpsIon b) h = ap GpsIon (same_gps_ion a b h)
same_key-is (GalIon a) (GalIon b) h = ap GalIon (same_gal_ion a b h)
same_key-is a b h = false_true h

pub is-same_key : (a : PeriodKey) → same_key a a ≡ true
is-same_key (Gps s i) = and_from (same_sat s s) (i == i) (is-same_sat s) (eq-eqb i i refl)
is-same_key (Gal s i) = and_from (same_sat s s) (i == i) (is-same_sat s) (eq-eqb i i refl)
is-same_key (GpsIon a) = is-same_gps_ion a
is-same_key (GalIon a) = is-same_gal_ion a

-- equality of keys is decidable
pub cases_key : (a b : PeriodKey) → (a ≡ b) ⊎ (a ≡ b → ⊥)
cases_key a b = told (same_key a b) refl
  where
    told : (t : Bool) → same_key a b ≡ t → (a ≡ b) ⊎ (a ≡ b → ⊥)
    told true e = inl (same_key-is a b e)
    told false e = inr (λ same. both_ways (same_key a b) e (subst (λ (k : PeriodKey). same_key a k ≡ true) same (is-same_key a)))

is_key-is : (o : Option PeriodKey) (key : PeriodKey) → is_key o key ≡ true → o ≡ Some key
is_key-is None key h = false_true h
is_key-is (Some k) key h = ap Some (same_key-is k key h)

-- the test of a part's key
pub is_of-is : (key : PeriodKey) (p : Part) → is_of key p ≡ true → key_of p ≡ Some key
is_of-is key p h = is_key-is (key_of p) key h

pub is-is_of : (key : PeriodKey) (p : Part) → key_of p ≡ Some key → is_of key p ≡ true
is-is_of key p e = subst (λ (o : Option PeriodKey). is_key o key ≡ true) (sym e) (is-same_key key)

-- the content of an ionosphere key is within its ranges
abbrev pub IsKeyValue : PeriodKey → Type 0
IsKeyValue (Gps s i) = Unit {0}
IsKeyValue (Gal s i) = Unit {0}
IsKeyValue (GpsIon a) = IsGpsIon a
IsKeyValue (GalIon a) = IsGalIon a

key_value_in : (sat : Satellite) (body : Body) (key : PeriodKey) → IsBodyValue body → key_in sat body ≡ Some key → IsKeyValue key
key_value_in sat (OfClock c s t) key v e = subst IsKeyValue (some_is _ key e) tt
key_value_in sat (OfOrbitA o f) key v e = subst IsKeyValue (some_is _ key e) tt
key_value_in sat (OfOrbitB o) key v e = subst IsKeyValue (some_is _ key e) tt
key_value_in sat (OfWord1 w) key v e = subst IsKeyValue (some_is _ key e) tt
key_value_in sat (OfWord2 w) key v e = subst IsKeyValue (some_is _ key e) tt
key_value_in sat (OfWord3 w) key v e = subst IsKeyValue (some_is _ key e) tt
key_value_in sat (OfWord4 w) key v e = subst IsKeyValue (some_is _ key e) tt
key_value_in sat (OfHealth h t) key v e = absurd (none_some key e)
key_value_in sat (OfGpsIon i s) key v e = subst IsKeyValue (some_is (GpsIon i) key e) v.0
key_value_in sat (OfGalIon i w s) key v e = subst IsKeyValue (some_is (GalIon i) key e) v.0

pub key_value : (p : Part) (key : PeriodKey) → IsPartValue p → key_of p ≡ Some key → IsKeyValue key
key_value p key v e = key_value_in p.sat p.body key v.body e

-- keys with the same numbers are equal
same_numbers_key : (a b : PeriodKey) → IsKeyValue a → IsKeyValue b → key_numbers a ≡ key_numbers b → a ≡ b
same_numbers_key (Gps s i) (Gps t j) v w h =
    let e = satellite_is s t (same_system s.system t.system (heads (tails h))) (heads (tails (tails h))) in let f = heads (tails (tails (tails h))) in λ k. Gps (e k) (f k)
same_numbers_key (Gal s i) (Gal t j) v w h =
    let e = satellite_is s t (same_system s.system t.system (heads (tails h))) (heads (tails (tails h))) in let f = heads (tails (tails (tails h))) in λ k. Gal (e k) (f k)
same_numbers_key (GpsIon a) (GpsIon b) v w h = ap GpsIon (one_gps_ionosphere a b v w (heads (tails (tails (tails h)))))
same_numbers_key (GalIon a) (GalIon b) v w h = ap GalIon (one_galileo_ionosphere a b v w (heads (tails (tails (tails h)))))
same_numbers_key a b v w h = absurd (let z = heads h in omega arith)

-- of two places one is before the other, or they are the same
pub cases_place : (a b : PeriodId) → IsKeyValue a.key → IsKeyValue b.key → IsBefore a b ⊎ ((a ≡ b) ⊎ IsBefore b a)
cases_place a b v w = elim (trichotomy (place_numbers a) (place_numbers b)) [
  | inl l ↦ inl l
  | inr o ↦ elim o [
    | inl e ↦ let f = heads e in let k = same_numbers_key a.key b.key v w (tails e) in inr (inl (λ i. record { end = f i; key = k i }))
    | inr g ↦ inr (inr g)
  ]
]

pub same_place : (a b : PeriodId) → IsKeyValue a.key → IsKeyValue b.key → (IsBefore a b → ⊥) → (IsBefore b a → ⊥) → a ≡ b
same_place a b v w none nor = elim (cases_place a b v w) [
  | inl l ↦ absurd (none l)
  | inr o ↦ elim o [ inl e ↦ e | inr g ↦ absurd (nor g) ]
]
