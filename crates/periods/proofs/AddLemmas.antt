-- A digest with one more part: what the part does not carry stays.
use Rattle.std.proofs.Common.{◌≡◌, ℕ, Bool, Option, None, Some, refl, sym, ap, subst, ◌∙◌}
use Rattle.nav_eph.specs.Satellite.{Satellite}
use Rattle.nav_eph.specs.contracts.gps.GpsClockPartialEq.TheImpl.{eq-value as clock_eq}
use Rattle.nav_eph.specs.contracts.gps.GpsOrbitAPartialEq.TheImpl.{eq-value as orbit_a_eq}
use Rattle.nav_eph.specs.contracts.gps.GpsOrbitBPartialEq.TheImpl.{eq-value as orbit_b_eq}
use Rattle.nav_eph.specs.contracts.galileo.GalWord1PartialEq.TheImpl.{eq-value as word1_eq}
use Rattle.nav_eph.specs.contracts.galileo.GalWord2PartialEq.TheImpl.{eq-value as word2_eq}
use Rattle.nav_eph.specs.contracts.galileo.GalWord3PartialEq.TheImpl.{eq-value as word3_eq}
use Rattle.nav_eph.specs.contracts.galileo.GalWord4PartialEq.TheImpl.{eq-value as word4_eq}
use Rattle.nav_bits.specs.declared.unsigned.U.{U}
use Rattle.nav_eph.specs.declared.gps.GpsClock.{GpsClock}
use Rattle.nav_eph.specs.declared.gps.GpsSide.{GpsSide}
use Rattle.nav_eph.specs.declared.gps.GpsOrbitA.{GpsOrbitA}
use Rattle.nav_eph.specs.declared.gps.GpsOrbitB.{GpsOrbitB}
use Rattle.nav_eph.specs.declared.galileo.GalHealth.{GalHealth}
use Rattle.nav_eph.specs.declared.tag.SentTag.{SentTag}
use Rattle.nav_eph.specs.declared.part.Part.{Part}
use Rattle.nav_eph.specs.declared.part.Body.{Body}
use Rattle.nav_eph.specs.declared.part.Body.TheVariants.{GpsClock as OfClock, GpsA as OfOrbitA, GpsB as OfOrbitB, GalW1 as OfWord1, GalW2 as OfWord2, GalW3 as OfWord3, GalW4 as OfWord4, GalHealth as OfHealth, GpsIon as OfGpsIon, GalIon as OfGalIon}
use Rattle.periods.specs.declared.key.Transmission.{Transmission}
use Rattle.periods.specs.declared.digest.Seen.{Seen}
use Rattle.periods.specs.declared.digest.Seen.TheVariants.{Nothing, One, Different}
use Rattle.periods.specs.declared.digest.GpsDigest.{GpsDigest}
use Rattle.periods.specs.declared.digest.GalDigest.{GalDigest}
use Rattle.periods.specs.declared.digest.Digest.{Digest}
use Rattle.periods.specs.declared.digest.Digest.TheVariants.{Gps as GpsForm, Gal as GalForm, Ion as IonForm}
use Rattle.periods.specs.Parts.{IonTransmission, side_numbers, fit_numbers, tag_numbers}
use Rattle.periods.specs.Readings.{reading}
use Rattle.periods.specs.DigestsOf.{gps_digest, gal_digest, digest_of, gps_join, gal_join, digest_join, transmission_with}
use Rattle.periods.specs.Mirrors.{earlier, later, best_join, seen_join}
use Rattle.periods.proofs.Folds.{some_is, none_some}
use Rattle.periods.proofs.ReadingLemmas.{part_of}

-- nothing more
pub seen_none : {X : Type 0} (eq : X → X → Bool) (x : Seen X) → seen_join eq x Nothing ≡ x
seen_none eq Nothing = refl
seen_none eq (One x) = refl
seen_none eq Different = refl

pub best_none : {V : Type 0} (better : V → V → Bool) (x : Option V) → best_join better x None ≡ x
best_none better None = refl
best_none better (Some x) = refl

abbrev no_gps : GpsDigest
no_gps = record { clock = Nothing; a = Nothing; b = Nothing; side = None; fit = None; sent = None; toe = None }

abbrev no_gal : GalDigest
no_gal = record { w1 = Nothing; w2 = Nothing; w3 = Nothing; w4 = Nothing }

pub gps_none : (x : GpsDigest) → gps_join x no_gps ≡ x
gps_none x = λ i. record {
  clock = seen_none clock_eq.it x.clock i;
  a = seen_none orbit_a_eq.it x.a i;
  b = seen_none orbit_b_eq.it x.b i;
  side = best_none (later side_numbers) x.side i;
  fit = best_none (later fit_numbers) x.fit i;
  sent = best_none (earlier tag_numbers) x.sent i;
  toe = best_none (earlier tag_numbers) x.toe i;
}

pub gal_none : (x : GalDigest) → gal_join x no_gal ≡ x
gal_none x = λ i. record {
  w1 = seen_none word1_eq.it x.w1 i;
  w2 = seen_none word2_eq.it x.w2 i;
  w3 = seen_none word3_eq.it x.w3 i;
  w4 = seen_none word4_eq.it x.w4 i;
}

-- the digest of a part of the same form, or of another, which is not joined
of_same : (x y d : Digest) → Some y ≡ Some d → digest_join x y ≡ digest_join x d
of_same x y d e = ap (digest_join x) (some_is y d e)

module _ (stamp : ℕ) (sat : Satellite) where
  gps_in : (x : GpsDigest) (body : Body) (d : Digest) → digest_of (part_of stamp sat body) ≡ Some d → GpsForm (gps_join x (gps_digest (part_of stamp sat body))) ≡ digest_join (GpsForm x) d
  gps_in x (OfClock c s t) d e = of_same (GpsForm x) (GpsForm (gps_digest (part_of stamp sat (OfClock c s t)))) d e
  gps_in x (OfOrbitA o f) d e = of_same (GpsForm x) (GpsForm (gps_digest (part_of stamp sat (OfOrbitA o f)))) d e
  gps_in x (OfOrbitB o) d e = of_same (GpsForm x) (GpsForm (gps_digest (part_of stamp sat (OfOrbitB o)))) d e
  gps_in x (OfWord1 w) d e = ap GpsForm (gps_none x) ∙ of_same (GpsForm x) (GalForm (gal_digest (part_of stamp sat (OfWord1 w)))) d e
  gps_in x (OfWord2 w) d e = ap GpsForm (gps_none x) ∙ of_same (GpsForm x) (GalForm (gal_digest (part_of stamp sat (OfWord2 w)))) d e
  gps_in x (OfWord3 w) d e = ap GpsForm (gps_none x) ∙ of_same (GpsForm x) (GalForm (gal_digest (part_of stamp sat (OfWord3 w)))) d e
  gps_in x (OfWord4 w) d e = ap GpsForm (gps_none x) ∙ of_same (GpsForm x) (GalForm (gal_digest (part_of stamp sat (OfWord4 w)))) d e
  gps_in x (OfHealth h t) d e = absurd (none_some d e)
  gps_in x (OfGpsIon n s) d e = ap GpsForm (gps_none x) ∙ of_same (GpsForm x) (IonForm (record { stamp = stamp; sat = sat; wn = 0; second = s })) d e
  gps_in x (OfGalIon n w s) d e = ap GpsForm (gps_none x) ∙ of_same (GpsForm x) (IonForm (record { stamp = stamp; sat = sat; wn = w; second = s })) d e

  -- a part that carries nothing of a GPS ephemeris
  gps_other : (x : GpsDigest) (body : Body) → ((c : GpsClock) (s : GpsSide) (t : SentTag) → body ≡ OfClock c s t → ⊥) → ((o : GpsOrbitA) (f : U 1) → body ≡ OfOrbitA o f → ⊥)
      → ((o : GpsOrbitB) → body ≡ OfOrbitB o → ⊥) → x ≡ gps_join x (gps_digest (part_of stamp sat body))
  gps_other x (OfClock c s t) no_clock no_a no_b = absurd (no_clock c s t refl)
  gps_other x (OfOrbitA o f) no_clock no_a no_b = absurd (no_a o f refl)
  gps_other x (OfOrbitB o) no_clock no_a no_b = absurd (no_b o refl)
  gps_other x (OfWord1 w) no_clock no_a no_b = sym (gps_none x)
  gps_other x (OfWord2 w) no_clock no_a no_b = sym (gps_none x)
  gps_other x (OfWord3 w) no_clock no_a no_b = sym (gps_none x)
  gps_other x (OfWord4 w) no_clock no_a no_b = sym (gps_none x)
  gps_other x (OfHealth h t) no_clock no_a no_b = sym (gps_none x)
  gps_other x (OfGpsIon n s) no_clock no_a no_b = sym (gps_none x)
  gps_other x (OfGalIon n w s) no_clock no_a no_b = sym (gps_none x)

  gal_in : (x : GalDigest) (body : Body) (d : Digest) → digest_of (part_of stamp sat body) ≡ Some d → GalForm (gal_join x (gal_digest (part_of stamp sat body))) ≡ digest_join (GalForm x) d
  gal_in x (OfWord1 w) d e = of_same (GalForm x) (GalForm (gal_digest (part_of stamp sat (OfWord1 w)))) d e
  gal_in x (OfWord2 w) d e = of_same (GalForm x) (GalForm (gal_digest (part_of stamp sat (OfWord2 w)))) d e
  gal_in x (OfWord3 w) d e = of_same (GalForm x) (GalForm (gal_digest (part_of stamp sat (OfWord3 w)))) d e
  gal_in x (OfWord4 w) d e = of_same (GalForm x) (GalForm (gal_digest (part_of stamp sat (OfWord4 w)))) d e
  gal_in x (OfClock c s t) d e = ap GalForm (gal_none x) ∙ of_same (GalForm x) (GpsForm (gps_digest (part_of stamp sat (OfClock c s t)))) d e
  gal_in x (OfOrbitA o f) d e = ap GalForm (gal_none x) ∙ of_same (GalForm x) (GpsForm (gps_digest (part_of stamp sat (OfOrbitA o f)))) d e
  gal_in x (OfOrbitB o) d e = ap GalForm (gal_none x) ∙ of_same (GalForm x) (GpsForm (gps_digest (part_of stamp sat (OfOrbitB o)))) d e
  gal_in x (OfHealth h t) d e = absurd (none_some d e)
  gal_in x (OfGpsIon n s) d e = ap GalForm (gal_none x) ∙ of_same (GalForm x) (IonForm (record { stamp = stamp; sat = sat; wn = 0; second = s })) d e
  gal_in x (OfGalIon n w s) d e = ap GalForm (gal_none x) ∙ of_same (GalForm x) (IonForm (record { stamp = stamp; sat = sat; wn = w; second = s })) d e

  ion_in : (x : Transmission) (body : Body) (d : Digest) → digest_of (part_of stamp sat body) ≡ Some d → IonForm (transmission_with x (reading IonTransmission (part_of stamp sat body))) ≡ digest_join (IonForm x) d
  ion_in x (OfGpsIon n s) d e = of_same (IonForm x) (IonForm (record { stamp = stamp; sat = sat; wn = 0; second = s })) d e
  ion_in x (OfGalIon n w s) d e = of_same (IonForm x) (IonForm (record { stamp = stamp; sat = sat; wn = w; second = s })) d e
  ion_in x (OfHealth h t) d e = absurd (none_some d e)
  ion_in x (OfClock c s t) d e = of_same (IonForm x) (GpsForm (gps_digest (part_of stamp sat (OfClock c s t)))) d e
  ion_in x (OfOrbitA o f) d e = of_same (IonForm x) (GpsForm (gps_digest (part_of stamp sat (OfOrbitA o f)))) d e
  ion_in x (OfOrbitB o) d e = of_same (IonForm x) (GpsForm (gps_digest (part_of stamp sat (OfOrbitB o)))) d e
  ion_in x (OfWord1 w) d e = of_same (IonForm x) (GalForm (gal_digest (part_of stamp sat (OfWord1 w)))) d e
  ion_in x (OfWord2 w) d e = of_same (IonForm x) (GalForm (gal_digest (part_of stamp sat (OfWord2 w)))) d e
  ion_in x (OfWord3 w) d e = of_same (IonForm x) (GalForm (gal_digest (part_of stamp sat (OfWord3 w)))) d e
  ion_in x (OfWord4 w) d e = of_same (IonForm x) (GalForm (gal_digest (part_of stamp sat (OfWord4 w)))) d e

  -- a part without a digest is a health
  of_none : (body : Body) → digest_of (part_of stamp sat body) ≡ None → (h : GalHealth) × ((t : SentTag) × (body ≡ OfHealth h t))
  of_none (OfHealth h t) e = (h, (t, refl))
  of_none (OfClock c s t) e = absurd (none_some _ (sym e))
  of_none (OfOrbitA o f) e = absurd (none_some _ (sym e))
  of_none (OfOrbitB o) e = absurd (none_some _ (sym e))
  of_none (OfWord1 w) e = absurd (none_some _ (sym e))
  of_none (OfWord2 w) e = absurd (none_some _ (sym e))
  of_none (OfWord3 w) e = absurd (none_some _ (sym e))
  of_none (OfWord4 w) e = absurd (none_some _ (sym e))
  of_none (OfGpsIon n s) e = absurd (none_some _ (sym e))
  of_none (OfGalIon n w s) e = absurd (none_some _ (sym e))

-- a digest with a part is that joined with the part's
pub gps_with : (x : GpsDigest) (p : Part) (d : Digest) → digest_of p ≡ Some d → GpsForm (gps_join x (gps_digest p)) ≡ digest_join (GpsForm x) d
gps_with x p d e = gps_in p.stamp p.sat x p.body d e

pub gps_same : (x : GpsDigest) (p : Part) → ((c : GpsClock) (s : GpsSide) (t : SentTag) → p.body ≡ OfClock c s t → ⊥) → ((o : GpsOrbitA) (f : U 1) → p.body ≡ OfOrbitA o f → ⊥)
    → ((o : GpsOrbitB) → p.body ≡ OfOrbitB o → ⊥) → x ≡ gps_join x (gps_digest p)
gps_same x p no_clock no_a no_b = gps_other p.stamp p.sat x p.body no_clock no_a no_b

pub gal_with : (x : GalDigest) (p : Part) (d : Digest) → digest_of p ≡ Some d → GalForm (gal_join x (gal_digest p)) ≡ digest_join (GalForm x) d
gal_with x p d e = gal_in p.stamp p.sat x p.body d e

pub ion_with : (x : Transmission) (p : Part) (d : Digest) → digest_of p ≡ Some d → IonForm (transmission_with x (reading IonTransmission p)) ≡ digest_join (IonForm x) d
ion_with x p d e = ion_in p.stamp p.sat x p.body d e

-- a digest with a part that has none stays
pub gps_kept : (x : GpsDigest) (p : Part) → digest_of p ≡ None → gps_join x (gps_digest p) ≡ x
gps_kept x p e =
    let P : Body → Type 0 = λ body. gps_join x (gps_digest (part_of p.stamp p.sat body)) ≡ x in
    subst P (sym (of_none p.stamp p.sat p.body e).1.1) (gps_none x)

pub gal_kept : (x : GalDigest) (p : Part) → digest_of p ≡ None → gal_join x (gal_digest p) ≡ x
gal_kept x p e =
    let P : Body → Type 0 = λ body. gal_join x (gal_digest (part_of p.stamp p.sat body)) ≡ x in
    subst P (sym (of_none p.stamp p.sat p.body e).1.1) (gal_none x)

pub ion_kept : (x : Transmission) (p : Part) → digest_of p ≡ None → transmission_with x (reading IonTransmission p) ≡ x
ion_kept x p e =
    let P : Body → Type 0 = λ body. transmission_with x (reading IonTransmission (part_of p.stamp p.sat body)) ≡ x in
    subst P (sym (of_none p.stamp p.sat p.body e).1.1) refl
