-- Where a kind of part is missing and none differs, the finding is that one is missing.
use Rattle.std.proofs.Common.{◌≡◌, ℕ, Bool, true, false, ◌||◌, if◌then◌else◌, Option, refl}
use Rattle.nav_eph.specs.Satellite.{Satellite}
use Rattle.nav_eph.specs.declared.galileo.GalHealth.{GalHealth}
use Rattle.nav_eph.specs.declared.gps.GpsClock.{GpsClock}
use Rattle.nav_eph.specs.declared.gps.GpsSide.{GpsSide}
use Rattle.nav_eph.specs.declared.gps.GpsOrbitA.{GpsOrbitA}
use Rattle.nav_eph.specs.declared.gps.GpsOrbitB.{GpsOrbitB}
use Rattle.nav_eph.specs.declared.galileo.GalWord1.{GalWord1}
use Rattle.nav_eph.specs.declared.galileo.GalWord2.{GalWord2}
use Rattle.nav_eph.specs.declared.galileo.GalWord3.{GalWord3}
use Rattle.nav_eph.specs.declared.galileo.GalWord4.{GalWord4}
use Rattle.nav_eph.specs.declared.tag.SentTag.{SentTag}
use Rattle.periods.specs.declared.key.PeriodKey.{PeriodKey}
use Rattle.periods.specs.declared.key.PeriodKey.TheVariants.{Gps, Gal, GpsIon, GalIon}
use Rattle.periods.specs.declared.closed.Finding.{Finding}
use Rattle.periods.specs.declared.closed.Finding.TheVariants.{Differs, Misses}
use Rattle.periods.specs.declared.digest.Seen.{Seen}
use Rattle.periods.specs.declared.digest.Seen.TheVariants.{Nothing, One, Different}
use Rattle.periods.specs.declared.digest.GpsDigest.{GpsDigest}
use Rattle.periods.specs.declared.digest.GalDigest.{GalDigest}
use Rattle.periods.specs.declared.digest.Digest.TheVariants.{Gps as GpsForm, Gal as GalForm}
use Rattle.periods.specs.DigestsOf.{digest_finding, gps_item, gal_item}
use Rattle.periods.specs.Mirrors.{gps_lacks, gal_lacks, or_else, seen_differs, seen_nothing, seen_only}

gps_misses : (r : ℕ) (sat : Satellite) (x : Seen GpsClock) (y : Seen GpsOrbitA) (z : Seen GpsOrbitB) (s : Option (ℕ × GpsSide)) (f : Option (ℕ × ℕ)) (t : Option (ℕ × SentTag))
    → (seen_nothing x || (seen_nothing y || seen_nothing z)) ≡ true → gps_item r sat (seen_only x) (seen_only y) (seen_only z) s f t ≡ Misses
gps_misses r sat Nothing y z s f t e = refl
gps_misses r sat Different y z s f t e = refl
gps_misses r sat (One x) Nothing z s f t e = refl
gps_misses r sat (One x) Different z s f t e = refl
gps_misses r sat (One x) (One y) Nothing s f t e = refl
gps_misses r sat (One x) (One y) Different s f t e = refl
gps_misses r sat (One x) (One y) (One z) s f t e = absurd (cc)

gal_misses : (r : ℕ) (sat : Satellite) (x : Seen GalWord1) (y : Seen GalWord2) (z : Seen GalWord3) (u : Seen GalWord4) (h : Option (ℕ × GalHealth × SentTag))
    → (seen_nothing x || (seen_nothing y || (seen_nothing z || seen_nothing u))) ≡ true → gal_item r sat (seen_only x) (seen_only y) (seen_only z) (seen_only u) h ≡ Misses
gal_misses r sat Nothing y z u h e = refl
gal_misses r sat Different y z u h e = refl
gal_misses r sat (One x) Nothing z u h e = refl
gal_misses r sat (One x) Different z u h e = refl
gal_misses r sat (One x) (One y) Nothing u h e = refl
gal_misses r sat (One x) (One y) Different u h e = refl
gal_misses r sat (One x) (One y) (One z) Nothing h e = refl
gal_misses r sat (One x) (One y) (One z) Different h e = refl
gal_misses r sat (One x) (One y) (One z) (One u) h e = absurd (cc)

-- the finding where the test of a difference fails
missing : (b w : Bool) (f : Finding) → (if b then false else w) ≡ true → (w ≡ true → f ≡ Misses) → (if b then Differs else f) ≡ Misses
missing true w f e h = absurd (cc)
missing false w f e h = h e

pub gps_lacking : (d : GpsDigest) → gps_lacks d ≡ true → (r : ℕ) (key : PeriodKey) (health : Option (ℕ × GalHealth × SentTag)) → digest_finding r key (GpsForm d) health ≡ Misses
gps_lacking d e r (Gps sat issue) health =
    missing (seen_differs d.clock || (seen_differs d.a || seen_differs d.b)) (seen_nothing d.clock || (seen_nothing d.a || seen_nothing d.b)) _ e
    (gps_misses r sat d.clock d.a d.b d.side d.fit (or_else d.sent d.toe))
gps_lacking d e r (Gal sat issue) health = refl
gps_lacking d e r (GpsIon content) health = refl
gps_lacking d e r (GalIon content) health = refl

pub gal_lacking : (d : GalDigest) → gal_lacks d ≡ true → (r : ℕ) (key : PeriodKey) (health : Option (ℕ × GalHealth × SentTag)) → digest_finding r key (GalForm d) health ≡ Misses
gal_lacking d e r (Gal sat issue) health =
    missing (seen_differs d.w1 || (seen_differs d.w2 || (seen_differs d.w3 || seen_differs d.w4))) (seen_nothing d.w1 || (seen_nothing d.w2 || (seen_nothing d.w3 || seen_nothing d.w4))) _ e
    (gal_misses r sat d.w1 d.w2 d.w3 d.w4 health)
gal_lacking d e r (Gps sat issue) health = refl
gal_lacking d e r (GpsIon content) health = refl
gal_lacking d e r (GalIon content) health = refl
