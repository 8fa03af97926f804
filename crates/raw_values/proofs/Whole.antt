-- An ephemeris of raw numbers whose parts are in range is one exactly where they are consistent.
use Rattle.std.proofs.Common.{◌≡◌, ◌↔◌}
use Rattle.nav_eph.specs.Items.{IsGalEph, IsGpsEph}
use Rattle.nav_eph.specs.Ranges.{HasGalRanges, HasGpsRanges, IsGalItem, IsGpsItem}
use Rattle.nav_eph.specs.Satellite.{Satellite}
use Rattle.nav_eph.specs.declared.sat.System.TheVariants.{Gps, Gal}
use Rattle.nav_eph.specs.declared.gps.GpsOrbitA.{GpsOrbitA}
use Rattle.nav_eph.specs.declared.gps.GpsOrbitB.{GpsOrbitB}
use Rattle.nav_eph.specs.declared.galileo.GalWord1.{GalWord1}
use Rattle.nav_eph.specs.declared.galileo.GalWord2.{GalWord2}
use Rattle.nav_eph.specs.declared.galileo.GalWord3.{GalWord3}
use Rattle.nav_eph.specs.declared.galileo.GalWord4.{GalWord4}
use Rattle.nav_eph.specs.declared.items.SentSecond.{SentSecond}
use Rattle.raw_values.specs.declared.gps_raw.GpsRaw.{GpsRaw}
use Rattle.raw_values.specs.declared.gal_raw.GalRaw.{GalRaw}
use Rattle.raw_values.specs.Sent.{sent_in}
use Rattle.raw_values.specs.Gps.{gps_in, orbit_a_in, orbit_b_in}
use Rattle.raw_values.specs.Gal.{gal_in, word1_in, word2_in, word3_in, word4_in}

pub gps_whole : (raw : GpsRaw) (sat : Satellite) (a : GpsOrbitA) (b : GpsOrbitB) (sent : SentSecond) (P : Type 0)
    → sat ≡ record { system = Gps; number = raw.satellite } → a ≡ orbit_a_in raw.a → b ≡ orbit_b_in raw.b → sent ≡ sent_in raw.sent
    → HasGpsRanges (gps_in raw) → (P ↔ IsGpsEph sat a b sent) → P ↔ IsGpsItem (gps_in raw)
gps_whole raw sat a b sent P is_sat is_a is_b is_sent ranges =
    rw is_sat (rw is_a (rw is_b (rw is_sent (λ iff. (λ p. record { ranges = ranges; whole = iff.0 p }, λ h. iff.1 h.whole)))))

pub gal_whole : (raw : GalRaw) (sat : Satellite) (w1 : GalWord1) (w2 : GalWord2) (w3 : GalWord3) (w4 : GalWord4) (sent : SentSecond) (P : Type 0)
    → sat ≡ record { system = Gal; number = raw.satellite } → w1 ≡ word1_in raw.w1 → w2 ≡ word2_in raw.w2 → w3 ≡ word3_in raw.w3
    → w4 ≡ word4_in raw.w4 → sent ≡ sent_in raw.sent
    → HasGalRanges (gal_in raw) → (P ↔ IsGalEph sat w1 w2 w3 w4 sent) → P ↔ IsGalItem (gal_in raw)
gal_whole raw sat w1 w2 w3 w4 sent P is_sat is_1 is_2 is_3 is_4 is_sent ranges =
    rw is_sat (rw is_1 (rw is_2 (rw is_3 (rw is_4 (rw is_sent (λ iff. (λ p. record { ranges = ranges; whole = iff.0 p }, λ h. iff.1 h.whole)))))))
