-- The ranges of the fields that are compared as numbers.
use Rattle.std.specs.Prelude.{◌^◌, ◌<◌}
use Rattle.nav_bits.specs.Signed.{IsSigned}
use Rattle.nav_eph.specs.Weeks.{IsSecond}
use Rattle.nav_eph.specs.declared.gps.GpsSide.{GpsSide}
use Rattle.nav_eph.specs.declared.galileo.GalHealth.{GalHealth}
use Rattle.nav_eph.specs.declared.ion.GpsIon.{GpsIon}
use Rattle.nav_eph.specs.declared.ion.GalIon.{GalIon}
use Rattle.nav_eph.specs.declared.ion.IonContent.{IonContent}
use Rattle.nav_eph.specs.declared.ion.IonContent.TheVariants.{Gps, Gal}
use Rattle.nav_eph.specs.declared.tag.SentTag.{SentTag}
use Rattle.nav_eph.specs.declared.tag.SentTag.TheVariants.{Sent, Toe}

-- each field of an SV status is in its range
pub record IsGpsSide (s : GpsSide) : Type 0 where
  pub l2_code : s.l2_code < 2 ^ 2
  pub ura : s.ura < 2 ^ 4
  pub health : s.health < 2 ^ 6
  pub l2p : s.l2p < 2 ^ 1

-- each field of a Galileo health is in its range
pub record IsGalHealth (h : GalHealth) : Type 0 where
  pub bgd_a : IsSigned 10 h.bgd_a
  pub bgd_b : IsSigned 10 h.bgd_b
  pub hs_e5b : h.hs_e5b < 2 ^ 2
  pub hs_e1b : h.hs_e1b < 2 ^ 2
  pub dvs_e5b : h.dvs_e5b < 2 ^ 1
  pub dvs_e1b : h.dvs_e1b < 2 ^ 1

-- each GPS ionospheric parameter is in its range
pub record IsGpsIon (i : GpsIon) : Type 0 where
  pub alpha0 : IsSigned 8 i.alpha0
  pub alpha1 : IsSigned 8 i.alpha1
  pub alpha2 : IsSigned 8 i.alpha2
  pub alpha3 : IsSigned 8 i.alpha3
  pub beta0 : IsSigned 8 i.beta0
  pub beta1 : IsSigned 8 i.beta1
  pub beta2 : IsSigned 8 i.beta2
  pub beta3 : IsSigned 8 i.beta3

-- each Galileo ionospheric parameter is in its range
pub record IsGalIon (i : GalIon) : Type 0 where
  pub ai0 : i.ai0 < 2 ^ 11
  pub ai1 : IsSigned 11 i.ai1
  pub ai2 : IsSigned 14 i.ai2
  pub regions : i.regions < 2 ^ 5

-- each ionospheric parameter is in its range
abbrev pub IsIonContent : IonContent → Type 0
IsIonContent (Gps i) = IsGpsIon i
IsIonContent (Gal i) = IsGalIon i

-- the week number of a tag has at most twelve bits, and its second is a time of week
abbrev pub IsSentTag : SentTag → Type 0
IsSentTag (Sent wn second) = (wn < 2 ^ 12) × IsSecond second
IsSentTag (Toe wn second) = (wn < 2 ^ 12) × IsSecond second
