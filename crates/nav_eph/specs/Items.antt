-- Conditions on ephemerides and ionospheric parameters, and equality but for the transmission time.
use Rattle.std.specs.Prelude.{◌≡◌, ℕ, ◌+◌, ◌*◌, pos, neg_ℤ, ◌≤ℤ◌, Bool}
use Rattle.nav_eph.specs.Weeks.{IsWeek, week_of}
use Rattle.nav_eph.specs.Ranks.{rank, same_numbers, whole_rank}
use Rattle.nav_eph.specs.Satellite.{Satellite}
use Rattle.nav_eph.specs.declared.sat.System.{System}
use Rattle.nav_eph.specs.declared.sat.System.TheVariants.{Gps, Gal}
use Rattle.nav_eph.specs.declared.gps.GpsOrbitA.{GpsOrbitA}
use Rattle.nav_eph.specs.declared.gps.GpsOrbitB.{GpsOrbitB}
use Rattle.nav_eph.specs.declared.galileo.GalWord1.{GalWord1}
use Rattle.nav_eph.specs.declared.galileo.GalWord2.{GalWord2}
use Rattle.nav_eph.specs.declared.galileo.GalWord3.{GalWord3}
use Rattle.nav_eph.specs.declared.galileo.GalWord4.{GalWord4}
use Rattle.nav_eph.specs.declared.ion.IonContent.{IonContent}
use Rattle.nav_eph.specs.declared.ion.IonContent.TheVariants.{Gps as OfGps, Gal as OfGal}
use Rattle.nav_eph.specs.declared.items.SentSecond.{SentSecond}
use Rattle.nav_eph.specs.declared.items.SentSecond.TheVariants.{Unknown, At}
use Rattle.nav_eph.specs.declared.items.GpsEph.{GpsEph}
use Rattle.nav_eph.specs.declared.items.GalEph.{GalEph}
use Rattle.nav_eph.specs.declared.items.NavItem.{NavItem}
use Rattle.nav_eph.specs.declared.items.NavItem.TheVariants.{Gps as GpsItem, Gal as GalItem, Ion as IonItem}

-- a known transmission time is from half a week before the week of toe to half a week after it
abbrev pub IsSentSecond : SentSecond → Type 0
IsSentSecond Unknown = Unit {0}
IsSentSecond (At second) = (neg_ℤ (pos 302400) ≤ℤ second) × (second ≤ℤ pos 907199)

-- the satellite is of GPS, the IODEs of subframes 2 and 3 agree, and the transmission time is in range
pub record IsGpsEph (sat : Satellite) (a : GpsOrbitA) (b : GpsOrbitB) (sent : SentSecond) : Type 0 where
  pub system : sat.system ≡ Gps
  pub issue : a.iode ≡ b.iode
  pub second : IsSentSecond sent

-- the satellite is of Galileo, the IODnavs of the four words agree, and the transmission time is in range
pub record IsGalEph (sat : Satellite) (w1 : GalWord1) (w2 : GalWord2) (w3 : GalWord3) (w4 : GalWord4) (sent : SentSecond) : Type 0 where
  pub system : sat.system ≡ Gal
  pub issue2 : w2.iodnav ≡ w1.iodnav
  pub issue3 : w3.iodnav ≡ w1.iodnav
  pub issue4 : w4.iodnav ≡ w1.iodnav
  pub second : IsSentSecond sent

-- the system that broadcasts the parameters
abbrev pub content_system : IonContent → System
content_system (OfGps ionosphere) = Gps
content_system (OfGal ionosphere) = Gal

-- the satellite is of the system of the parameters, and the transmission time is in week 1 to 16382
pub record IsIonEph (sat : Satellite) (moment : ℕ) (content : IonContent) : Type 0 where
  pub system : sat.system ≡ content_system content
  pub week : IsWeek (week_of moment)

-- the item with transmission time unknown
abbrev pub unsent : NavItem → NavItem
unsent (GpsItem e) = GpsItem (record e { sent = Unknown })
unsent (GalItem e) = GalItem (record e { sent = Unknown })
unsent (IonItem e) = IonItem e

-- the two are equal in every field but the transmission time of an ephemeris
abbrev pub IsAlike : NavItem → NavItem → Type 0
IsAlike a b = unsent a ≡ unsent b

-- the same as a test, by their numbers
abbrev pub is_alike : NavItem → NavItem → Bool
is_alike a b = same_numbers (rank a) (rank b)

-- whether two items are equal, by all their numbers
abbrev pub same_item : NavItem → NavItem → Bool
same_item a b = same_numbers (whole_rank a) (whole_rank b)

-- toe of a GPS ephemeris as GPS time; toe is in steps of 16 s
abbrev pub gps_toe_moment : GpsEph → ℕ
gps_toe_moment e = 604800 * e.toe_week + 16 * e.a.toe

-- toe of a Galileo ephemeris as GPS time; toe is in steps of 60 s
abbrev pub galileo_toe_moment : GalEph → ℕ
galileo_toe_moment e = 604800 * e.toe_week + 60 * e.w1.toe
