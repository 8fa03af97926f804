-- The ranges of the fields of items and parts, and the items whose fields are consistent.
use Rattle.std.specs.Prelude.{◌^◌, ◌<◌}
use Rattle.nav_bits.specs.Signed.{IsSigned}
use Rattle.nav_eph.specs.Weeks.{IsMoment, IsWeek}
use Rattle.nav_eph.specs.Bodies.{IsGalHealth, IsGpsSide, IsIonContent}
use Rattle.nav_eph.specs.Items.{IsGalEph, IsGpsEph, IsIonEph}
use Rattle.nav_eph.specs.Satellite.{IsSat}
use Rattle.nav_eph.specs.Steps.{IsSisa, IsStep16, IsStep60}
use Rattle.nav_eph.specs.declared.gps.GpsClock.{GpsClock}
use Rattle.nav_eph.specs.declared.gps.GpsOrbitA.{GpsOrbitA}
use Rattle.nav_eph.specs.declared.gps.GpsOrbitB.{GpsOrbitB}
use Rattle.nav_eph.specs.declared.galileo.GalWord1.{GalWord1}
use Rattle.nav_eph.specs.declared.galileo.GalWord2.{GalWord2}
use Rattle.nav_eph.specs.declared.galileo.GalWord3.{GalWord3}
use Rattle.nav_eph.specs.declared.galileo.GalWord4.{GalWord4}
use Rattle.nav_eph.specs.declared.items.GpsEph.{GpsEph}
use Rattle.nav_eph.specs.declared.items.GalEph.{GalEph}
use Rattle.nav_eph.specs.declared.items.IonEph.{IonEph}
use Rattle.nav_eph.specs.declared.items.NavItem.{NavItem}
use Rattle.nav_eph.specs.declared.items.NavItem.TheVariants.{Gps, Gal, Ion}

-- each field of a GPS clock correction is in its range (IS-GPS-200, table 20-I)
pub record IsGpsClock (c : GpsClock) : Type 0 where
  pub iodc : c.iodc < 2 ^ 10
  pub toc : IsStep16 c.toc
  pub af2 : IsSigned 8 c.af2
  pub af1 : IsSigned 16 c.af1
  pub af0 : IsSigned 22 c.af0
  pub tgd : IsSigned 8 c.tgd

-- each field of GPS subframe 2 is in its range (IS-GPS-200, table 20-III)
pub record IsGpsOrbitA (a : GpsOrbitA) : Type 0 where
  pub iode : a.iode < 2 ^ 8
  pub crs : IsSigned 16 a.crs
  pub delta_n : IsSigned 16 a.delta_n
  pub m0 : IsSigned 32 a.m0
  pub cuc : IsSigned 16 a.cuc
  pub e : a.e < 2 ^ 32
  pub cus : IsSigned 16 a.cus
  pub root_a : a.root_a < 2 ^ 32
  pub toe : IsStep16 a.toe

-- each field of GPS subframe 3 is in its range (IS-GPS-200, table 20-III)
pub record IsGpsOrbitB (b : GpsOrbitB) : Type 0 where
  pub iode : b.iode < 2 ^ 8
  pub cic : IsSigned 16 b.cic
  pub omega0 : IsSigned 32 b.omega0
  pub cis : IsSigned 16 b.cis
  pub i0 : IsSigned 32 b.i0
  pub crc : IsSigned 16 b.crc
  pub omega : IsSigned 32 b.omega
  pub omega_dot : IsSigned 24 b.omega_dot
  pub idot : IsSigned 14 b.idot

-- each field of I/NAV word type 1 is in its range (Galileo OS SIS ICD, 5.1.1)
pub record IsGalWord1 (w : GalWord1) : Type 0 where
  pub iodnav : w.iodnav < 2 ^ 10
  pub toe : IsStep60 w.toe
  pub m0 : IsSigned 32 w.m0
  pub e : w.e < 2 ^ 32
  pub root_a : w.root_a < 2 ^ 32

-- each field of I/NAV word type 2 is in its range (Galileo OS SIS ICD, 5.1.1)
pub record IsGalWord2 (w : GalWord2) : Type 0 where
  pub iodnav : w.iodnav < 2 ^ 10
  pub omega0 : IsSigned 32 w.omega0
  pub i0 : IsSigned 32 w.i0
  pub omega : IsSigned 32 w.omega
  pub idot : IsSigned 14 w.idot

-- each field of I/NAV word type 3 is in its range (Galileo OS SIS ICD, 5.1.1 and 5.1.12)
pub record IsGalWord3 (w : GalWord3) : Type 0 where
  pub iodnav : w.iodnav < 2 ^ 10
  pub omega_dot : IsSigned 24 w.omega_dot
  pub delta_n : IsSigned 16 w.delta_n
  pub cuc : IsSigned 16 w.cuc
  pub cus : IsSigned 16 w.cus
  pub crc : IsSigned 16 w.crc
  pub crs : IsSigned 16 w.crs
  pub sisa : IsSisa w.sisa

-- each field of I/NAV word type 4 is in its range (Galileo OS SIS ICD, 5.1.1 and 5.1.3)
pub record IsGalWord4 (w : GalWord4) : Type 0 where
  pub iodnav : w.iodnav < 2 ^ 10
  pub cic : IsSigned 16 w.cic
  pub cis : IsSigned 16 w.cis
  pub toc : IsStep60 w.toc
  pub af0 : IsSigned 31 w.af0
  pub af1 : IsSigned 21 w.af1
  pub af2 : IsSigned 6 w.af2

-- each field of a GPS ephemeris is in its range
pub record HasGpsRanges (e : GpsEph) : Type 0 where
  pub sat : IsSat e.sat.system e.sat.number
  pub clock : IsGpsClock e.clock
  pub side : IsGpsSide e.side
  pub a : IsGpsOrbitA e.a
  pub fit : e.fit < 2 ^ 1
  pub b : IsGpsOrbitB e.b
  pub toe_week : IsWeek e.toe_week

-- each field of a Galileo ephemeris is in its range
pub record HasGalRanges (e : GalEph) : Type 0 where
  pub sat : IsSat e.sat.system e.sat.number
  pub w1 : IsGalWord1 e.w1
  pub w2 : IsGalWord2 e.w2
  pub w3 : IsGalWord3 e.w3
  pub w4 : IsGalWord4 e.w4
  pub health : IsGalHealth e.health
  pub toe_week : IsWeek e.toe_week

-- each field of an ionosphere item is in its range
pub record HasIonRanges (e : IonEph) : Type 0 where
  pub sat : IsSat e.sat.system e.sat.number
  pub moment : IsMoment e.moment
  pub content : IsIonContent e.content

-- each field of an item is in its range, as in every value of the type
abbrev pub HasRanges : NavItem → Type 0
HasRanges (Gps e) = HasGpsRanges e
HasRanges (Gal e) = HasGalRanges e
HasRanges (Ion e) = HasIonRanges e

-- a GPS ephemeris whose fields are in range and consistent
pub record IsGpsItem (e : GpsEph) : Type 0 where
  pub ranges : HasGpsRanges e
  pub whole : IsGpsEph e.sat e.a e.b e.sent

-- a Galileo ephemeris whose fields are in range and consistent
pub record IsGalItem (e : GalEph) : Type 0 where
  pub ranges : HasGalRanges e
  pub whole : IsGalEph e.sat e.w1 e.w2 e.w3 e.w4 e.sent

-- an ionosphere item whose fields are in range and consistent
pub record IsIonItem (e : IonEph) : Type 0 where
  pub ranges : HasIonRanges e
  pub whole : IsIonEph e.sat e.moment e.content

-- an item whose fields are in range and consistent
abbrev pub IsItem : NavItem → Type 0
IsItem (Gps e) = IsGpsItem e
IsItem (Gal e) = IsGalItem e
IsItem (Ion e) = IsIonItem e
