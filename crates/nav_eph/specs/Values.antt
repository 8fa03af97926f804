-- What holds of every body and part by its type: fields that are compared as numbers are in range.
use Rattle.std.specs.Prelude.{◌^◌, ◌<◌}
use Rattle.nav_eph.specs.Weeks.{IsSecond}
use Rattle.nav_eph.specs.Bodies.{IsGalHealth, IsGalIon, IsGpsIon, IsGpsSide, IsSentTag}
use Rattle.nav_eph.specs.Ranges.{IsGpsClock, IsGpsOrbitA, IsGpsOrbitB}
use Rattle.nav_eph.specs.Ranges.{IsGalWord1, IsGalWord2, IsGalWord3, IsGalWord4}
use Rattle.nav_eph.specs.Satellite.{IsSat}
use Rattle.nav_eph.specs.declared.part.Body.{Body}
use Rattle.nav_eph.specs.declared.part.Body.TheVariants.{GpsClock as OfClock, GalHealth as OfHealth}
use Rattle.nav_eph.specs.declared.part.Body.TheVariants.{GpsIon as OfGpsIon, GalIon as OfGalIon}
use Rattle.nav_eph.specs.declared.part.Body.TheVariants.{GpsA, GpsB, GalW1, GalW2, GalW3, GalW4}
use Rattle.nav_eph.specs.declared.part.Part.{Part}

-- each field of a body that is compared as a number is in its range
abbrev pub IsBodyValue : Body → Type 0
IsBodyValue (OfClock clock side tag) = IsGpsSide side × IsSentTag tag
IsBodyValue (OfHealth health tag) = IsGalHealth health × IsSentTag tag
IsBodyValue (OfGpsIon ionosphere second) = IsGpsIon ionosphere × IsSecond second
IsBodyValue (OfGalIon ionosphere wn second) = IsGalIon ionosphere × IsSecond second
IsBodyValue _ = Unit {0}

-- what holds of every part by its type: the time tag has 32 bits, and fields that are compared are
-- in range
pub record IsPartValue (p : Part) : Type 0 where
  pub stamp : p.stamp < 2 ^ 32
  pub body : IsBodyValue p.body

-- each field of a body is in its range
abbrev pub HasBodyRanges : Body → Type 0
HasBodyRanges (OfClock clock side tag) = IsGpsClock clock × IsGpsSide side
HasBodyRanges (GpsA orbit fit) = IsGpsOrbitA orbit × (fit < 2 ^ 1)
HasBodyRanges (GpsB orbit) = IsGpsOrbitB orbit
HasBodyRanges (GalW1 word) = IsGalWord1 word
HasBodyRanges (GalW2 word) = IsGalWord2 word
HasBodyRanges (GalW3 word) = IsGalWord3 word
HasBodyRanges (GalW4 word) = IsGalWord4 word
HasBodyRanges (OfHealth health tag) = IsGalHealth health
HasBodyRanges (OfGpsIon ionosphere second) = IsGpsIon ionosphere
HasBodyRanges (OfGalIon ionosphere wn second) = IsGalIon ionosphere

-- the satellite number and each field of the body are in range
pub record HasPartRanges (p : Part) : Type 0 where
  pub sat : IsSat p.sat.system p.sat.number
  pub body : HasBodyRanges p.body
