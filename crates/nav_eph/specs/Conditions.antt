-- Conditions on parts.
use Rattle.std.specs.Prelude.{◌≡◌, ℕ, ◌<◌, Bool}
use Rattle.nav_eph.specs.Ranks.{part_rank, same_numbers}
use Rattle.nav_eph.specs.Satellite.{Satellite}
use Rattle.nav_eph.specs.declared.sat.System.{System}
use Rattle.nav_eph.specs.declared.sat.System.TheVariants.{Gps, Gal}
use Rattle.nav_eph.specs.declared.tag.SentTag.{SentTag}
use Rattle.nav_eph.specs.declared.tag.SentTag.TheVariants.{Sent, Toe}
use Rattle.nav_eph.specs.declared.part.Body.{Body}
use Rattle.nav_eph.specs.declared.part.Part.{Part}
use Rattle.nav_eph.specs.declared.part.Body.TheVariants.{GpsClock, GpsA, GpsB, GalW1, GalW2, GalW3, GalW4, GalHealth, GpsIon, GalIon}

-- the system that broadcasts a body
abbrev pub system_of : Body → System
system_of (GpsClock clock side tag) = Gps
system_of (GpsA orbit fit) = Gps
system_of (GpsB orbit) = Gps
system_of (GalW1 word) = Gal
system_of (GalW2 word) = Gal
system_of (GalW3 word) = Gal
system_of (GalW4 word) = Gal
system_of (GalHealth health tag) = Gal
system_of (GpsIon ionosphere second) = Gps
system_of (GalIon ionosphere wn second) = Gal

-- the week number of a tag
abbrev pub wn_of : SentTag → ℕ
wn_of (Sent wn second) = wn
wn_of (Toe wn second) = wn

-- the week number of a GPS tag has at most ten bits
abbrev pub HasGpsWeek : Body → Type 0
HasGpsWeek (GpsClock clock side tag) = wn_of tag < 1024
HasGpsWeek _ = Unit {0}

-- the satellite is of the body's system, and the week number of a GPS tag has at most ten bits
pub record IsPart (sat : Satellite) (body : Body) : Type 0 where
  pub system : sat.system ≡ system_of body
  pub week : HasGpsWeek body

-- whether two parts are equal, by all their numbers
abbrev pub same_part : Part → Part → Bool
same_part a b = same_numbers (part_rank a) (part_rank b)
