-- What comes first in the rank of an item, as one number.
use Rattle.std.specs.Prelude.{ℕ, ◌+◌, ◌*◌, min}
use Rattle.nav_eph.specs.Satellite.{Satellite, place_of}
use Rattle.nav_eph.specs.declared.items.NavItem.{NavItem}
use Rattle.nav_eph.specs.declared.items.NavItem.TheVariants.{Gps, Gal, Ion}
use Rattle.nav_lists.specs.Merging.{class_of, moment_of}

-- the satellite of an item
abbrev pub satellite_of : NavItem → Satellite
satellite_of (Gps e) = e.sat
satellite_of (Gal e) = e.sat
satellite_of (Ion e) = e.sat

-- the GPS time, the class, and the system and number of the satellite, as the digits of a number
abbrev pub front_of : NavItem → ℕ
front_of x = ((moment_of x * 4 + class_of x) * 2 + place_of (satellite_of x).system) * 64 + min (satellite_of x).number 63
