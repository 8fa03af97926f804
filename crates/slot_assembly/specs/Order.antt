-- The places at which slots and health are stored, and their orders.
use Rattle.std.specs.Prelude.{ℕ, Bool, ◌==◌, ◌&&◌}
use Rattle.nav_eph.specs.Satellite.{Satellite, place_of}
use Rattle.nav_eph.specs.Numbers.{gps_ion_number, gal_ion_number, health_number}
use Rattle.nav_eph.specs.declared.galileo.GalHealth.{GalHealth}
use Rattle.nav_eph.specs.declared.tag.SentTag.{SentTag}
use Rattle.periods.specs.declared.key.PeriodKey.{PeriodKey}
use Rattle.periods.specs.declared.key.PeriodKey.TheVariants.{Gps, Gal, GpsIon, GalIon}
use Rattle.slot_assembly.specs.declared.order.Rank.{Rank}
use Rattle.slot_assembly.specs.declared.order.ByStart.{ByStart}
use Rattle.slot_assembly.specs.declared.order.ByEnd.{ByEnd}
use Rattle.slot_assembly.specs.declared.order.BySat.{BySat}
use Rattle.slot_assembly.specs.declared.order.ByStamp.{ByStamp}

-- the rank of a key: its numbers in the order of periods
abbrev pub rank_of : PeriodKey → Rank
rank_of (Gps sat issue) = record { class = 0; system = place_of sat.system; number = sat.number; issue = issue }
rank_of (Gal sat issue) = record { class = 1; system = place_of sat.system; number = sat.number; issue = issue }
rank_of (GpsIon content) = record { class = 2; system = 0; number = 0; issue = gps_ion_number content }
rank_of (GalIon content) = record { class = 3; system = 0; number = 0; issue = gal_ion_number content }

-- the place of the slot of a key with a start
abbrev pub by_start : Rank → ℕ → ByStart
by_start r a = record { class = r.class; system = r.system; number = r.number; issue = r.issue; start = a }

-- the slot's place in the order of periods by an end
abbrev pub by_end : ByStart → ℕ → ByEnd
by_end x e = record { end = e; class = x.class; system = x.system; number = x.number; issue = x.issue; start = x.start }

-- the place by key and start
abbrev pub start_place : ByEnd → ByStart
start_place y = record { class = y.class; system = y.system; number = y.number; issue = y.issue; start = y.start }

-- the place is one of the key with that rank
abbrev pub is_of_rank : Rank → ByStart → Bool
is_of_rank r x = (x.class == r.class) && ((x.system == r.system) && ((x.number == r.number) && (x.issue == r.issue)))

-- a place by satellite, time tag and bits
abbrev pub by_sat : Satellite → ℕ → ℕ → BySat
by_sat sat stamp bit_pattern = record { system = place_of sat.system; number = sat.number; stamp = stamp; bit_pattern = bit_pattern }

-- the place of a satellite's health
abbrev pub place_of_health : Satellite → ℕ × GalHealth × SentTag → BySat
place_of_health sat h = by_sat sat h.0 (health_number h.1 h.2)

-- the place is one of the satellite
abbrev pub is_of_sat : Satellite → BySat → Bool
is_of_sat sat x = (x.system == place_of sat.system) && (x.number == sat.number)

-- the place by time tag
abbrev pub by_stamp : BySat → ByStamp
by_stamp x = record { stamp = x.stamp; system = x.system; number = x.number; bit_pattern = x.bit_pattern }

-- the place by satellite
abbrev pub sat_place : ByStamp → BySat
sat_place x = record { system = x.system; number = x.number; stamp = x.stamp; bit_pattern = x.bit_pattern }
