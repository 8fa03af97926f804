-- The parts that are received from transmitted items, slot by slot.
use Rattle.std.specs.Prelude.{ℕ, ◌+◌, List, [], ◌∷◌, ◌++◌}
use Rattle.nav_eph.specs.Satellite.{Satellite}
use Rattle.nav_eph.specs.declared.tag.SentTag.TheVariants.{Sent}
use Rattle.nav_eph.specs.declared.part.Part.{Part}
use Rattle.nav_eph.specs.declared.part.Body.{Body}
use Rattle.nav_eph.specs.declared.part.Body.TheVariants.{GpsClock, GpsA, GpsB, GalW1, GalW2, GalW3, GalW4, GalHealth, GalIon}
use Rattle.nav_eph.specs.declared.items.GpsEph.{GpsEph}
use Rattle.nav_eph.specs.declared.items.GalEph.{GalEph}
use Rattle.nav_eph.specs.declared.items.NavItem.{NavItem}
use Rattle.nav_eph.specs.declared.items.NavItem.TheVariants.{Gps, Gal, Ion}
use Rattle.sent_captures.specs.Slots.{galileo_second, galileo_week_number, gps_transmission, gps_week_number, no_ionosphere, slot_stamp}

-- the part with this time tag, satellite and content
abbrev pub part : ℕ → Satellite → Body → Part
part stamp sat body = record { stamp = stamp; sat = sat; body = body }

-- the parts of a GPS ephemeris: subframe 1 with its transmission time, and 6 s and 12 s later subframes 2 and 3
abbrev pub gps_parts : ℕ → GpsEph → List Part
gps_parts s e =
    part s e.sat (GpsClock e.clock e.side (Sent (gps_week_number e) (gps_transmission e)))
    ∷ part (s + 6) e.sat (GpsA e.a e.fit) ∷ part (s + 12) e.sat (GpsB e.b) ∷ []

-- the parts of a Galileo ephemeris: word types 1 to 4, its health with the transmission time, and an ionosphere of zeros
abbrev pub galileo_parts : ℕ → GalEph → List Part
galileo_parts s e =
    part (s + 1) e.sat (GalW1 e.w1) ∷ part (s + 3) e.sat (GalW2 e.w2)
    ∷ part (s + 5) e.sat (GalW3 e.w3) ∷ part (s + 7) e.sat (GalW4 e.w4)
    ∷ part (s + 9) e.sat (GalHealth e.health (Sent (galileo_week_number e) (galileo_second e)))
    ∷ part (s + 9) e.sat (GalIon no_ionosphere (galileo_week_number e) (galileo_second e)) ∷ []

-- the parts of an item that is transmitted from a time tag on
abbrev pub parts_at : ℕ → NavItem → List Part
parts_at s (Gps e) = gps_parts s e
parts_at s (Gal e) = galileo_parts s e
parts_at s (Ion e) = []

-- the parts of items that are transmitted in consecutive slots, the first in this one
abbrev pub slots_parts : ℕ → List NavItem → List Part
slots_parts slot [] = []
slots_parts slot (x ∷ xs) = parts_at (slot_stamp slot) x ++ slots_parts (slot + 1) xs
