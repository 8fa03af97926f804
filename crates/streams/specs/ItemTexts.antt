-- The text of an item, in each format that a run writes.
use Rattle.std.specs.Prelude.{ℕ, ◌+◌, ◌*◌, ◌/◌, ◌%◌, List, [], ◌∷◌, ◌++◌, codes, decimal}
use Rattle.nav_eph.specs.Satellite.{Satellite}
use Rattle.nav_eph.specs.declared.items.NavItem.{NavItem}
use Rattle.nav_eph.specs.declared.items.NavItem.TheVariants.{Gps as GpsItem, Gal as GalItem, Ion as IonItem}
use Rattle.framing.specs.Writing.{frame_bytes}
use Rattle.rinex_write.specs.Texts.{item_lines, letter_of, text_of}
use Rattle.rtcm_eph.specs.Writing.{bytes_1019, bytes_1046}

-- the frame of an ephemeris, message 1019 or 1046 (RTCM 10403.3, 3.5); nothing for ionosphere parameters
unfoldable pub rtcm_item : NavItem → List ℕ
rtcm_item (GpsItem e) = frame_bytes (bytes_1019 e)
rtcm_item (GalItem e) = frame_bytes (bytes_1046 e)
rtcm_item (IonItem e) = []

-- the record of an item (RINEX 4.01)
abbrev pub rinex_item : NavItem → List ℕ
rinex_item item = text_of (item_lines item)

-- a satellite: the letter of its system, and two digits
abbrev pub satellite_text : Satellite → List ℕ
satellite_text sat = letter_of sat.system ∷ (48 + sat.number / 10) ∷ (48 + sat.number % 10) ∷ []

-- a satellite and the issue of data of its ephemeris
abbrev pub issue_text : Satellite → ℕ → List ℕ
issue_text sat issue = ((codes "EPH " ++ satellite_text sat) ++ codes " ") ++ decimal issue

-- an ephemeris: satellite, issue of data, week of toe, and toe in seconds
abbrev pub ephemeris_text : Satellite → ℕ → ℕ → ℕ → List ℕ
ephemeris_text sat issue week second =
    (((issue_text sat issue ++ codes " ") ++ decimal week) ++ codes " ") ++ decimal second

-- the description of an item; ionosphere parameters have only a satellite
abbrev pub named_text : NavItem → List ℕ
named_text (GpsItem e) = ephemeris_text e.sat e.a.iode e.toe_week (16 * e.a.toe)
named_text (GalItem e) = ephemeris_text e.sat e.w1.iodnav e.toe_week (60 * e.w1.toe)
named_text (IonItem e) = codes "ION " ++ satellite_text e.sat

-- the line of an item in a list: the line number of its record, and its description
unfoldable pub list_item : ℕ → NavItem → List ℕ
list_item line item = ((decimal line ++ codes " ") ++ named_text item) ++ codes "\n"
