-- The text of a RINEX 3 navigation file as written (RINEX 3.05).
use Rattle.std.specs.Prelude.{ℕ, List, [], ◌∷◌, ◌++◌, codes}
use Rattle.std.specs.List.{flat_map}
use Rattle.nav_eph.specs.declared.items.NavItem.{NavItem}
use Rattle.nav_eph.specs.declared.items.NavItem.TheVariants.{Gps as GpsItem, Gal as GalItem, Ion as IonItem}
use Rattle.rinex_write.specs.declared.words.HeaderWords.{HeaderWords}
use Rattle.rinex_write.specs.Texts.{text_of, header_lines_by, body_lines}

-- the header of version 3.05
abbrev pub header3_lines : HeaderWords → List (List ℕ)
header3_lines h = header_lines_by (codes "     3.05") h

-- the record of an ephemeris: that of RINEX 4 without its first line; an ionosphere has none
abbrev pub item3_lines : NavItem → List (List ℕ)
item3_lines (GpsItem e) = body_lines (GpsItem e)
item3_lines (GalItem e) = body_lines (GalItem e)
item3_lines (IonItem e) = []

-- the text of a file
abbrev pub rinex3_text : HeaderWords → List NavItem → List ℕ
rinex3_text h items = text_of (header3_lines h ++ flat_map item3_lines items)

-- the ephemerides among items
abbrev pub ephemerides : List NavItem → List NavItem
ephemerides [] = []
ephemerides (GpsItem e ∷ is) = GpsItem e ∷ ephemerides is
ephemerides (GalItem e ∷ is) = GalItem e ∷ ephemerides is
ephemerides (IonItem e ∷ is) = ephemerides is
