-- The text of a navigation file: the lines of its header and of its records, each ended by LF (RINEX 4.01).
use Rattle.std.specs.Prelude.{◌≡◌, ℕ, ◌+◌, ◌/◌, ◌%◌, ◌<◌, ◌==◌, nat_lt, Bool, false, if◌then◌else◌, List, [], ◌∷◌, ◌++◌, length, get_or, codes, ℤ}
use Rattle.std.specs.List.{flat_map}
use Rattle.scaled_decimal.specs.NumberText.{digits, AreShown}
use Rattle.nav_eph.specs.declared.calendar.Civil.{Civil}
use Rattle.nav_eph.specs.Functions.{civil_to}
use Rattle.nav_eph.specs.Satellite.{Satellite}
use Rattle.nav_eph.specs.declared.sat.System.{System}
use Rattle.nav_eph.specs.declared.sat.System.TheVariants.{Gps, Gal}
use Rattle.nav_eph.specs.declared.ion.IonContent.{IonContent}
use Rattle.nav_eph.specs.declared.ion.IonContent.TheVariants.{Gps as OfGps, Gal as OfGal}
use Rattle.nav_eph.specs.declared.items.NavItem.{NavItem}
use Rattle.nav_eph.specs.declared.items.NavItem.TheVariants.{Gps as GpsItem, Gal as GalItem, Ion as IonItem}
use Rattle.rinex_write.specs.declared.words.HeaderWords.{HeaderWords}
use Rattle.rinex_write.specs.Columns.{row_lines}
use Rattle.rinex_write.specs.Layouts.{Kind, gps_kind, galileo_kind, gps_ionosphere_kind, galileo_ionosphere_kind}
use Rattle.rinex_write.specs.Fields.{gps_fields, galileo_fields, gps_ionosphere_fields, galileo_ionosphere_fields, gps_epoch, galileo_epoch}

-- lines concatenated, each ended by LF
abbrev pub text_of : List (List ℕ) → List ℕ
text_of [] = []
text_of (l ∷ ls) = l ++ 10 ∷ text_of ls

-- the letter of a system: `G` or `E`
abbrev pub letter_of : System → ℕ
letter_of Gps = 71
letter_of Gal = 69

-- a satellite in three columns
abbrev pub satellite_text : Satellite → List ℕ
satellite_text sat = letter_of sat.system ∷ digits 2 sat.number

-- a date in 19 columns: year, month, day, hour, minute and second, separated by blanks
unfoldable pub date_text : Civil → List ℕ
date_text c =
    digits 4 c.year ++ 32 ∷ (digits 2 c.month ++ 32 ∷ (digits 2 c.day ++ 32 ∷ (digits 2 c.hour ++ 32 ∷ (digits 2 c.minute
    ++ 32 ∷ digits 2 c.second))))

-- the title of a record, as `> EPH G05 LNAV`
abbrev pub title_line : Kind → Satellite → List ℕ
title_line k sat = codes "> " ++ (k.class ++ 32 ∷ (satellite_text sat ++ 32 ∷ k.message))

-- a record: its title and the lines of its rows, the first of which begins with four columns and a date
abbrev pub record_lines : Kind → Satellite → List ℕ → ℕ → List ℤ → List (List ℕ)
record_lines k sat four moment fields = title_line k sat ∷ row_lines (four ++ date_text (civil_to moment)) k.rows fields

-- the record of ionosphere parameters; its date is their transmission time
abbrev pub ionosphere_lines : Satellite → ℕ → IonContent → List (List ℕ)
ionosphere_lines sat moment (OfGps i) = record_lines gps_ionosphere_kind sat (codes "    ") moment (gps_ionosphere_fields i)
ionosphere_lines sat moment (OfGal i) = record_lines galileo_ionosphere_kind sat (codes "    ") moment (galileo_ionosphere_fields i)

-- the title of an ionosphere record
abbrev pub ionosphere_title : Satellite → IonContent → List ℕ
ionosphere_title sat (OfGps i) = title_line gps_ionosphere_kind sat
ionosphere_title sat (OfGal i) = title_line galileo_ionosphere_kind sat

abbrev pub ionosphere_body : ℕ → IonContent → List (List ℕ)
ionosphere_body moment (OfGps i) = row_lines (codes "    " ++ date_text (civil_to moment)) gps_ionosphere_kind.rows (gps_ionosphere_fields i)
ionosphere_body moment (OfGal i) =
    row_lines (codes "    " ++ date_text (civil_to moment)) galileo_ionosphere_kind.rows (galileo_ionosphere_fields i)

-- the record of an item; that of an ephemeris has toc as its epoch
unfoldable pub item_lines : NavItem → List (List ℕ)
item_lines (GpsItem e) = record_lines gps_kind e.sat (satellite_text e.sat ++ 32 ∷ []) (gps_epoch e) (gps_fields e)
item_lines (GalItem e) = record_lines galileo_kind e.sat (satellite_text e.sat ++ 32 ∷ []) (galileo_epoch e) (galileo_fields e)
item_lines (IonItem e) = ionosphere_lines e.sat e.moment e.content

-- the title of the record of an item
unfoldable pub title_of : NavItem → List ℕ
title_of (GpsItem e) = title_line gps_kind e.sat
title_of (GalItem e) = title_line galileo_kind e.sat
title_of (IonItem e) = ionosphere_title e.sat e.content

-- the lines of the record of an item after its title
unfoldable pub body_lines : NavItem → List (List ℕ)
body_lines (GpsItem e) = row_lines ((satellite_text e.sat ++ 32 ∷ []) ++ date_text (civil_to (gps_epoch e))) gps_kind.rows (gps_fields e)
body_lines (GalItem e) =
    row_lines ((satellite_text e.sat ++ 32 ∷ []) ++ date_text (civil_to (galileo_epoch e))) galileo_kind.rows (galileo_fields e)
body_lines (IonItem e) = ionosphere_body e.moment e.content

-- the leap seconds in two columns, the first blank below 10
abbrev pub leap_text : ℕ → List ℕ
leap_text n = (if nat_lt n 10 then 32 else (48 + n / 10)) ∷ (48 + n % 10) ∷ []

-- the header, with the version in columns 1-9: version and type; program and date; leap seconds; end of header
unfoldable pub header_lines_by : List ℕ → HeaderWords → List (List ℕ)
header_lines_by version h =
    (version ++ codes "           N: GNSS NAV DATA    M: MIXED            RINEX VERSION / TYPE")
    ∷ (codes "navbridge                               " ++ (h.date ++ codes " PGM / RUN BY / DATE"))
    ∷ (codes "    " ++ (leap_text h.leap ++ codes "                                                      LEAP SECONDS"))
    ∷ codes "                                                            END OF HEADER"
    ∷ []

-- the header of version 4.01
abbrev pub header_lines : HeaderWords → List (List ℕ)
header_lines h = header_lines_by (codes "     4.01") h

-- the date of a header has 19 bytes, each at least 32, and the leap seconds at most two digits
pub record IsHeader (h : HeaderWords) : Type 0 where
  pub date : length h.date ≡ 19
  pub shown : AreShown h.date
  pub leap : h.leap < 100

-- lines in which each byte is at least 32
abbrev pub AreLines : List (List ℕ) → Type 0
AreLines [] = Unit {0}
AreLines (l ∷ ls) = AreShown l × AreLines ls

-- the line begins with `>`
abbrev pub begins_record : List ℕ → Bool
begins_record line = get_or line 0 32 == 62

-- no line begins with `>`
abbrev pub NoneTitled : List (List ℕ) → Type 0
NoneTitled [] = Unit {0}
NoneTitled (l ∷ ls) = (begins_record l ≡ false) × NoneTitled ls

-- the text of a file
abbrev pub rinex_text : HeaderWords → List NavItem → List ℕ
rinex_text h items = text_of (header_lines h ++ flat_map item_lines items)
