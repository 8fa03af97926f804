-- The records and the header of a navigation file, column by column, and the item of a record
-- (RINEX 4.01, navigation records EPH LNAV, EPH INAV and ION; RINEX 3.05, GPS and Galileo navigation message files). Offsets
-- are counted from 0, a shorter line counts as filled with blanks, and what is not named here can be anything.
use Rattle.std.specs.Prelude.{◌≡◌, ◌⊎◌, ℕ, ◌+◌, ◌*◌, ◌/◌, ◌%◌, ◌<◌, ◌≤◌, ◌==◌, if◌then◌else◌, List, [], ◌∷◌, ◌++◌, length, get_or, slice_get, codes, Some, ℤ, pos, negsuc, ◌≤ℤ◌}
use Rattle.scaled_decimal.specs.Fractions.{Fraction}
use Rattle.scaled_decimal.specs.ScaleValue.{size_of}
use Rattle.scaled_decimal.specs.Grammar.{AreDecimals, number_behind}
use Rattle.scaled_decimal.specs.NumberText.{digits}
use Rattle.scaled_decimal.specs.NumberReading.{AreBlanks, StandsFor, trim_start, trim_end}
use Rattle.nav_eph.specs.Weeks.{IsMoment, IsNearestMoment}
use Rattle.nav_eph.specs.Dates.{IsCivilOf}
use Rattle.nav_eph.specs.declared.calendar.Civil.{Civil}
use Rattle.nav_eph.specs.Satellite.{Satellite}
use Rattle.nav_eph.specs.Items.{gps_toe_moment, galileo_toe_moment}
use Rattle.nav_eph.specs.Ranges.{IsGpsItem, IsGalItem, IsIonItem}
use Rattle.nav_eph.specs.declared.ion.IonContent.{IonContent}
use Rattle.nav_eph.specs.declared.ion.IonContent.TheVariants.{Gps as OfGps, Gal as OfGal}
use Rattle.nav_eph.specs.declared.items.GpsEph.{GpsEph}
use Rattle.nav_eph.specs.declared.items.GalEph.{GalEph}
use Rattle.nav_eph.specs.declared.items.IonEph.{IonEph}
use Rattle.nav_eph.specs.declared.items.NavItem.{NavItem}
use Rattle.nav_eph.specs.declared.items.NavItem.TheVariants.{Gps, Gal, Ion}
use Rattle.rinex_write.specs.declared.columns.Rule.{Rule}
use Rattle.rinex_write.specs.declared.columns.Rule.TheVariants.{Plain, OrZero, OrLeast, OrUnknown, Ura, Sisa, Fit, Sent, Unread}
use Rattle.rinex_write.specs.declared.columns.Column.{Column}
use Rattle.rinex_write.specs.Accuracies.{ura_greatest, sisa_value, health_of}
use Rattle.rinex_write.specs.Columns.{not_known}
use Rattle.rinex_write.specs.Fields.{sent_field}
use Rattle.rinex_write.specs.Layouts.{gps_rows, galileo_rows, gps_ionosphere_rows, galileo_ionosphere_rows}
use Rattle.rinex_write.specs.Texts.{letter_of, satellite_text}
use Rattle.rinex_read.specs.Lines.{columns}
use Rattle.rinex_read.specs.Form3.{whole}
use Rattle.rinex_read.specs.Files.{Body}

-- the text without blanks around it
abbrev pub trimmed : List ℕ → List ℕ
trimmed text = trim_end (trim_start text)

-- the text is a decimal number, with blanks around it allowed
pub record IsNumber (text : List ℕ) (n : ℕ) : Type 0 where
  pub digits : AreDecimals (trimmed text)
  pub some : 1 ≤ length (trimmed text)
  pub value : n ≡ number_behind 0 (trimmed text)

-- the text is a satellite, as `G05`; a leading 0 can be a blank
abbrev pub IsSatellite : Satellite → List ℕ → Type 0
IsSatellite sat text = (text ≡ satellite_text sat) ⊎ ((sat.number < 10) × (text ≡ letter_of sat.system ∷ 32 ∷ digits 1 sat.number))

-- The line has the date of a GPS time: year in columns 5-8, month in 10-11, day in 13-14, hour in 16-17, minute in 19-20,
-- second in 22-23.
pub record IsEpoch (line : List ℕ) (moment : ℕ) : Type 0 where
  pub date : Civil
  pub year : IsNumber (columns 4 4 line) date.year
  pub month : IsNumber (columns 9 2 line) date.month
  pub day : IsNumber (columns 12 2 line) date.day
  pub hour : IsNumber (columns 15 2 line) date.hour
  pub minute : IsNumber (columns 18 2 line) date.minute
  pub second : IsNumber (columns 21 2 line) date.second
  pub time : IsCivilOf date moment
  pub within : IsMoment moment

-- i is the least index below k whose value is at least n, or k if there is none
pub record IsLeast (value : ℕ → ℕ) (k n i : ℕ) : Type 0 where
  pub to : i ≤ k
  pub reached : i < k → n ≤ value i
  pub before : (j : ℕ) → j < i → value j < n

-- z is the URA index of w centimetres: the least whose upper bound is at least w, 15 if there is none or w is negative
abbrev pub IsUraOf : ℤ → ℤ → Type 0
IsUraOf (pos n) z = (i : ℕ) × (z ≡ pos i) × IsLeast (λ j. get_or ura_greatest j 0) 15 n i
IsUraOf (negsuc n) z = z ≡ pos 15

-- z is the SISA index of w centimetres: the least whose value is at least w, 255 if w is negative or above 600
abbrev pub IsSisaOf : ℤ → ℤ → Type 0
IsSisaOf (pos n) z = ((i : ℕ) × (z ≡ pos i) × (n ≤ 600) × IsLeast sisa_value 125 n i) ⊎ ((600 < n) × (z ≡ pos 255))
IsSisaOf (negsuc n) z = z ≡ pos 255

-- z is the fit interval flag of w hours: 0 for 0 and 4, 1 for 1 and for 5 and more, none for 2 and 3
abbrev pub IsFlagOf : ℤ → ℤ → Type 0
IsFlagOf w z = (((w ≡ pos 0) ⊎ (w ≡ pos 4)) × (z ≡ pos 0)) ⊎ (((w ≡ pos 1) ⊎ (pos 5 ≤ℤ w)) × (z ≡ pos 1))

-- from low to high
abbrev pub IsWithin : ℤ → ℤ → ℤ → Type 0
IsWithin low high w = (low ≤ℤ w) × (w ≤ℤ high)

-- the text is a decimal text whose value is nearest to an integer number of units, which is from low to high and has the meaning
pub record Means (unit : Fraction) (text : List ℕ) (low high : ℤ) (Meaning : ℤ → Type 0) : Type 0 where
  pub number : ℤ
  pub text_is : StandsFor unit text number
  pub within : IsWithin low high number
  pub means : Meaning number

-- the text is blank, and the field z is this one
abbrev pub IsBlank : List ℕ → ℤ → ℤ → Type 0
IsBlank text z other = AreBlanks text × (z ≡ other)

-- the text is a number that is not from low to high and, in units of 1, is from 999,999,999 on
pub record IsBeyond (unit : Fraction) (text : List ℕ) (low high : ℤ) : Type 0 where
  pub number : ℤ
  pub text_is : StandsFor unit text number
  pub outside : IsWithin low high number → ⊥
  pub units : ℤ
  pub units_are : StandsFor (size_of whole) text units
  pub from : not_known ≤ℤ units

-- the text of a column means the field z
abbrev pub Encodes : Rule → Fraction → List ℕ → ℤ → Type 0
Encodes (Plain low high) unit text z = Means unit text low high (λ w. z ≡ w)
Encodes (OrZero low high) unit text z = Means unit text low high (λ w. z ≡ w) ⊎ IsBlank text z (pos 0)
Encodes (OrLeast low high) unit text z = Means unit text low high (λ w. z ≡ w) ⊎ IsBlank text z low
Encodes (OrUnknown low high) unit text z =
    Means unit text low high (λ w. z ≡ w) ⊎ ((IsBeyond unit text low high × (z ≡ not_known)) ⊎ IsBlank text z not_known)
Encodes Ura unit text z = Means unit text (negsuc 99999999) (pos 100000000) (λ w. IsUraOf w z) ⊎ IsBlank text z (pos 15)
Encodes Sisa unit text z = Means unit text (negsuc 99999999) (pos 100000000) (λ w. IsSisaOf w z) ⊎ IsBlank text z (pos 255)
Encodes Fit unit text z = Means unit text (pos 0) (pos 255) (λ w. IsFlagOf w z) ⊎ IsBlank text z (pos 0)
Encodes Sent unit text z =
    Means unit text (negsuc 302399) (pos 907199) (λ w. z ≡ w)
    ⊎ (((w : ℤ) × StandsFor unit text w × (IsWithin (negsuc 302399) (pos 907199) w → ⊥) × (z ≡ pos 999900000)) ⊎ IsBlank text z (pos 999900000))
Encodes (Unread n) unit text z = z ≡ n

-- the 19 characters of number j of line i: the numbers of the first line begin in column 24, those of the others in column 5
abbrev pub number_at : List (List ℕ) → ℕ → ℕ → List ℕ
number_at lines i j = columns ((if i == 0 then 23 else 4) + 19 * j) 19 (get_or lines i [])

-- x is number j of row i
abbrev pub Has : {X : Type 0} → List (List X) → ℕ → ℕ → X → Type 0
Has rows i j x = slice_get (get_or rows i []) j ≡ Some x

-- each column of the table has its field, in its place
pub record HasFields (rows : List (List Column)) (lines : List (List ℕ)) (fields : List (List ℤ)) : Type 0 where
  pub enough : length rows ≤ length lines
  pub each : (i j : ℕ) (c : Column) (z : ℤ) → Has rows i j c → Has fields i j z → Encodes c.rule (size_of c.scale) (number_at lines i j) z

-- the fields of a GPS ephemeris, line by line
abbrev pub gps_numbers : GpsEph → List (List ℤ)
gps_numbers e =
    (e.clock.af0 ∷ e.clock.af1 ∷ e.clock.af2 ∷ [])
    ∷ (pos e.a.iode ∷ e.a.crs ∷ e.a.delta_n ∷ e.a.m0 ∷ [])
    ∷ (e.a.cuc ∷ pos e.a.e ∷ e.a.cus ∷ pos e.a.root_a ∷ [])
    ∷ (pos e.a.toe ∷ e.b.cic ∷ e.b.omega0 ∷ e.b.cis ∷ [])
    ∷ (e.b.i0 ∷ e.b.crc ∷ e.b.omega ∷ e.b.omega_dot ∷ [])
    ∷ (e.b.idot ∷ pos e.side.l2_code ∷ pos e.toe_week ∷ pos e.side.l2p ∷ [])
    ∷ (pos e.side.ura ∷ pos e.side.health ∷ e.clock.tgd ∷ pos e.clock.iodc ∷ [])
    ∷ (sent_field e.sent ∷ pos e.fit ∷ [])
    ∷ []

-- the fields of a Galileo ephemeris, line by line, with bits 3-5 of the health
abbrev pub galileo_numbers : GalEph → ℕ → List (List ℤ)
galileo_numbers e spare =
    (e.w4.af0 ∷ e.w4.af1 ∷ e.w4.af2 ∷ [])
    ∷ (pos e.w1.iodnav ∷ e.w3.crs ∷ e.w3.delta_n ∷ e.w1.m0 ∷ [])
    ∷ (e.w3.cuc ∷ pos e.w1.e ∷ e.w3.cus ∷ pos e.w1.root_a ∷ [])
    ∷ (pos e.w1.toe ∷ e.w4.cic ∷ e.w2.omega0 ∷ e.w4.cis ∷ [])
    ∷ (e.w2.i0 ∷ e.w3.crc ∷ e.w2.omega ∷ e.w3.omega_dot ∷ [])
    ∷ (e.w2.idot ∷ pos 517 ∷ pos e.toe_week ∷ [])
    ∷ (pos e.w3.sisa ∷ pos (health_of e.health + 8 * spare) ∷ e.health.bgd_a ∷ e.health.bgd_b ∷ [])
    ∷ (sent_field e.sent ∷ [])
    ∷ []

-- The lines are those of an ephemeris: satellite in columns 1-3, date, and fields. The date is that of the time with the
-- time of week toc nearest to toe.
pub record IsEphemeris (lines : List (List ℕ)) (sat : Satellite) (toe toc : ℕ) (rows : List (List Column)) (fields : List (List ℤ)) : Type 0 where
  pub sat_is : IsSatellite sat (columns 0 3 (get_or lines 0 []))
  pub epoch : ℕ
  pub date : IsEpoch (get_or lines 0 []) epoch
  pub near : IsNearestMoment toe toc epoch
  pub fields_are : HasFields rows lines fields

-- the same of GPS, and of Galileo, where bits 3-5 of the health can be anything
abbrev pub IsGpsBody : List (List ℕ) → GpsEph → Type 0
IsGpsBody lines e = IsGpsItem e × IsEphemeris lines e.sat (gps_toe_moment e) (16 * e.clock.toc) gps_rows (gps_numbers e)

abbrev pub IsGalileoBody : List (List ℕ) → GalEph → Type 0
IsGalileoBody lines e =
    (spare : ℕ) × (spare < 8) × IsGalItem e × IsEphemeris lines e.sat (galileo_toe_moment e) (60 * e.w4.toc) galileo_rows (galileo_numbers e spare)

-- the lines have ionosphere parameters as fields
abbrev pub HasIonosphere : List (List ℕ) → IonContent → Type 0
HasIonosphere lines (OfGps i) =
    HasFields gps_ionosphere_rows lines ((i.alpha0 ∷ i.alpha1 ∷ i.alpha2 ∷ []) ∷ (i.alpha3 ∷ i.beta0 ∷ i.beta1 ∷ i.beta2 ∷ []) ∷ (i.beta3 ∷ pos 0 ∷ []) ∷ [])
HasIonosphere lines (OfGal i) = HasFields galileo_ionosphere_rows lines ((pos i.ai0 ∷ i.ai1 ∷ i.ai2 ∷ []) ∷ (pos i.regions ∷ []) ∷ [])

-- the lines are those of an ionosphere item: transmission time and fields
pub record IsIonosphereBody (lines : List (List ℕ)) (e : IonEph) : Type 0 where
  pub item : IsIonItem e
  pub date : IsEpoch (get_or lines 0 []) e.moment
  pub fields : HasIonosphere lines e.content

-- a title of version 4: `>`, the record type in columns 3-5, the satellite in 7-9, and the message type in 11-14
pub record IsTitle (title class sat message : List ℕ) : Type 0 where
  pub mark : columns 0 1 title ≡ codes ">"
  pub class_is : columns 2 3 title ≡ class
  pub sat_is : columns 6 3 title ≡ sat
  pub message_is : columns 10 4 title ≡ message

-- the message type of an ionosphere record
abbrev pub message_of : IonContent → List ℕ
message_of (OfGps i) = codes "LNAV"
message_of (OfGal i) = codes "IFNV"

-- The title and the lines after it are a record of the item, of version 4. Title and first line of an ephemeris have the
-- satellite in the same characters.
abbrev pub IsRecord : List ℕ → List (List ℕ) → NavItem → Type 0
IsRecord title lines (Gps e) = IsTitle title (codes "EPH") (columns 0 3 (get_or lines 0 [])) (codes "LNAV") × IsGpsBody lines e
IsRecord title lines (Gal e) = IsTitle title (codes "EPH") (columns 0 3 (get_or lines 0 [])) (codes "INAV") × IsGalileoBody lines e
IsRecord title lines (Ion e) = (sat : List ℕ) × IsSatellite e.sat sat × IsTitle title (codes "ION") sat (message_of e.content) × IsIonosphereBody lines e

-- the data sources of a Galileo record are a number up to 1023 that names I/NAV: bit 0 or bit 2, and not bit 1, F/NAV
pub record IsInav (text : List ℕ) : Type 0 where
  pub sources : ℕ
  pub text_is : StandsFor (size_of whole) text (pos sources)
  pub within : sources ≤ 1023
  pub no_fnav : sources / 2 % 2 ≡ 0
  pub inav : (sources % 2 ≡ 1) ⊎ (sources / 4 % 2 ≡ 1)

-- the lines are a record of the item, of version 3: an ephemeris without a title
abbrev pub IsRecord3 : List (List ℕ) → NavItem → Type 0
IsRecord3 lines (Gps e) = IsGpsBody lines e
IsRecord3 lines (Gal e) = IsGalileoBody lines e × IsInav (number_at lines 5 1)
IsRecord3 lines (Ion e) = ⊥

-- a version of format 4: `4.` and one digit or two; of format 3: 3.02 to 3.05
abbrev pub IsVersion4 : List ℕ → Type 0
IsVersion4 text = (minor : List ℕ) × (text ≡ codes "4." ++ minor) × AreDecimals minor × (1 ≤ length minor) × (length minor ≤ 2)

abbrev pub IsVersion3 : List ℕ → Type 0
IsVersion3 text = (minor : ℕ) × (text ≡ codes "3.0" ++ (48 + minor) ∷ []) × (2 ≤ minor) × (minor ≤ 5)

-- no line has `END OF HEADER` in columns 61-73
abbrev pub NoneEnds : List (List ℕ) → Type 0
NoneEnds [] = Unit {0}
NoneEnds (l ∷ ls) = (columns 60 13 l ≡ codes "END OF HEADER" → ⊥) × NoneEnds ls

-- the line is the first of a navigation file: version in columns 1-9, `N` in column 21, and its label in columns 61-80
pub record IsFirstLine (IsVersion : List ℕ → Type 0) (line : List ℕ) : Type 0 where
  pub version : IsVersion (trimmed (columns 0 9 line))
  pub navigation : columns 20 1 line ≡ codes "N"
  pub label : columns 60 20 line ≡ codes "RINEX VERSION / TYPE"

-- the lines begin with a header, which ends in the next line with `END OF HEADER` after its first, and the body follows it
pub record IsHeaderBefore (IsVersion : List ℕ → Type 0) (lines : List (List ℕ)) (body : Body) : Type 0 where
  pub first : List ℕ
  pub others : List (List ℕ)
  pub last : List ℕ
  pub lines_are : lines ≡ first ∷ (others ++ last ∷ body.lines)
  pub number : body.number ≡ length others + 2
  pub first_is : IsFirstLine IsVersion first
  pub none : NoneEnds others
  pub end : columns 60 13 last ≡ codes "END OF HEADER"

-- the lines begin as a navigation file of another version
abbrev pub IsOtherVersion : (List ℕ → Type 0) → List (List ℕ) → Type 0
IsOtherVersion IsVersion lines = (first : List ℕ) × (rest : List (List ℕ)) × (lines ≡ first ∷ rest) × IsFirstLine (λ text. IsVersion text → ⊥) first
