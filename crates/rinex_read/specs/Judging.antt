-- How a record is judged: the item that it gives, or the first reason why it gives none (RINEX 4.01, navigation records: EPH
-- LNAV and INAV, and ION).
use Rattle.std.specs.Prelude.{ℕ, ◌+◌, ◌-◌, ◌*◌, ◌/◌, ◌%◌, ◌==◌, ◌&&◌, ◌||◌, nat_le, nat_lt, Bool, true, false, if◌then◌else◌, List, [], ◌∷◌, length, Result, Ok, Err, ℤ, pos, int_le, unsigned_abs, get_or}
use Rattle.scaled_decimal.specs.NumberReading.{trim_start, trim_end, Span, span, is_decimal, is_nothing}
use Rattle.nav_eph.specs.declared.calendar.Civil.{Civil}
use Rattle.nav_eph.specs.declared.calendar.WeekFault.{WeekFault}
use Rattle.nav_eph.specs.declared.calendar.WeekFault.TheVariants as weeks
use Rattle.nav_eph.specs.Functions.{moment_to}
use Rattle.nav_eph.specs.Satellite.{Satellite, most}
use Rattle.nav_eph.specs.declared.sat.System.{System}
use Rattle.nav_eph.specs.declared.gps.GpsClock.{GpsClock}
use Rattle.nav_eph.specs.declared.gps.GpsSide.{GpsSide}
use Rattle.nav_eph.specs.declared.gps.GpsOrbitA.{GpsOrbitA}
use Rattle.nav_eph.specs.declared.gps.GpsOrbitB.{GpsOrbitB}
use Rattle.nav_eph.specs.declared.galileo.GalWord1.{GalWord1}
use Rattle.nav_eph.specs.declared.galileo.GalWord2.{GalWord2}
use Rattle.nav_eph.specs.declared.galileo.GalWord3.{GalWord3}
use Rattle.nav_eph.specs.declared.galileo.GalWord4.{GalWord4}
use Rattle.nav_eph.specs.declared.galileo.GalHealth.{GalHealth}
use Rattle.nav_eph.specs.declared.ion.GpsIon.{GpsIon}
use Rattle.nav_eph.specs.declared.ion.GalIon.{GalIon}
use Rattle.nav_eph.specs.declared.ion.IonContent.TheVariants.{Gps as OfGps, Gal as OfGal}
use Rattle.nav_eph.specs.declared.items.SentSecond.{SentSecond}
use Rattle.nav_eph.specs.declared.items.SentSecond.TheVariants.{Unknown, At}
use Rattle.nav_eph.specs.declared.items.GpsEph.{GpsEph}
use Rattle.nav_eph.specs.declared.items.GalEph.{GalEph}
use Rattle.nav_eph.specs.declared.items.NavItem.{NavItem}
use Rattle.nav_eph.specs.declared.items.NavItem.TheVariants.{Gps as GpsItem, Gal as GalItem, Ion as IonItem}
use Rattle.rinex_write.specs.Layouts.{Kind, gps_kind, galileo_kind, gps_ionosphere_kind, galileo_ionosphere_kind}
use Rattle.rinex_write.specs.Texts.{letter_of}
use Rattle.rinex_read.specs.declared.reason.RecordFault.{RecordFault}
use Rattle.rinex_read.specs.declared.reason.RecordFault.TheVariants as reasons
use Rattle.rinex_read.specs.declared.judged.Judged.{Judged}
use Rattle.rinex_read.specs.declared.judged.Judged.TheVariants as judgments
use Rattle.rinex_read.specs.Lines.{columns, stands_at}
use Rattle.rinex_read.specs.Fields.{◌>>=◌, read_rows}

-- true if the condition holds, else the reason
abbrev pub need : Bool → RecordFault → Result Bool RecordFault
need true e = Ok true
need false e = Err e

-- the first of the lines, or an empty one
abbrev pub first_of : List (List ℕ) → List ℕ
first_of [] = []
first_of (l ∷ ls) = l

-- the title is one of that kind: record type in columns 3-5, system letter in column 7, message type in columns 11-14
abbrev pub is_kind : Kind → List ℕ → Bool
is_kind k title = stands_at 2 k.class title && stands_at 6 (letter_of k.system ∷ []) title && stands_at 10 k.message title

-- the satellite of a system with that number
abbrev pub named : System → ℕ → Result Satellite RecordFault
named system n = if nat_le 1 n && nat_le n (most system) then Ok (record { system = system; number = n }) else Err reasons.BadSat

-- the satellite of a system with a two-digit number, the first digit possibly blank
abbrev pub satellite_of : System → ℕ → ℕ → Result Satellite RecordFault
satellite_of system tens ones =
    if is_decimal ones && (tens == 32 || is_decimal tens) then named system ((if tens == 32 then 0 else 10 * (tens - 48)) + (ones - 48))
    else Err reasons.BadSat

-- the satellite of a title, in columns 8-9
abbrev pub sat_of : System → List ℕ → Result Satellite RecordFault
sat_of system title = satellite_of system (get_or title 7 32) (get_or title 8 32)

-- a line begins with the satellite in columns 7-9 of the title
abbrev pub same_sat : List ℕ → List ℕ → Bool
same_sat title line = stands_at 0 (columns 6 3 title) line

-- a decimal number, with blanks before and after it allowed
abbrev pub digits_alone : Span → Result ℕ RecordFault
digits_alone s = if is_nothing s.rest && nat_le 1 s.count then Ok s.number else Err reasons.NotANumber

unfoldable pub whole_number : List ℕ → Result ℕ RecordFault
whole_number text = digits_alone (span 0 0 (trim_end (trim_start text)))

-- the date of a line: year in columns 5-8, month 10-11, day 13-14, hour 16-17, minute 19-20, second 22-23
unfoldable pub date_of : List ℕ → Result Civil RecordFault
date_of line = do
  year ← whole_number (columns 4 4 line)
  month ← whole_number (columns 9 2 line)
  day ← whole_number (columns 12 2 line)
  hour ← whole_number (columns 15 2 line)
  minute ← whole_number (columns 18 2 line)
  second ← whole_number (columns 21 2 line)
  Ok (record { year = year; month = month; day = day; hour = hour; minute = minute; second = second })

-- GPS time of a date in seconds since the GPS epoch, or why there is none
abbrev pub moment_stated : Result ℕ WeekFault → Result ℕ RecordFault
moment_stated (Ok m) = Ok m
moment_stated (Err weeks.NoSuchDate) = Err reasons.NoSuchDate
moment_stated (Err weeks.BeforeEpoch) = Err reasons.Week
moment_stated (Err weeks.TooFar) = Err reasons.Week

-- GPS time of the date of a line
abbrev pub moment_at : List ℕ → Result ℕ RecordFault
moment_at line = date_of line >>= λ date. moment_stated (moment_to date)

-- the time is in GPS weeks 1 to 16382
abbrev pub is_named_week : ℕ → Bool
is_named_week m = nat_le 1 (m / 604800) && nat_le (m / 604800) 16382

-- the contents of a record: satellite, date as GPS time, and fields
pub record Stated : Type 0 where
  pub sat : Satellite
  pub moment : ℕ
  pub fields : List ℤ

-- the contents of an ephemeris record, or the first reason. Tested in this order: satellite, number of lines, the same
-- satellite in the first line, date, numbers
unfoldable pub ephemeris_stated : Kind → List ℕ → List (List ℕ) → Result Stated RecordFault
ephemeris_stated k title lines = do
  sat ← sat_of k.system title
  all ← need (nat_le (length k.rows) (length lines)) reasons.Short
  same ← need (same_sat title (first_of lines)) reasons.BadSat
  moment ← moment_at (first_of lines)
  fields ← read_rows k.rows 23 lines
  Ok (record { sat = sat; moment = moment; fields = fields })

-- the contents of an ionosphere record, or the first reason. In this order: satellite, number of lines, date, numbers
unfoldable pub ionosphere_stated : Kind → List ℕ → List (List ℕ) → Result Stated RecordFault
ionosphere_stated k title lines = do
  sat ← sat_of k.system title
  all ← need (nat_le (length k.rows) (length lines)) reasons.Short
  moment ← moment_at (first_of lines)
  named ← need (is_named_week moment) reasons.Week
  fields ← read_rows k.rows 23 lines
  Ok (record { sat = sat; moment = moment; fields = fields })

-- field k, and its magnitude
abbrev pub field : List ℤ → ℕ → ℤ
field zs k = get_or zs k (pos 0)

abbrev pub natural : List ℤ → ℕ → ℕ
natural zs k = unsigned_abs (field zs k)

-- a transmission time above 907,199 is unknown
abbrev pub sent_of : ℤ → SentSecond
sent_of z = if int_le z (pos 907199) then At z else Unknown

-- toc in steps of the week: the time of week of the epoch is a multiple of the step, and the epoch is within half a week of
-- toe, given by its week and steps
abbrev pub toc_of : ℕ → ℕ → ℕ → ℕ → Result ℕ RecordFault
toc_of step moment toe_week toe = do
  whole ← need (moment % 604800 % step == 0) reasons.EpochStep
  near ← need (nat_lt (604800 * toe_week + step * toe) (moment + 302400) && nat_le moment (604800 * toe_week + step * toe + 302400)) reasons.EpochFar
  Ok (moment % 604800 / step)

-- the parts of a GPS ephemeris from its fields
unfoldable pub gps_clock_of : ℕ → List ℤ → GpsClock
gps_clock_of toc zs = record { iodc = natural zs 26; toc = toc; af2 = field zs 2; af1 = field zs 1; af0 = field zs 0; tgd = field zs 25 }

unfoldable pub gps_side_of : List ℤ → GpsSide
gps_side_of zs = record { l2_code = natural zs 20; ura = natural zs 23; health = natural zs 24; l2p = natural zs 22 }

unfoldable pub gps_orbit_a_of : List ℤ → GpsOrbitA
gps_orbit_a_of zs = record {
  iode = natural zs 3;
  crs = field zs 4;
  delta_n = field zs 5;
  m0 = field zs 6;
  cuc = field zs 7;
  e = natural zs 8;
  cus = field zs 9;
  root_a = natural zs 10;
  toe = natural zs 11;
}

unfoldable pub gps_orbit_b_of : List ℤ → GpsOrbitB
gps_orbit_b_of zs = record {
  iode = natural zs 3;
  cic = field zs 12;
  omega0 = field zs 13;
  cis = field zs 14;
  i0 = field zs 15;
  crc = field zs 16;
  omega = field zs 17;
  omega_dot = field zs 18;
  idot = field zs 19;
}

-- the GPS ephemeris of these fields
unfoldable pub gps_of : Satellite → ℕ → List ℤ → GpsEph
gps_of sat toc zs = record {
  sat = sat;
  clock = gps_clock_of toc zs;
  side = gps_side_of zs;
  a = gps_orbit_a_of zs;
  fit = natural zs 28;
  b = gps_orbit_b_of zs;
  toe_week = natural zs 21;
  sent = sent_of (field zs 27);
}

-- the parts of a Galileo ephemeris from its fields
unfoldable pub galileo_word1_of : List ℤ → GalWord1
galileo_word1_of zs = record { iodnav = natural zs 3; toe = natural zs 11; m0 = field zs 6; e = natural zs 8; root_a = natural zs 10 }

unfoldable pub galileo_word2_of : List ℤ → GalWord2
galileo_word2_of zs = record { iodnav = natural zs 3; omega0 = field zs 13; i0 = field zs 15; omega = field zs 17; idot = field zs 19 }

unfoldable pub galileo_word3_of : List ℤ → GalWord3
galileo_word3_of zs = record {
  iodnav = natural zs 3;
  omega_dot = field zs 18;
  delta_n = field zs 5;
  cuc = field zs 7;
  cus = field zs 9;
  crc = field zs 16;
  crs = field zs 4;
  sisa = natural zs 22;
}

unfoldable pub galileo_word4_of : ℕ → List ℤ → GalWord4
galileo_word4_of toc zs = record {
  iodnav = natural zs 3;
  cic = field zs 12;
  cis = field zs 14;
  toc = toc;
  af0 = field zs 0;
  af1 = field zs 1;
  af2 = field zs 2;
}

-- the health of a Galileo satellite from its number: bit 0 E1-B DVS, bits 1-2 E1-B HS, bit 6 E5b DVS, bits 7-8 E5b HS
abbrev pub health_stated : ℤ → ℤ → ℕ → GalHealth
health_stated bgd_a bgd_b n = record {
  bgd_a = bgd_a;
  bgd_b = bgd_b;
  hs_e5b = n / 128 % 4;
  hs_e1b = n / 2 % 4;
  dvs_e5b = n / 64 % 2;
  dvs_e1b = n % 2;
}

-- the Galileo ephemeris of these fields
unfoldable pub galileo_of : Satellite → ℕ → List ℤ → GalEph
galileo_of sat toc zs = record {
  sat = sat;
  w1 = galileo_word1_of zs;
  w2 = galileo_word2_of zs;
  w3 = galileo_word3_of zs;
  w4 = galileo_word4_of toc zs;
  health = health_stated (field zs 24) (field zs 25) (natural zs 23);
  toe_week = natural zs 21;
  sent = sent_of (field zs 26);
}

-- the ionosphere parameters of these fields
unfoldable pub gps_ionosphere_of : List ℤ → GpsIon
gps_ionosphere_of zs = record {
  alpha0 = field zs 0;
  alpha1 = field zs 1;
  alpha2 = field zs 2;
  alpha3 = field zs 3;
  beta0 = field zs 4;
  beta1 = field zs 5;
  beta2 = field zs 6;
  beta3 = field zs 7;
}

unfoldable pub galileo_ionosphere_of : List ℤ → GalIon
galileo_ionosphere_of zs = record { ai0 = natural zs 0; ai1 = field zs 1; ai2 = field zs 2; regions = natural zs 3 }

-- the items of the contents, or the reason why there is none
abbrev pub gps_item : Stated → Result NavItem RecordFault
gps_item s = toc_of 16 s.moment (natural s.fields 21) (natural s.fields 11) >>= λ toc. Ok (GpsItem (gps_of s.sat toc s.fields))

abbrev pub galileo_item : Stated → Result NavItem RecordFault
galileo_item s = toc_of 60 s.moment (natural s.fields 21) (natural s.fields 11) >>= λ toc. Ok (GalItem (galileo_of s.sat toc s.fields))

abbrev pub gps_ionosphere_item : Stated → Result NavItem RecordFault
gps_ionosphere_item s = Ok (IonItem (record { sat = s.sat; moment = s.moment; content = OfGps (gps_ionosphere_of s.fields) }))

abbrev pub galileo_ionosphere_item : Stated → Result NavItem RecordFault
galileo_ionosphere_item s = Ok (IonItem (record { sat = s.sat; moment = s.moment; content = OfGal (galileo_ionosphere_of s.fields) }))

-- the item of a record of each kind
abbrev pub gps_read : List ℕ → List (List ℕ) → Result NavItem RecordFault
gps_read title lines = ephemeris_stated gps_kind title lines >>= gps_item

abbrev pub galileo_read : List ℕ → List (List ℕ) → Result NavItem RecordFault
galileo_read title lines = ephemeris_stated galileo_kind title lines >>= galileo_item

abbrev pub gps_ionosphere_read : List ℕ → List (List ℕ) → Result NavItem RecordFault
gps_ionosphere_read title lines = ionosphere_stated gps_ionosphere_kind title lines >>= gps_ionosphere_item

abbrev pub galileo_ionosphere_read : List ℕ → List (List ℕ) → Result NavItem RecordFault
galileo_ionosphere_read title lines = ionosphere_stated galileo_ionosphere_kind title lines >>= galileo_ionosphere_item

-- an item, or a refusal
abbrev pub outcome : Result NavItem RecordFault → Judged
outcome (Ok item) = judgments.Item item
outcome (Err reason) = judgments.Refused reason

-- how a record is judged; records of other kinds are skipped
unfoldable pub judged : List (List ℕ) → Judged
judged [] = judgments.PassedOver
judged (title ∷ lines) =
    if is_kind gps_kind title then outcome (gps_read title lines)
    else if is_kind galileo_kind title then outcome (galileo_read title lines)
    else if is_kind gps_ionosphere_kind title then outcome (gps_ionosphere_read title lines)
    else if is_kind galileo_ionosphere_kind title then outcome (galileo_ionosphere_read title lines)
    else judgments.PassedOver
