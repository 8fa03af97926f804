-- The kind of a record that is none of GPS LNAV and Galileo I/NAV.
use Rattle.std.specs.Prelude.{ℕ, ◌+◌, ◌-◌, ◌*◌, ◌/◌, ◌%◌, ◌==◌, ◌&&◌, ◌||◌, nat_lt, Bool, true, false, if◌then◌else◌, List, [], ◌∷◌, length, get_or, codes, Option, None, Some, Result, Ok, Err, ℤ, pos, unsigned_abs}
use Rattle.scaled_decimal.specs.NumberReading.{is_decimal, read_of, seen}
use Rattle.scaled_decimal.specs.ScaleValue.{size_of}
use Rattle.scaled_decimal.specs.declared.reading.DecimalFault.{DecimalFault}
use Rattle.rinex_read.specs.Form3.{whole}
use Rattle.rinex_read.specs.Lines.{columns}
use Rattle.nav_rows.specs.Kinds.{is_titled}
use Rattle.nav_rows.specs.declared.kind.Kind.{Kind}
use Rattle.all_systems.specs.Readings.{beidou_kind}
use Rattle.all_systems.specs.declared.kinds.Kinds.{Kinds}
use Rattle.all_systems.specs.declared.version.Version.{Version}
use Rattle.all_systems.specs.declared.version.Version.TheVariants.{Four, Three}

-- the kind that a title of RINEX 4 names
abbrev pub titled_kind : Kinds → List ℕ → Option Kind
titled_kind ks title =
    if is_titled 82 (codes "FDMA") title then Some ks.fdma
    else if is_titled 67 (codes "D1") title then Some ks.d1
    else if is_titled 67 (codes "D2") title then Some ks.d2
    else if is_titled 69 (codes "FNAV") title then Some ks.fnav
    else if is_titled 74 (codes "LNAV") title then Some ks.qzss
    else if is_titled 73 (codes "LNAV") title then Some ks.navic
    else if is_titled 83 (codes "SBAS") title then Some ks.sbas
    else None

-- the data sources mean F/NAV: bits 0 and 2, of I/NAV, are clear, and bit 1 is set or, of the bits of the
-- clock, bit 8 alone (RINEX 3.05, Galileo record)
abbrev pub is_fnav_number : ℕ → Bool
is_fnav_number n = n % 2 == 0 && n / 4 % 2 == 0 && (n / 2 % 2 == 1 || (n / 256 % 2 == 1 && n / 512 % 2 == 0))

-- if there is no number from 0 to 1023 it is not F/NAV
abbrev pub says_fnav : Result ℤ DecimalFault → Bool
says_fnav (Ok z) = is_fnav_number (unsigned_abs z)
says_fnav (Err fault) = false

-- the sixth line of a record says F/NAV in its data sources, columns 24-42; a record without that line is taken for one, and is short
unfoldable pub is_fnav : List (List ℕ) → Bool
is_fnav lines =
    if nat_lt (length lines) 6 then true
    else says_fnav (read_of (pos 0) (pos 1023) (seen (size_of whole) (columns 23 19 (get_or lines 5 []))))

-- a decimal digit, or 0
abbrev pub digit : ℕ → ℕ
digit c = if is_decimal c then c - 48 else 0

-- the number of the satellite with which a line begins
abbrev pub sat_number : List ℕ → ℕ
sat_number line = 10 * digit (get_or line 1 32) + digit (get_or line 2 32)

-- the kind that the letter of a system names alone
abbrev pub single_kind : Kinds → ℕ → Option Kind
single_kind ks letter =
    if letter == 82 then Some ks.fdma
    else if letter == 74 then Some ks.qzss
    else if letter == 73 then Some ks.navic
    else if letter == 83 then Some ks.sbas
    else None

-- of Galileo it is F/NAV if the data sources say so
abbrev pub galileo_kind : Kinds → List (List ℕ) → Option Kind
galileo_kind ks lines = if is_fnav lines then Some ks.fnav else None

-- the kind of a record that begins with this letter and this satellite; of BeiDou D1 or D2 by the satellite
abbrev pub letter_kind : Kinds → ℕ → ℕ → List (List ℕ) → Option Kind
letter_kind ks letter satellite lines =
    if letter == 67 then Some (beidou_kind ks satellite)
    else if letter == 69 then galileo_kind ks lines
    else single_kind ks letter

-- the kind of a record of RINEX 3 with this first line, which has no title
abbrev pub lettered_kind : Kinds → List ℕ → List (List ℕ) → Option Kind
lettered_kind ks first lines = letter_kind ks (get_or first 0 32) (sat_number first) lines

-- the kind of the lines of a record
abbrev pub kind_in : Kinds → Version → List (List ℕ) → Option Kind
kind_in ks v [] = None
kind_in ks Four (l ∷ ls) = titled_kind ks l
kind_in ks Three (l ∷ ls) = lettered_kind ks l (l ∷ ls)
