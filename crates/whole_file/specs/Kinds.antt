-- The format of a file, from its first bytes.
use Rattle.std.specs.Prelude.{◌==◌, nat_eq, nat_lt, ◌&&◌, ◌||◌, ℕ, Bool, true, false, if◌then◌else◌, List, [], ◌∷◌, length, take, drop, codes, slice_index, Option, None, Some, unwrap_or}
use Rattle.std.specs.List.{starts_with}
use Rattle.whole_file.specs.Units.{first_unit}
use Rattle.whole_file.specs.declared.kinds.Kind.{Kind}
use Rattle.whole_file.specs.declared.kinds.Kind.TheVariants.{Empty, Capture1, Capture2, Rinex4, Rinex3, Rinex2, Observations, Hatanaka, OtherRinex, Stream, Ubx, Sbf, Nmea, Gzip, Compress, Zip, Marked, Unknown}

-- the bytes begin with this signature
abbrev pub begins : List ℕ → List ℕ → Bool
begins mark bytes = starts_with nat_eq bytes mark

-- this text stands at this byte offset
abbrev pub stands_at : ℕ → List ℕ → List ℕ → Bool
stands_at place text bytes = starts_with nat_eq (drop place bytes) text

-- the first character that is not a blank; a blank if there is none
abbrev pub first_char : List ℕ → ℕ
first_char [] = 32
first_char (x ∷ xs) = if x == 32 then first_char xs else x

-- the first character of the RINEX version in columns 1-9, or a blank
abbrev pub version_of : List ℕ → ℕ
version_of prefix = first_char (take 9 prefix)

-- of another type: in version 2 `G` is navigation of GLONASS, and `H` of SBAS
abbrev pub other_kind : List ℕ → Kind
other_kind prefix =
    if (stands_at 20 (codes "G") prefix || stands_at 20 (codes "H") prefix) && version_of prefix == 50 then Rinex2 else OtherRinex

-- a RINEX file, by its type in column 21: `O` observations, `N` navigation, and then by its version
unfoldable pub rinex_kind : List ℕ → Kind
rinex_kind prefix =
    if stands_at 20 (codes "O") prefix then Observations
    else if stands_at 20 (codes "N") prefix then
    (if version_of prefix == 52 then Rinex4
    else if version_of prefix == 51 then Rinex3
    else if version_of prefix == 50 then Rinex2
    else OtherRinex)
    else other_kind prefix

-- a text: a capture, a log of SBF or NMEA, one with a UTF-8 byte order mark, or RINEX by the label in columns 61-80
unfoldable pub text_kind : List ℕ → Kind
text_kind prefix =
    if begins (codes "NAVCAP 1") prefix then Capture1
    else if begins (codes "NAVCAP 2") prefix then Capture2
    else if begins (codes "$@") prefix then Sbf
    else if begins (codes "$G") prefix then Nmea
    else if begins (239 ∷ 187 ∷ 191 ∷ []) prefix then Marked
    else if stands_at 60 (codes "CRINEX VERS   / TYPE") prefix then Hatanaka
    else if stands_at 60 (codes "RINEX VERSION / TYPE") prefix then rinex_kind prefix
    else Unknown

-- Bytes that are not text: an RTCM 3 frame, whose preamble is followed by six reserved bits of 0 and ten bits of length; a UBX
-- message; and the signatures of gzip, compress and zip.
unfoldable pub binary_kind : List ℕ → Kind
binary_kind prefix =
    if begins (0xd3 ∷ []) prefix then (if nat_lt 1 (length prefix) && nat_lt (slice_index prefix 1) 4 then Stream else Unknown)
    else if begins (0xb5 ∷ 0x62 ∷ []) prefix then Ubx
    else if begins (0x1f ∷ 0x8b ∷ []) prefix then Gzip
    else if begins (0x1f ∷ 0x9d ∷ []) prefix then Compress
    else if begins (codes "PK") prefix then Zip
    else Unknown

-- the second kind if the first is unknown
abbrev pub or_else : Kind → Kind → Kind
or_else Unknown kind = kind
or_else Empty kind = Empty
or_else Capture1 kind = Capture1
or_else Capture2 kind = Capture2
or_else Rinex4 kind = Rinex4
or_else Rinex3 kind = Rinex3
or_else Rinex2 kind = Rinex2
or_else Observations kind = Observations
or_else Hatanaka kind = Hatanaka
or_else OtherRinex kind = OtherRinex
or_else Stream kind = Stream
or_else Ubx kind = Ubx
or_else Sbf kind = Sbf
or_else Nmea kind = Nmea
or_else Gzip kind = Gzip
or_else Compress kind = Compress
or_else Zip kind = Zip
or_else Marked kind = Marked

-- the format that these first bytes show
unfoldable pub prefix_kind : List ℕ → Kind
prefix_kind prefix = if length prefix == 0 then Empty else or_else (binary_kind prefix) (text_kind prefix)

-- what a file tells by its first line or signature alone, whatever follows: a capture, a file of RINEX, or one compressed by gzip
abbrev pub is_head : Kind → Bool
is_head Capture1 = true
is_head Capture2 = true
is_head Rinex4 = true
is_head Rinex3 = true
is_head Rinex2 = true
is_head Observations = true
is_head Hatanaka = true
is_head OtherRinex = true
is_head Gzip = true
is_head kind = false

-- the format by what the first 80 bytes show, and by the first complete unit
abbrev pub decided_by : Kind → Option Kind → Kind
decided_by head unit = if is_head head then head else unwrap_or unit head

-- The format of a file with these bytes: that of its head; else that of the first complete unit in
-- the first 65,536 bytes; and if there is none what the first 80 bytes show.
unfoldable pub kind_of : List ℕ → Kind
kind_of bytes = decided_by (prefix_kind (take 80 bytes)) (first_unit (take 65536 bytes))

-- the format that is named, or else the one that the first bytes show; a capture that names its
-- week is read as one that does, and where RINEX is named a file by its version
abbrev pub form_of : Option Kind → Kind → Kind
form_of None told = told
form_of (Some Capture1) Capture2 = Capture2
form_of (Some Rinex4) Rinex3 = Rinex3
form_of (Some Rinex4) Rinex2 = Rinex2
form_of (Some named) told = named
