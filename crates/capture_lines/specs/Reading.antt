-- The content of a line as a function of its text: the digits at its start and the words after them. `item_of` is the only
-- content that meets `StandsFor`.
use Rattle.std.specs.Prelude.{ℕ, ◌+◌, ◌-◌, ◌*◌, ◌^◌, Bool, List, length, take, drop, slice_index, codes, nat_eq, nat_lt, nat_le, ◌==◌, ◌&&◌, ◌||◌, if◌then◌else◌, Option, Some, None, Result, Ok, Err}
use Rattle.std.specs.List.{prefix_len, list_all, starts_with}
use Rattle.std.specs.Char.{is_ascii_digit}
use Rattle.std.specs.Str.Parse.{digits_value}
use Rattle.hex.specs.Hex.{decode_of, decode_sized}
use Rattle.hex.specs.declared.error.FromHexError.{FromHexError}
use Rattle.nav_eph.specs.Satellite.{Satellite, most}
use Rattle.nav_eph.specs.declared.sat.System.{System}
use Rattle.nav_eph.specs.declared.sat.System.TheVariants.{Gps, Gal}
use Rattle.nav_eph.specs.declared.signal.Signal.{Signal}
use Rattle.nav_eph.specs.declared.signal.Signal.TheVariants.{E1b, E5b}
use Rattle.capture_lines.specs.declared.item.LineItem.{LineItem}
use Rattle.capture_lines.specs.declared.item.LineItem.TheVariants.{Pass, Lnav, Half, Frame, Malformed}

-- the line begins with `#` or has only spaces
abbrev pub is_comment : List ℕ → Bool
is_comment line = slice_index line 0 == 35 || list_all (λ c. c == 32) line

-- the line is skipped: a comment of at most 2,200 bytes
abbrev pub is_passed : List ℕ → Bool
is_passed line = nat_le (length line) 2200 && is_comment line

-- the number of one to ten digits, below 2^32
unfoldable pub number_in : List ℕ → Option ℕ
number_in digits =
    if nat_lt 0 (length digits) && (nat_le (length digits) 10 && nat_lt (digits_value 10 digits) (2 ^ 32))
    then Some (digits_value 10 digits) else None

-- the satellite of a system with a number of two digits, if it is in range
unfoldable pub satellite_in : System → ℕ → ℕ → Option Satellite
satellite_in system tens units =
    let number = (tens - 48) * 10 + (units - 48) in
    if is_ascii_digit tens && (is_ascii_digit units && (nat_le 1 number && nat_le number (most system)))
    then Some (record { system = system; number = number }) else None

-- the signal of its letter
unfoldable pub signal_in : ℕ → Option Signal
signal_in letter = if letter == 66 then Some E1b else if letter == 53 then Some E5b else None

-- a subframe of the satellite and bits read, or malformed
abbrev pub lnav_with : ℕ → Option Satellite → Result (List ℕ) FromHexError → LineItem
lnav_with stamp (Some sat) (Ok bits) = Lnav stamp sat bits
lnav_with stamp (Some sat) (Err e) = Malformed
lnav_with stamp None bits = Malformed

-- a page part of the satellite, signal and bits read, or malformed
abbrev pub half_with : ℕ → Option Satellite → Option Signal → Result (List ℕ) FromHexError → LineItem
half_with stamp (Some sat) (Some signal) (Ok bits) = Half stamp sat signal bits
half_with stamp (Some sat) (Some signal) (Err e) = Malformed
half_with stamp (Some sat) None bits = Malformed
half_with stamp None signal bits = Malformed

-- a frame of the bytes read, or malformed
abbrev pub frame_with : ℕ → Result (List ℕ) FromHexError → LineItem
frame_with stamp (Ok bytes) = Frame stamp (record { items = bytes })
frame_with stamp (Err e) = Malformed

-- the item after ` L G`
unfoldable pub lnav_in : ℕ → List ℕ → LineItem
lnav_in stamp rest =
    if slice_index rest 6 == 32
    then lnav_with stamp (satellite_in Gps (slice_index rest 4) (slice_index rest 5)) (decode_sized (drop 7 rest) 38)
    else Malformed

-- the item after ` P E`
unfoldable pub half_in : ℕ → List ℕ → LineItem
half_in stamp rest =
    if slice_index rest 6 == 32 && slice_index rest 8 == 32
    then half_with stamp (satellite_in Gal (slice_index rest 4) (slice_index rest 5)) (signal_in (slice_index rest 7))
    (decode_sized (drop 9 rest) 15)
    else Malformed

-- the item after ` R `
unfoldable pub frame_in : ℕ → List ℕ → LineItem
frame_in stamp digits =
    if nat_le 12 (length digits) && nat_le (length digits) 2058 then frame_with stamp (decode_of digits) else Malformed

-- the item of a time tag and the text after it
unfoldable pub form_in : ℕ → List ℕ → LineItem
form_in stamp rest =
    if starts_with nat_eq rest (codes " L G") then lnav_in stamp rest
    else if starts_with nat_eq rest (codes " P E") then half_in stamp rest
    else if starts_with nat_eq rest (codes " R ") then frame_in stamp (drop 3 rest)
    else Malformed

-- the item of the time tag read, if any, and the text after it
abbrev pub item_with : Option ℕ → List ℕ → LineItem
item_with (Some stamp) rest = form_in stamp rest
item_with None rest = Malformed

-- the content of the line
unfoldable pub item_of : List ℕ → LineItem
item_of line =
    if is_passed line then Pass
    else item_with (number_in (take (prefix_len is_ascii_digit line) line)) (drop (prefix_len is_ascii_digit line) line)
