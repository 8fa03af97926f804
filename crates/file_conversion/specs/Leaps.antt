-- The leap seconds of the header of a navigation file.
use Rattle.std.specs.Prelude.{ℕ, ◌+◌, ◌-◌, ◌*◌, ◌&&◌, not, nat_eq, nat_le, Bool, if◌then◌else◌, bytes_eq, codes, List, length, take, drop, get_or, Option, None, Some}
use Rattle.std.specs.Char.{is_ascii_digit}

-- the number of one or two digits, of which the first may be blank
abbrev pub leap_in : ℕ → ℕ → Option ℕ
leap_in tens ones =
    if not (is_ascii_digit ones) then None
    else if nat_eq tens 32 then Some (ones - 48)
    else if is_ascii_digit tens then Some (10 * (tens - 48) + (ones - 48)) else None

-- the line has leap seconds of GPS time: its label stands in columns 61 to 72, no `BDS` in columns 25 to 27, and columns 1 to 4 are blank
abbrev pub has_leap : List ℕ → Bool
has_leap line =
    nat_le 72 (length line) && bytes_eq (take 12 (drop 60 line)) (codes "LEAP SECONDS") && not (bytes_eq (take 3 (drop 24 line)) (codes "BDS"))
    && bytes_eq (take 4 line) (codes "    ")

-- the leap seconds in columns 1 to 6 of a line
abbrev pub leap_of : List ℕ → Option ℕ
leap_of line = if has_leap line then leap_in (get_or line 4 0) (get_or line 5 0) else None
