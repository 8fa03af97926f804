-- Lines of RINEX 2 navigation files, and the lines of RINEX 3 as which they are read (RINEX 2.11, tables A3, A4, A10, A11,
-- A15 and A16; RINEX 3.05, navigation message files).
use Rattle.std.specs.Prelude.{ℕ, ◌+◌, ◌-◌, ◌==◌, ◌&&◌, ◌||◌, not, nat_lt, Bool, false, bytes_eq, codes, if◌then◌else◌, List, [], ◌∷◌, ◌++◌, get_or, length}
use Rattle.scaled_decimal.specs.NumberReading.{is_decimal, trim_end, trim_start}
use Rattle.rinex_lines.specs.Columns.{padded, part}
use Rattle.rinex_lines.specs.Dates.{frame_text, year_text}
use Rattle.rinex_lines.specs.declared.place.Place.{Place}
use Rattle.rinex_lines.specs.declared.place.Place.TheVariants.{First, Header, Joined, Body}

-- `2`, or `2.` and one digit or two
abbrev pub is_two : List ℕ → Bool
is_two (a ∷ []) = a == 50
is_two (a ∷ b ∷ c ∷ []) = a == 50 && b == 46 && is_decimal c
is_two (a ∷ b ∷ c ∷ d ∷ []) = a == 50 && b == 46 && is_decimal c && is_decimal d
is_two _ = false

-- the letter of the system of a file of this type: `N` GPS, `G` GLONASS, `H` SBAS; else a blank
abbrev pub letter_of : ℕ → ℕ
letter_of type = if type == 78 then 71 else if type == 71 then 82 else if type == 72 then 83 else 32

-- the type of such a file in RINEX 3; any other stays
abbrev pub type_of : ℕ → ℕ
type_of type = if letter_of type == 32 then type else 78

-- version 3.05 for a version 2, else none
abbrev pub version_text : Bool → List ℕ
version_text two = if two then codes "     3.05" else codes "         "

-- the first line: version in columns 1-9, type in column 21
unfoldable pub first_line : List ℕ → List ℕ
first_line line =
    ((version_text (is_two (trim_end (trim_start (part 0 9 line)))) ++ part 9 11 line) ++ type_of (get_or line 20 32) ∷ []) ++ part 21 59 line

-- a line begins a record unless its first two columns, those of the satellite, are blank
abbrev pub is_record : List ℕ → Bool
is_record line = not (get_or line 0 32 == 32 && get_or line 1 32 == 32)

-- the seconds and the column before them: if they have a fraction, that, which is no second of RINEX 3
abbrev pub second_text : List ℕ → List ℕ
second_text line = if bytes_eq (part 20 2 line) (codes ".0") then part 17 3 line else part 19 3 line

-- the third number of a record: of GLONASS the time of its frame
abbrev pub third_text : ℕ → List ℕ → List ℕ
third_text letter line = if letter == 82 then frame_text line (part 60 19 line) else part 60 19 line

-- the first line of a record: the satellite with its letter, the year in four digits, and whole seconds
unfoldable pub record_line : ℕ → List ℕ → List ℕ
record_line letter line =
    (((((letter ∷ part 0 3 line) ++ year_text (get_or line 3 32) (get_or line 4 32)) ++ part 5 12 line) ++ second_text line) ++ part 22 38 line)
    ++ third_text letter line

-- nothing but blanks
abbrev pub is_blank : List ℕ → Bool
is_blank text = length (trim_end (trim_start text)) == 0

-- the lines behind the first line of a record: seven of GPS, three of GLONASS and SBAS
abbrev pub lines_behind : ℕ → ℕ
lines_behind letter = if letter == 71 then 7 else 3

-- the record has all its lines, and one follows that begins none: it belongs to a record without its first line
abbrev pub is_stray : ℕ → ℕ → List ℕ → Bool
is_stray letter count line = count == lines_behind letter && not (is_blank line)

-- a header begins with this line: its label is in columns 61-80
abbrev pub is_version : List ℕ → Bool
is_version line = bytes_eq (part 60 20 line) (codes "RINEX VERSION / TYPE")

-- the header ends with this line: its label is in columns 61-73
abbrev pub is_end : List ℕ → Bool
is_end line = bytes_eq (part 60 13 line) (codes "END OF HEADER")

-- a line that begins no record: it has one column more in RINEX 3, of which the letter makes it a record without a satellite
abbrev pub further_line : Bool → ℕ → List ℕ → List ℕ
further_line stray letter line = (if stray then letter else 32) ∷ part 0 79 line

-- a line that begins a further header: behind a whole record it is blank, as the fifth line that GLONASS has in RINEX 3; else
-- it is a line of the record that has no numbers
abbrev pub version_line : ℕ → ℕ → List ℕ → List ℕ
version_line letter count line = if count == lines_behind letter then padded [] else further_line false letter line

-- a line after the header, behind so many of a record
abbrev pub body_line : ℕ → ℕ → List ℕ → List ℕ
body_line letter count line =
    if is_version line then version_line letter count line
    else if is_record line then record_line letter line
    else further_line (is_stray letter count line) letter line

-- the line as which one is read, by its place in the file
abbrev pub line_at : Place → List ℕ → List ℕ
line_at First line = first_line line
line_at (Header letter) line = line
line_at (Joined letter) line = further_line false letter line
line_at (Body letter count) line = body_line letter count line

-- after a header no line of a record is due
abbrev pub body_of : ℕ → Place
body_of letter = Body letter (lines_behind letter)

-- the number of lines behind the first of a record, if this one follows so many
abbrev pub count_after : ℕ → ℕ → List ℕ → ℕ
count_after letter count line =
    if is_record line || is_stray letter count line then 0
    else if nat_lt count (lines_behind letter) then count + 1
    else count

-- the place of the line behind
abbrev pub after : Place → List ℕ → Place
after First line = Header (letter_of (get_or line 20 32))
after (Header letter) line = if is_end line then body_of letter else Header letter
after (Joined letter) line = if is_end line then body_of letter else Joined letter
after (Body letter count) line =
    if is_version line then Joined (letter_of (get_or line 20 32))
    else Body letter (count_after letter count line)

-- the last number of the line ends in this column, the first being 1
abbrev pub ends_in : ℕ → List ℕ → Bool
ends_in column line = not (get_or line (column - 1) 32 == 32) && is_blank (part column (79 - column) line)

-- the line ends with a complete number: numbers end in columns 22, 41, 60 and 79
abbrev pub is_whole : List ℕ → Bool
is_whole line = ends_in 22 line || ends_in 41 line || ends_in 60 line || ends_in 79 line

-- the last line, if no line end is behind it, is cut off inside a number, or begins with the mark of an end (SUB, 26)
abbrev pub is_cut : Place → List ℕ → Bool
is_cut (Body letter count) line =
    get_or line 0 32 == 26 || (not (is_record line) && nat_lt count (lines_behind letter) && not (is_whole line))
is_cut _ line = false

-- the lines as which one is read: a last one that is cut off is none
abbrev pub lines_at : Bool → Place → List ℕ → List (List ℕ)
lines_at unended place line = if unended && is_cut place line then [] else line_at place line ∷ []
