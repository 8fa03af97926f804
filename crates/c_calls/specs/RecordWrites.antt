-- Headers and records of navigation files, written of raw numbers.
use Rattle.std.specs.Prelude.{◌≡◌, ◌<◌, ℕ, ◌==◌, nat_le, Bool, if◌then◌else◌, IsTrue, codes, List, Option, None, Some}
use Rattle.std.specs.List.{list_all}
use Rattle.nav_eph.specs.declared.items.NavItem.{NavItem}
use Rattle.rinex_write.specs.declared.words.HeaderWords.{HeaderWords}
use Rattle.rinex_write.specs.Texts.{header_lines_by, item_lines, text_of}
use Rattle.rinex_write.specs.Texts3.{item3_lines}
use Rattle.raw_values.specs.Rooms.{StandsIn}
use Rattle.c_calls.specs.declared.record_writes.HeaderRaw.{HeaderRaw}

-- a byte of a text, and no control character
abbrev pub is_shown : ℕ → Bool
is_shown byte = nat_le 32 byte

-- the date can are in a line, and the leap seconds in two columns
abbrev pub IsHeader : HeaderRaw → Type 0
IsHeader header = IsTrue (list_all is_shown header.date) × (header.leap < 100)

-- the words of a header are these
abbrev pub IsStatedBy : HeaderRaw → HeaderWords → Type 0
IsStatedBy header words = (words.date ≡ header.date) × (words.leap ≡ header.leap)

-- columns 1 to 9 of the first line of a file of version 3 or 4
abbrev pub version_columns : ℕ → List ℕ
version_columns version = if version == 4 then codes "     4.01" else codes "     3.05"

-- the header of a file of version 3 or 4
abbrev pub header_text : ℕ → HeaderWords → List ℕ
header_text version words = text_of (header_lines_by (version_columns version) words)

-- the record of an item in a file of version 3 or 4
abbrev pub record_text : ℕ → NavItem → List ℕ
record_text version item = if version == 4 then text_of (item_lines item) else text_of (item3_lines item)

-- the record is in the buffer and the result is 0; version 3 has none for ionospheric parameters
abbrev pub PutsRecord : ℕ → Option NavItem → List ℕ → List ℕ → ℕ → ℕ → Type 0
PutsRecord version None old new used status = ⊥
PutsRecord version (Some item) old new used status = (status ≡ 0) × StandsIn old new used (record_text version item)
