-- The format of RINEX 3 navigation files: its versions, and how its records are judged (RINEX 3.05,
-- navigation message files; GPS LNAV and Galileo I/NAV).
use Rattle.std.specs.Prelude.{ℕ, ◌/◌, ◌%◌, ◌==◌, ◌&&◌, ◌||◌, nat_le, not, Bool, false, if◌then◌else◌, List, [], ◌∷◌, ◌++◌, length, get_or, codes, Result, Ok, Err, ℤ, pos, unsigned_abs}
use Rattle.scaled_decimal.specs.declared.reading.DecimalFault.{DecimalFault}
use Rattle.scaled_decimal.specs.ScaleValue.{size_of}
use Rattle.scaled_decimal.specs.NumberReading.{seen, read_of}
use Rattle.rinex_read.specs.declared.judged.Judged.{Judged}
use Rattle.rinex_read.specs.declared.judged.Judged.TheVariants as judgments
use Rattle.rinex_read.specs.Lines.{columns}
pub use Rattle.rinex_read.specs.Fields.{whole}
use Rattle.rinex_read.specs.Judging.{judged}
use Rattle.rinex_read.specs.declared.judged.ItemRead.{ItemRead}
use Rattle.rinex_read.specs.Forms.{Form, read_at}
use Rattle.rinex_read.specs.Files.{list_by}
use Rattle.nav_eph.specs.declared.items.NavItem.{NavItem}

-- `3.02`, `3.03`, `3.04` or `3.05`
abbrev pub is_three : List ℕ → Bool
is_three (a ∷ b ∷ c ∷ d ∷ []) = a == 51 && b == 46 && c == 48 && nat_le 50 d && nat_le d 53
is_three _ = false

-- the data sources mean I/NAV: bit 0 or bit 2 is set, and bit 1, F/NAV, is not (RINEX 3.05, Galileo record)
abbrev pub is_inav_number : ℕ → Bool
is_inav_number n = n / 2 % 2 == 0 && (n % 2 == 1 || n / 4 % 2 == 1)

-- if there is no number from 0 to 1023 it is not I/NAV
abbrev pub says_inav : Result ℤ DecimalFault → Bool
says_inav (Ok z) = is_inav_number (unsigned_abs z)
says_inav (Err fault) = false

-- the sixth line of a record says I/NAV in its data sources, columns 24-42
unfoldable pub is_inav : List (List ℕ) → Bool
is_inav lines =
    nat_le 6 (length lines) && says_inav (read_of (pos 0) (pos 1023) (seen (size_of whole) (columns 23 19 (get_or lines 5 []))))

-- the RINEX 4 title of a record, from the satellite in columns 1-3 of its first line and its message type
abbrev pub titled : List ℕ → List ℕ → List ℕ
titled message line = codes "> EPH " ++ (columns 0 3 line ++ 32 ∷ message)

-- how a record is judged: GPS, and Galileo whose data sources name I/NAV, as the RINEX 4 record
-- with the title added; others are skipped
unfoldable pub judged3 : List (List ℕ) → Judged
judged3 [] = judgments.PassedOver
judged3 (l ∷ ls) =
    if get_or l 0 32 == 71 then judged (titled (codes "LNAV") l ∷ l ∷ ls)
    else if get_or l 0 32 == 69 && is_inav (l ∷ ls) then judged (titled (codes "INAV") l ∷ l ∷ ls)
    else judgments.PassedOver

-- a record begins at each line whose first column is not blank
abbrev pub rinex3 : Form ItemRead
rinex3 = record { names = is_three; starts = λ c. not (c == 32); judged = λ number lines. read_at number (judged3 lines) }

-- the list of the items of a file
abbrev pub rinex3_list : List ℕ → List NavItem
rinex3_list = list_by rinex3
