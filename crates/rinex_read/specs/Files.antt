-- Navigation files of a format as read: the header, the records with their line numbers, and the
-- list of items (RINEX 4.01 and 3.05, header section and navigation records).
use Rattle.std.specs.Prelude.{◌≡◌, ℕ, ◌+◌, ◌-◌, ◌&&◌, Bool, if◌then◌else◌, List, [], ◌∷◌, ◌++◌, codes, length, take, Result, Ok, Err}
use Rattle.nav_eph.specs.declared.items.NavItem.{NavItem}
use Rattle.rinex_read.specs.declared.judged.ItemRead.{ItemRead}
use Rattle.rinex_read.specs.declared.judged.ItemRead.TheVariants.{Item, Refused, PassedOver}
use Rattle.rinex_read.specs.declared.judged.HeaderFault.{HeaderFault}
use Rattle.rinex_read.specs.declared.judged.HeaderFault.TheVariants.{NotRinexNav, Version}
use Rattle.rinex_read.specs.Lines.{stands_at, lines_of, ended_lines}
use Rattle.rinex_read.specs.Forms.{Form, is_version, begins, rinex4}

-- the first line is that of a navigation file: the label in columns 61-80, and `N` in column 21
unfoldable pub is_navigation : List ℕ → Bool
is_navigation line = stands_at 60 (codes "RINEX VERSION / TYPE") line && stands_at 20 (codes "N") line

-- the line ends the header: the label is in columns 61-73
unfoldable pub ends_header : List ℕ → Bool
ends_header line = stands_at 60 (codes "END OF HEADER") line

-- the lines after a header, and how many lines were before them
pub record Body : Type 0 where
  pub number : ℕ
  pub lines : List (List ℕ)

-- what follows the next line that ends a header, n lines being before these
abbrev pub header_passed : ℕ → List (List ℕ) → Result Body HeaderFault
header_passed n [] = Err NotRinexNav
header_passed n (l ∷ ls) = if ends_header l then Ok (record { number = n + 1; lines = ls }) else header_passed (n + 1) ls

-- what follows the header at the start of these lines
abbrev pub header_of : {R : Type 0} → Form R → ℕ → List (List ℕ) → Result Body HeaderFault
header_of f n [] = Err NotRinexNav
header_of f n (l ∷ ls) =
    if is_navigation l then (if is_version f l then header_passed (n + 1) ls else Err Version) else Err NotRinexNav

-- the lines before the next that begins a record
abbrev pub up_to_next : {R : Type 0} → Form R → List (List ℕ) → List (List ℕ)
up_to_next f [] = []
up_to_next f (l ∷ ls) = if begins f l then [] else l ∷ up_to_next f ls

-- the records of some lines, n lines being before them: a record is a line that begins one and the lines up to the next such
-- line or the end
abbrev pub reads : {R : Type 0} → Form R → ℕ → List (List ℕ) → List R
reads f n [] = []
reads f n (l ∷ ls) =
    if begins f l then f.judged (n + 1) (l ∷ up_to_next f ls) ∷ reads f (n + 1) ls else reads f (n + 1) ls

-- the records after a header
abbrev pub reads_behind : {R : Type 0} → Form R → Result Body HeaderFault → Result (List R) HeaderFault
reads_behind f (Ok body) = Ok (reads f body.number body.lines)
reads_behind f (Err fault) = Err fault

-- the records of the bytes of a file
abbrev pub file_reads : {R : Type 0} → Form R → List ℕ → Result (List R) HeaderFault
file_reads f bytes = reads_behind f (header_of f 0 (lines_of bytes))

-- all but the last
abbrev pub but_last : {X : Type 0} → List X → List X
but_last [] = []
but_last (x ∷ []) = []
but_last (x ∷ y ∷ ys) = x ∷ but_last (y ∷ ys)

-- the records that are complete whatever lines follow: those after which another one begins
abbrev pub whole_behind : {R : Type 0} → Result (List R) HeaderFault → Result (List R) HeaderFault
whole_behind (Ok rs) = Ok (but_last rs)
whole_behind (Err fault) = Err fault

-- the same of the first lines of a file
abbrev pub whole_in : {R : Type 0} → Form R → List (List ℕ) → Result (List R) HeaderFault
whole_in f lines = whole_behind (reads_behind f (header_of f 0 lines))

-- the same of the first bytes of a file
abbrev pub whole_reads : {R : Type 0} → Form R → List ℕ → Result (List R) HeaderFault
whole_reads f bytes = whole_in f (ended_lines bytes)

-- the records of a file, none if its header is rejected
abbrev pub records_in : {R : Type 0} → Result (List R) HeaderFault → List R
records_in (Ok rs) = rs
records_in (Err fault) = []

-- the records that are complete in all bytes but the last 4,096
abbrev pub early_reads : {R : Type 0} → Form R → List ℕ → List R
early_reads f bytes = records_in (whole_reads f (take (length bytes - 4096) bytes))

-- the records begin with these
abbrev pub BeginWith : {R : Type 0} → List R → List R → Type 0
BeginWith {R} all some = (rest : List R) × (all ≡ some ++ rest)

-- the items of the records
abbrev pub items_of : List ItemRead → List NavItem
items_of [] = []
items_of (Item line item ∷ rs) = item ∷ items_of rs
items_of (Refused line reason ∷ rs) = items_of rs
items_of (PassedOver line ∷ rs) = items_of rs

abbrev pub items_read : Result (List ItemRead) HeaderFault → List NavItem
items_read (Ok rs) = items_of rs
items_read (Err fault) = []

-- the list of the items of a file
abbrev pub list_by : Form ItemRead → List ℕ → List NavItem
list_by f bytes = items_read (file_reads f bytes)

-- of a file of version 4
abbrev pub rinex_list : List ℕ → List NavItem
rinex_list = list_by rinex4
