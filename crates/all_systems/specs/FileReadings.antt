-- The records of all systems in a navigation file: what one gives, and what is reported of it.
use Rattle.std.specs.Prelude.{ℕ, nat_le, not, Bool, bytes_eq, if◌then◌else◌, List, [], ◌∷◌, codes, get_or, length, map, replicate, set, take, Option, None, Some, Result, Ok, Err}
use Rattle.std.proofs.Common.{inl, inr}
use Rattle.std.specs.List.{prefix_len}
use Rattle.one_run.specs.Reports.{report_line}
use Rattle.rinex_read.specs.Form3.{judged3}
use Rattle.rinex_read.specs.Judging.{judged}
use Rattle.rinex_read.specs.Kept.{padded}
use Rattle.rinex_read.specs.Lines.{columns}
use Rattle.rinex_read.specs.declared.judged.Judged.{Judged}
use Rattle.rinex_read.specs.declared.judged.Judged.TheVariants.{Item as ItemOf, Refused, PassedOver}
use Rattle.rinex_read.specs.declared.reason.RecordFault.{RecordFault}
use Rattle.rinex_read.specs.declared.reason.RecordFault.TheVariants as reasons
use Rattle.nav_files.specs.Files.{reason_text}
use Rattle.nav_rows.specs.Reading.{read_lines_of, row_read}
use Rattle.nav_rows.specs.Rows.{RowValue}
use Rattle.nav_rows.specs.declared.kind.Kind.{Kind}
use Rattle.all_systems.specs.Readings.{Item}
use Rattle.all_systems.specs.declared.kinds.Kinds.{Kinds}
use Rattle.all_systems.specs.Selecting.{kind_in}
use Rattle.all_systems.specs.declared.version.Version.{Version}
use Rattle.all_systems.specs.declared.version.Version.TheVariants.{Four, Three}

-- why a record gives no item: it is rejected for a reason, its lines are carried, or it is of a kind that is not read
pub data NoItem : Type 0 where
  refused : RecordFault → NoItem
  carried : List (List ℕ) → NoItem
  passed : NoItem

-- what a record gives
abbrev pub Reading : Type 0
Reading = Result Item NoItem

-- a title of RINEX 4 with nothing but the satellite with which a line begins
abbrev pub sat_title : List ℕ → List ℕ
sat_title line = set (set (set (replicate 80 32) 6 (get_or line 0 32)) 7 (get_or line 1 32)) 8 (get_or line 2 32)

-- the row of the lines of a record of a kind, or the first reason
abbrev pub row_in : Version → Kind → List (List ℕ) → Result RowValue RecordFault
row_in Four k lines = read_lines_of k lines
row_in Three k [] = Err reasons.Short
row_in Three k (l ∷ ls) = row_read k (sat_title l) (l ∷ ls)

abbrev pub row_reading : Kind → Result RowValue RecordFault → Reading
row_reading k (Ok row) = Ok (inr (record { kind = k; row = row }))
row_reading k (Err reason) = Err (refused reason)

-- a record of another kind: in RINEX 4 its lines are carried, if there are at most 12
abbrev pub other_reading : Version → List (List ℕ) → NoItem
other_reading Four lines = if nat_le (length lines) 12 then carried lines else passed
other_reading Three lines = passed

abbrev pub kind_reading : Option Kind → Version → List (List ℕ) → Reading
kind_reading None v lines = Err (other_reading v lines)
kind_reading (Some k) v lines = row_reading k (row_in v k lines)

-- the reading of the lines of a record that is none of GPS LNAV and Galileo I/NAV
abbrev pub lines_reading : Kinds → Version → List (List ℕ) → Reading
lines_reading ks v lines = kind_reading (kind_in ks v lines) v lines

-- the line begins no header, which has a label in columns 61 to 80
abbrev pub is_own : List ℕ → Bool
is_own line = not (bytes_eq (columns 60 20 line) (codes "RINEX VERSION / TYPE"))

-- the lines of a record up to the header of a file that was joined to its own
abbrev pub own_lines : List (List ℕ) → List (List ℕ)
own_lines lines = take (prefix_len is_own lines) lines

-- how a record is judged as one of GPS LNAV, Galileo I/NAV or their ionosphere parameters
abbrev pub nav_judged : Version → List (List ℕ) → Judged
nav_judged Four lines = judged lines
nav_judged Three lines = judged3 lines

-- the reading of a record of these lines that is judged so; of the lines of any other record only those that are stored matter
abbrev pub reading_by : Kinds → Version → List (List ℕ) → Judged → Reading
reading_by ks v lines (ItemOf item) = Ok (inl item)
reading_by ks v lines (Refused reason) = Err (refused reason)
reading_by ks v lines PassedOver = lines_reading ks v (own_lines (map padded (take 18 lines)))

-- the reading of a record
abbrev pub reading_in : Kinds → Version → List (List ℕ) → Reading
reading_in ks v lines = reading_by ks v lines (nav_judged v lines)

-- a record, by the number of its first line
pub record LineRead : Type 0 where
  pub line : ℕ
  pub reading : Reading

-- the readings of records
abbrev pub readings : List LineRead → List Reading
readings reads = map (λ (r : LineRead). r.reading) reads

-- the report line of a rejected record: the number of its first line, and the reason
abbrev pub reading_report : ℕ → Reading → List ℕ
reading_report line (Ok item) = []
reading_report line (Err passed) = []
reading_report line (Err (carried lines)) = []
reading_report line (Err (refused reason)) = report_line (codes "line") line (reason_text reason)

-- 1 for a rejected record, for one of a kind that is not read, for one that is carried, and for an item, else 0
abbrev pub is_refused : Reading → ℕ
is_refused (Ok item) = 0
is_refused (Err passed) = 0
is_refused (Err (carried lines)) = 0
is_refused (Err (refused reason)) = 1

abbrev pub is_passed : Reading → ℕ
is_passed (Ok item) = 0
is_passed (Err passed) = 1
is_passed (Err (carried lines)) = 0
is_passed (Err (refused reason)) = 0

abbrev pub is_carried : Reading → ℕ
is_carried (Ok item) = 0
is_carried (Err passed) = 0
is_carried (Err (carried lines)) = 1
is_carried (Err (refused reason)) = 0

abbrev pub is_item : Reading → ℕ
is_item (Ok item) = 1
is_item (Err fault) = 0
