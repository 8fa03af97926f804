-- The order of carried records: by date, type, system, satellite and message type, and then by their text.
use Rattle.std.specs.Prelude.{ℕ, ◌+◌, ◌*◌, ◌==◌, bytes_eq, if◌then◌else◌, List, [], ◌∷◌, codes, get_or, Result, Ok, Err, ℤ, pos, negsuc}
use Rattle.std.specs.Cmp.Lexicographic.{slice_cmp}
use Rattle.std.specs.Ordering.{int_cmp, nat_cmp, on, then_cmp}
use Rattle.std.specs.declared.cmp.Ordering.{Ordering}
use Rattle.rinex_lines.specs.CarriedLines.{record_text}
use Rattle.rinex_read.specs.Judging.{moment_at}
use Rattle.rinex_read.specs.Lines.{columns}
use Rattle.rinex_read.specs.declared.reason.RecordFault.{RecordFault}
use Rattle.all_systems.specs.Selecting.{digit}

-- the type of record in columns 3 to 5 of a title, as the place of the first of its seven systems; an unknown one is the last
abbrev pub type_place : List ℕ → ℕ
type_place name =
    if bytes_eq name (codes "EPH") then 0
    else if bytes_eq name (codes "ION") then 7
    else if bytes_eq name (codes "STO") then 14
    else if bytes_eq name (codes "EOP") then 21
    else 28

-- the place of the system of a letter: G E R C J I, and S or another one
abbrev pub letter_place : ℕ → ℕ
letter_place letter =
    if letter == 71 then 0
    else if letter == 69 then 1
    else if letter == 82 then 2
    else if letter == 67 then 3
    else if letter == 74 then 4
    else if letter == 73 then 5
    else 6

-- message types that begin with C come before those that are read, others behind them
abbrev pub message_place : ℕ → ℤ
message_place letter = if letter == 67 then negsuc 0 else pos 255

-- a record whose date cannot be read comes before all others
abbrev pub undated : List ℤ
undated = negsuc 0 ∷ pos 0 ∷ pos 0 ∷ pos 0 ∷ pos 0 ∷ []

-- what comes first of a record with this title and this moment
abbrev pub front_by : List ℕ → Result ℕ RecordFault → List ℤ
front_by title (Ok moment) =
    pos moment ∷ pos (type_place (columns 2 3 title) + letter_place (get_or title 6 32))
    ∷ pos (10 * digit (get_or title 7 32) + digit (get_or title 8 32)) ∷ message_place (get_or title 10 32) ∷ pos 0 ∷ []
front_by title (Err reason) = undated

-- what comes first of the lines of a record: the date is in columns 5 to 23 of the first line after the title
abbrev pub carried_front : List (List ℕ) → List ℤ
carried_front [] = undated
carried_front (title ∷ []) = undated
carried_front (title ∷ line ∷ ls) = front_by title (moment_at line)

-- a carried record: what comes first in its order, and its text
pub record CarriedRecord : Type 0 where
  pub front : List ℤ
  pub text : List ℕ

-- that of lines
abbrev pub kept_record : List (List ℕ) → CarriedRecord
kept_record lines = record { front = carried_front lines; text = record_text lines }

-- the order of carried records, in which those with one text are equal
abbrev pub by_text : CarriedRecord → CarriedRecord → Ordering
by_text = then_cmp (on (λ (x : CarriedRecord). x.front) (slice_cmp int_cmp)) (on (λ (x : CarriedRecord). x.text) (slice_cmp nat_cmp))
