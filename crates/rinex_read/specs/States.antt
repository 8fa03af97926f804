-- What contracts see of a reader of records, and what its calls do.
use Rattle.std.specs.Prelude.{◌≡◌, ◌+◌, ◌-◌, ◌*◌, ◌^◌, ◌<◌, ◌≤◌, ◌++◌, ℕ, Bool, true, false, List, [], ◌∷◌, Option, Some, None, Result, Ok, Err, length, map, take}
use Rattle.nav_io.specs.Lines.{Line, ends, lines_by}
use Rattle.nav_io.specs.LinesState.{LinesState, Reads}
use Rattle.nav_io.specs.declared.lines.LineFault.{LineFault}
use Rattle.nav_io.specs.declared.lines.LineFault.TheVariants.{ReadFault, TooLong}
use Rattle.rinex_read.specs.declared.judged.HeaderFault.{HeaderFault}
use Rattle.rinex_read.specs.declared.judged.HeaderFault.TheVariants as faults
use Rattle.rinex_read.specs.declared.judged.HeaderState.{HeaderState}
use Rattle.rinex_read.specs.declared.judged.HeaderState.TheVariants.{New, Open, Passed, NotRinexNav, OtherVersion}
use Rattle.rinex_read.specs.Lines.{text_of_line, lines_stated}
use Rattle.rinex_read.specs.Forms.{Form}
use Rattle.rinex_read.specs.Files.{but_last, header_of, header_passed, up_to_next, reads, reads_behind}

-- a reader of records
pub record RecordsState : Type 0 where
  -- the state of the header
  pub header : HeaderState
  -- the lines stored of the record in progress, empty if there is none
  pub kept : List (List ℕ)
  -- the number of its first line
  pub first : ℕ
  -- the reader of the lines
  pub lines : LinesState

-- the records still to be read from lines ls, n lines being before them and kept being of the record in progress
abbrev pub held_reads : {R : Type 0} → Form R → List (List ℕ) → ℕ → ℕ → List (List ℕ) → List R
held_reads f [] first n ls = reads f n ls
held_reads f (k ∷ ks) first n ls = f.judged first ((k ∷ ks) ++ up_to_next f ls) ∷ reads f n ls

-- the records still to be read after the header, if these bytes follow
abbrev pub records_to_come : {R : Type 0} → Form R → RecordsState → List ℕ → List R
records_to_come f s following = held_reads f s.kept s.first s.lines.number (lines_stated (s.lines.rest ++ following))

-- the records still to be read of the file, if these lines follow
abbrev pub file_by : {R : Type 0} → Form R → HeaderState → RecordsState → List (List ℕ) → Result (List R) HeaderFault
file_by f New s ls = reads_behind f (header_of f s.lines.number ls)
file_by f Open s ls = reads_behind f (header_passed s.lines.number ls)
file_by f Passed s ls = Ok (held_reads f s.kept s.first s.lines.number ls)
file_by f NotRinexNav s ls = Err faults.NotRinexNav
file_by f OtherVersion s ls = Err faults.Version

-- the same if these bytes follow
abbrev pub file_to_come : {R : Type 0} → Form R → RecordsState → List ℕ → Result (List R) HeaderFault
file_to_come f s following = file_by f s.header s (lines_stated (s.lines.rest ++ following))

-- after a read that gave no byte nothing follows
abbrev pub MayCome : RecordsState → List ℕ → Type 0
MayCome s following = s.lines.ended ≡ true → following ≡ []

-- lines of the header are still to come
abbrev pub is_waiting : HeaderState → Bool
is_waiting New = true
is_waiting Open = true
is_waiting Passed = false
is_waiting NotRinexNav = false
is_waiting OtherVersion = false

-- nothing was read
pub record IsNew (s : RecordsState) : Type 0 where
  pub header : s.header ≡ New
  pub kept : s.kept ≡ []
  pub rest : s.lines.rest ≡ []
  pub ended : s.lines.ended ≡ false
  pub taken : s.lines.taken ≡ 0
  pub number : s.lines.number ≡ 0

-- no line is left, and no record is in progress
pub record IsOver (s : RecordsState) : Type 0 where
  pub kept : s.kept ≡ []
  pub rest : s.lines.rest ≡ []
  pub ended : s.lines.ended ≡ true

-- at the end no line follows
abbrev pub MayStand : RecordsState → List (List ℕ) → Type 0
MayStand s next = s.lines.ended ≡ true → s.lines.rest ≡ [] → next ≡ []

-- more bytes may come, and those read hold no complete line
pub record IsPaused (s : RecordsState) : Type 0 where
  pub more : s.lines.ended ≡ false
  pub none : ends s.lines.rest ≡ false

-- Lines were read and these records given: they come before those of the new state, whatever bytes
-- follow. Unless the file is over, they also come before in the list of the records that are
-- complete.
pub record Steps {R : Type 0} (f : Form R) (left left_new : Option (List ℕ)) (old new : RecordsState) (given : List R) : Type 0 where
  pub lines : List Line
  pub reads : Reads left left_new old.lines new.lines lines
  pub header : new.header ≡ old.header
  pub stream : (following : List ℕ) → MayCome new following
      → records_to_come f old (reads.taken ++ following) ≡ given ++ records_to_come f new following
  pub whole : (IsOver new → ⊥) → (next : List (List ℕ))
      → but_last (held_reads f old.kept old.first old.lines.number (map text_of_line lines ++ next))
      ≡ given ++ but_last (held_reads f new.kept new.first new.lines.number next)

-- What is held of the bytes held before and taken is their end, at most 4,096 of them if no more
-- were held before; and not too many were taken.
pub record HoldsEnd (old new : LinesState) (taken : List ℕ) : Type 0 where
  pub prefix : List ℕ
  pub split : old.rest ++ taken ≡ prefix ++ new.rest
  pub short : length old.rest ≤ 4096 → length new.rest ≤ 4096
  pub low : old.taken < 2 ^ 32 → new.taken < 2 ^ 32

-- Of the bytes held before and taken all but the last 4,096 have no more lines that ended than these, where not more were held before.
abbrev pub AreEarly : LinesState → List ℕ → List Line → Type 0
AreEarly old taken lines = length old.rest ≤ 4096 → old.taken < 2 ^ 32
    → length (lines_by true (take (length (old.rest ++ taken) - 4096) (old.rest ++ taken))) ≤ length lines

-- Steps after which what is held is the end of the bytes.
pub record NearSteps {R : Type 0} (f : Form R) (left left_new : Option (List ℕ)) (old new : RecordsState) (given : List R) : Type 0 where
  pub steps : Steps f left left_new old new given
  pub near : HoldsEnd old.lines new.lines steps.reads.taken

-- Steps in which all lines were given that have ended before the last 4,096 bytes.
pub record EarlySteps {R : Type 0} (f : Form R) (left left_new : Option (List ℕ)) (old new : RecordsState) (given : List R) : Type 0 where
  pub steps : Steps f left left_new old new given
  pub early : AreEarly old.lines steps.reads.taken steps.lines

-- a bound on the calls still to come; it falls with each record that is read
abbrev pub held_count : List (List ℕ) → ℕ
held_count [] = 0
held_count (k ∷ ks) = 1

abbrev pub lines_left : RecordsState → ℕ
lines_left s = 2 * (2 ^ 32 - s.lines.number) + held_count s.kept

-- A record was read.
pub record GivesRecord {R : Type 0} (f : Form R) (left left_new : Option (List ℕ)) (old new : RecordsState) (read : R) : Type 0 where
  pub steps : Steps f left left_new old new (read ∷ [])
  pub near : HoldsEnd old.lines new.lines steps.reads.taken
  pub low : new.lines.taken < 2 ^ 32
  pub nearer : lines_left new < lines_left old

-- No record is left, and a read gave no byte.
pub record GivesNone {R : Type 0} (f : Form R) (left left_new : Option (List ℕ)) (old new : RecordsState) : Type 0 where
  pub steps : Steps f left left_new old new []
  pub near : HoldsEnd old.lines new.lines steps.reads.taken
  pub kept : new.kept ≡ []
  pub rest : new.lines.rest ≡ []
  pub ended : new.lines.ended ≡ true
  pub low : new.lines.taken < 2 ^ 32

-- a record, or none after the last
abbrev pub GivesRead : {R : Type 0} → Form R → Option R → Option (List ℕ) → Option (List ℕ) → RecordsState → RecordsState → Type 0
GivesRead f (Some read) left left_new old new = GivesRecord f left left_new old new read
GivesRead f None left left_new old new = GivesNone f left left_new old new

-- A read failed before the end, with no complete line left; or too many bytes were read.
abbrev pub BrokeBy : LineFault → RecordsState → Type 0
BrokeBy ReadFault new = (new.lines.ended ≡ false) × (new.lines.taken < 2 ^ 32) × (ends new.lines.rest ≡ false)
BrokeBy TooLong new = new.lines.taken ≡ 2 ^ 32

-- No record was read, and nothing is lost.
pub record BreaksRecord {R : Type 0} (f : Form R) (left left_new : Option (List ℕ)) (old new : RecordsState) (fault : LineFault) : Type 0 where
  pub steps : Steps f left left_new old new []
  pub early : AreEarly old.lines steps.reads.taken steps.lines
  pub by : BrokeBy fault new

-- Lines of the header were read; the rest gives the same file, whatever bytes or lines follow.
pub record HeaderSteps {R : Type 0} (f : Form R) (left left_new : Option (List ℕ)) (old new : RecordsState) : Type 0 where
  pub lines : List Line
  pub reads : Reads left left_new old.lines new.lines lines
  pub stream : (following : List ℕ) → MayCome new following
      → file_to_come f old (reads.taken ++ following) ≡ file_to_come f new following
  pub told : (next : List (List ℕ)) → MayStand new next
      → file_by f old.header old (map text_of_line lines ++ next) ≡ file_by f new.header new next

-- Header steps after which what is held is the end of the bytes.
pub record NearHeader {R : Type 0} (f : Form R) (left left_new : Option (List ℕ)) (old new : RecordsState) : Type 0 where
  pub steps : HeaderSteps f left left_new old new
  pub near : HoldsEnd old.lines new.lines steps.reads.taken

-- Header steps in which all lines were given that have ended before the last 4,096 bytes.
pub record EarlyHeader {R : Type 0} (f : Form R) (left left_new : Option (List ℕ)) (old new : RecordsState) : Type 0 where
  pub steps : HeaderSteps f left left_new old new
  pub early : AreEarly old.lines steps.reads.taken steps.lines

-- where lines of the header were read, there were at most 4,294,967,295 bytes so far
abbrev pub ReadLow : RecordsState → RecordsState → Type 0
ReadLow old new = is_waiting old.header ≡ true → new.lines.taken < 2 ^ 32

-- The header was read: the rest of the file is its records.
pub record PassesHeader {R : Type 0} (f : Form R) (left left_new : Option (List ℕ)) (old new : RecordsState) : Type 0 where
  pub steps : HeaderSteps f left left_new old new
  pub near : HoldsEnd old.lines new.lines steps.reads.taken
  pub header : new.header ≡ Passed
  pub low : ReadLow old new

-- how a header is rejected, or can be read on
abbrev pub RefusedBy : HeaderFault → RecordsState → RecordsState → Type 0
RefusedBy faults.NotRinexNav old new = (new.header ≡ NotRinexNav) × ReadLow old new
RefusedBy faults.Version old new = (new.header ≡ OtherVersion) × ReadLow old new
RefusedBy (faults.Line fault) old new = (is_waiting new.header ≡ true) × BrokeBy fault new

-- The header is rejected, or can be read on.
pub record BreaksHeader {R : Type 0} (f : Form R) (left left_new : Option (List ℕ)) (old new : RecordsState) (fault : HeaderFault) : Type 0 where
  pub steps : HeaderSteps f left left_new old new
  pub early : AreEarly old.lines steps.reads.taken steps.lines
  pub by : RefusedBy fault old new
