-- What a run over a navigation file of all systems writes and counts.
use Rattle.std.specs.Prelude.{ℕ, not, Bool, true, false, List, [], ◌∷◌, ◌++◌, codes, length, filter, map, sum, if◌then◌else◌, Option, None, Ok, Err}
use Rattle.std.proofs.Common.{inl, inr}
use Rattle.rinex_lines.specs.CarriedLines.{record_text}
use Rattle.std.specs.List.{flat_map}
use Rattle.nav_eph.specs.declared.items.NavItem.TheVariants.{Gps, Gal, Ion}
use Rattle.nav_files.specs.Files.{file_meaning}
use Rattle.nav_rows.specs.Encoding.{message_of}
use Rattle.one_run.specs.Reports.{count_line}
use Rattle.one_run.specs.Runs.{Meaning}
use Rattle.streams.specs.Targets.{back_text, prefix_text}
use Rattle.streams.specs.Times.{with_time}
use Rattle.streams.specs.declared.target.Target.{Target}
use Rattle.streams.specs.declared.target.Target.TheVariants.{Rinex, Rinex3, Rtcm, ToList, Count}
use Rattle.streams.specs.declared.times.Times.{Times}
use Rattle.rinex_read.specs.Files.{file_reads, records_in}
use Rattle.rinex_read.specs.Form3.{rinex3}
use Rattle.rinex_read.specs.Forms.{Form, rinex4}
use Rattle.rinex_read.specs.declared.judged.ItemRead.{ItemRead}
use Rattle.all_systems.specs.Readings.{Item}
use Rattle.all_systems.specs.Streams.{Numbered, epoch_in, has_message, text_of}
use Rattle.all_systems.specs.declared.kinds.Kinds.{Kinds}
use Rattle.all_systems.specs.FileReadings.{LineRead, Reading, refused, carried, passed, is_carried, is_item, is_passed, is_refused, reading_in, reading_report, readings}
use Rattle.all_systems.specs.declared.counts.SystemCounts.{SystemCounts}
use Rattle.all_systems.specs.declared.version.Version.{Version}
use Rattle.all_systems.specs.declared.version.Version.TheVariants.{Four, Three}

-- ---- the format

-- the format of GPS LNAV, Galileo I/NAV and their ionosphere parameters
abbrev pub nav_form : Version → Form ItemRead
nav_form Four = rinex4
nav_form Three = rinex3

-- the same format with the records of all systems
abbrev pub form_of : Kinds → Version → Form LineRead
form_of ks v = record {
  names = (nav_form v).names;
  starts = (nav_form v).starts;
  judged = λ line lines. record { line = line; reading = reading_in ks v lines };
}

-- ---- the items of a file

-- the item of a record at this line, if it has one
abbrev pub numbered : ℕ → Reading → List Numbered
numbered line (Ok item) = (line, item) ∷ []
numbered line (Err fault) = []

-- the items of records, each with the number of its first line
abbrev pub items_in : List LineRead → List Numbered
items_in [] = []
items_in (read ∷ reads) = numbered read.line read.reading ++ items_in reads

-- the items of a file
abbrev pub file_items : Kinds → Version → List ℕ → List Numbered
file_items ks v bytes = items_in (records_in (file_reads (form_of ks v) bytes))

-- those of GPS LNAV, Galileo I/NAV and their ionosphere parameters
abbrev pub nav_items : List Numbered → List Numbered
nav_items [] = []
nav_items ((line, inl item) ∷ is) = (line, inl item) ∷ nav_items is
nav_items ((line, inr x) ∷ is) = nav_items is

-- ---- what is written of them

-- an ephemeris, and no ionosphere parameters
abbrev pub is_ephemeris : Item → Bool
is_ephemeris (inl (Gps e)) = true
is_ephemeris (inl (Gal e)) = true
is_ephemeris (inl (Ion e)) = false
is_ephemeris (inr x) = true

-- an ephemeris that has a message of RTCM
abbrev pub is_sent : Item → Bool
is_sent (inl (Gps e)) = true
is_sent (inl (Gal e)) = true
is_sent (inl (Ion e)) = false
is_sent (inr x) = has_message (message_of x.kind x.row)

-- the item has a text in the output format; that of counts has none of any item, which is not counted
abbrev pub has_text : Target → Item → Bool
has_text (Rinex words) item = true
has_text (Rinex3 words) item = is_ephemeris item
has_text Rtcm item = is_sent item
has_text ToList item = true
has_text Count item = true

-- a record that is carried has a text in the output format; that of counts has none of any record, which is not counted
abbrev pub has_carried : Target → Bool
has_carried (Rinex words) = true
has_carried (Rinex3 words) = false
has_carried Rtcm = false
has_carried ToList = false
has_carried Count = true

-- 1 for an item or a carried record that has no text in the output format, else 0
abbrev pub is_unwritten : Target → Reading → ℕ
is_unwritten to (Ok item) = if has_text to item then 0 else 1
is_unwritten to (Err (carried lines)) = if has_carried to then 0 else 1
is_unwritten to (Err (refused reason)) = 0
is_unwritten to (Err passed) = 0

-- the text of the lines of a carried record: in RINEX 4 each line, each number with its exact text
abbrev pub carried_text : Target → List (List ℕ) → List ℕ
carried_text (Rinex words) lines = record_text lines
carried_text (Rinex3 words) lines = []
carried_text Rtcm lines = []
carried_text ToList lines = []
carried_text Count lines = []

-- the text of a record at this line: that of its item, or of its carried lines
abbrev pub reading_text : Target → ℕ → Reading → List ℕ
reading_text to line (Ok item) = text_of to (line, item)
reading_text to line (Err (carried lines)) = carried_text to lines
reading_text to line (Err (refused reason)) = []
reading_text to line (Err passed) = []

-- the output format is RINEX 4
abbrev pub is_rinex4 : Target → Bool
is_rinex4 (Rinex words) = true
is_rinex4 (Rinex3 words) = false
is_rinex4 Rtcm = false
is_rinex4 ToList = false
is_rinex4 Count = false

-- the item is written after all ephemerides: ionosphere parameters in RINEX 4
abbrev pub is_late : Target → Item → Bool
is_late to (inl (Gps e)) = false
is_late to (inl (Gal e)) = false
is_late to (inl (Ion e)) = is_rinex4 to
is_late to (inr x) = false

-- the record is written after all ephemerides: such an item, or carried lines
abbrev pub is_last : Target → Reading → Bool
is_last to (Ok item) = is_late to item
is_last to (Err (carried lines)) = true
is_last to (Err (refused reason)) = false
is_last to (Err passed) = false

-- the text of a record that is written while records are read, and of one that is written after all of them
abbrev pub first_text : Target → ℕ → Reading → List ℕ
first_text to line x = if not (is_last to x) then reading_text to line x else []

abbrev pub last_text : Target → ℕ → Reading → List ℕ
last_text to line x = if is_last to x then reading_text to line x else []

-- the lines of a record, if it is carried
abbrev pub carried_lines : Reading → List (List (List ℕ))
carried_lines (Ok item) = []
carried_lines (Err (carried lines)) = lines ∷ []
carried_lines (Err (refused reason)) = []
carried_lines (Err passed) = []

-- the lines of the carried records, in order
abbrev pub carried_in : List LineRead → List (List (List ℕ))
carried_in [] = []
carried_in (read ∷ reads) = carried_lines read.reading ++ carried_in reads

-- the records that are written after all ephemerides
abbrev pub lasts_in : Target → List LineRead → List LineRead
lasts_in to reads = filter (λ read. is_last to read.reading) reads

-- the items that are written while records are read, and those that are written after all ephemerides
abbrev pub early_items : Target → List Numbered → List Numbered
early_items to is = filter (λ i. not (is_late to i.1)) is

abbrev pub late_items : Target → List Numbered → List Numbered
late_items to is = filter (λ i. is_late to i.1) is

-- the text of a record, whenever it is written
abbrev pub whole_text : Target → LineRead → List ℕ
whole_text to read = reading_text to read.line read.reading

-- what is written of a record while records are read, what after all of them, and what is reported of it
abbrev pub read_text : Target → LineRead → List ℕ
read_text to read = first_text to read.line read.reading

abbrev pub held_text : Target → LineRead → List ℕ
held_text to read = last_text to read.line read.reading

abbrev pub read_report : LineRead → List ℕ
read_report read = reading_report read.line read.reading

-- ---- the counts

-- the times together with the epoch of an item
abbrev pub times_after : Option Times → Reading → Option Times
times_after times (Ok item) = with_time times (epoch_in item)
times_after times (Err fault) = times

-- the first and the last epoch of items
abbrev pub times_over : Option Times → List Reading → Option Times
times_over times [] = times
times_over times (x ∷ xs) = times_over (times_after times x) xs

-- the counts of readings
abbrev pub counts_by : Target → List Reading → SystemCounts
counts_by to xs = record {
  records = length xs;
  refused = sum (map is_refused xs);
  passed = sum (map is_passed xs);
  carried = sum (map is_carried xs);
  items = sum (map is_item xs);
  unwritten = sum (map (is_unwritten to) xs);
  times = times_over None xs;
}

abbrev pub counts_of : Target → List LineRead → SystemCounts
counts_of to reads = counts_by to (readings reads)

-- the text of these counts: a line for each, in the order of the fields
unfoldable pub counts_text : SystemCounts → List ℕ
counts_text c =
    ((((count_line (codes "records") c.records ++ count_line (codes "refused") c.refused)
    ++ count_line (codes "passed") c.passed) ++ count_line (codes "carried") c.carried)
    ++ count_line (codes "items") c.items) ++ count_line (codes "unwritten") c.unwritten

-- ---- the run

-- what is written of records while they are read, what is held back of them, and what is written of all records
abbrev pub text_by : Target → List LineRead → List ℕ
text_by to reads = prefix_text to ++ flat_map (read_text to) reads

abbrev pub held_by : Target → List LineRead → List ℕ
held_by to reads = flat_map (held_text to) reads

abbrev pub whole_by : Target → List LineRead → List ℕ
whole_by to reads = text_by to reads ++ (held_by to reads ++ back_text to (counts_text (counts_of to reads)))

-- what is reported of records, and of all records
abbrev pub decided_by : List LineRead → List ℕ
decided_by reads = flat_map read_report reads

abbrev pub reported_by : Target → List LineRead → List ℕ
reported_by to reads = decided_by reads ++ counts_text (counts_of to reads)

-- the meaning of the run
abbrev pub files_meaning : Kinds → Version → Target → Meaning SystemCounts
files_meaning ks v to = file_meaning (form_of ks v) true (text_by to) decided_by (whole_by to) (reported_by to) (counts_of to)
