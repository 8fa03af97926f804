-- One step of a run over a capture: what a line adds to the parts, the report and the counts. Private functions cite these.
use Rattle.std.specs.Prelude.{◌≡◌, ℕ, ◌+◌, ◌≤◌, max, if◌then◌else◌, List, [], ◌∷◌, ◌++◌, codes, Contains, Option, Result, Ok, Err, OnOk, OnErr}
use Rattle.std.specs.List.{flat_map}
use Rattle.std.specs.Io.KnownBytes.{Appends}
use Rattle.nav_io.specs.Causes.{Rose}
use Rattle.nav_io.specs.Prefix.{AppendsPrefix}
use Rattle.nav_io.specs.Lines.{Line}
use Rattle.nav_io.specs.LinesState.{LinesState, GivesLine, GivesEnd as LinesEnd}
use Rattle.nav_eph.specs.Satellite.{Satellite}
use Rattle.nav_eph.specs.declared.sat.System.TheVariants.{Gps, Gal}
use Rattle.nav_eph.specs.declared.part.Part.{Part}
use Rattle.nav_eph.specs.declared.signal.Signal.{Signal}
use Rattle.inav.specs.Received.{StampedHalf}
use Rattle.inav.specs.Keeping.{Keeping, IsRecent}
use Rattle.inav.specs.Reading.{reading_of}
use Rattle.capture_lines.specs.declared.item.LineItem.{LineItem}
use Rattle.capture_lines.specs.declared.item.LineItem.TheVariants.{Lnav, Half}
use Rattle.slot_assembly.specs.Standing.{Standing, Carries}
use Rattle.capture_log.specs.Events.{Known, half_of, is_alert, with_half, of_word, item_line}
use Rattle.capture_log.specs.Log.{Noted, parts_in}
use Rattle.capture_log.specs.declared.event.Event.{Event}
use Rattle.capture_log.specs.declared.event.Event.TheVariants.{Received}
use Rattle.captures.specs.declared.counts.EventCounts.{EventCounts}
use Rattle.one_run.specs.declared.fault.BridgeFault.{BridgeFault}
use Rattle.one_run.specs.declared.fault.BridgeFault.TheVariants.{ReportFault, NoMemory}
use Rattle.captures.specs.Reports.{report_in, count_in, is_malformed, is_late, is_refused_event, is_unused}

-- what a capture's report says of a log
abbrev pub line_report : List Noted → List ℕ
line_report log = report_in (codes "line") log

-- the same state of the assembly with further parts
abbrev pub adding : List Part → Standing → Standing
adding parts at = record { parts = at.parts ++ parts; watermark = at.watermark; last = at.last }

-- these counts plus those of a log
abbrev pub tallied : EventCounts → List Noted → EventCounts
tallied t log = record {
  malformed = t.malformed + count_in is_malformed log;
  late = t.late + count_in is_late log;
  refused = t.refused + count_in is_refused_event log;
  unused = t.unused + count_in is_unused log;
}

-- the sum of the counts
abbrev pub total : EventCounts → ℕ
total t = t.malformed + t.late + t.refused + t.unused

-- 1 for each event but a part, which is not counted
abbrev pub weight : Event → ℕ
weight (Received part) = 0
weight _ = 1

-- the number of events but parts
abbrev pub weights : List Event → ℕ
weights [] = 0
weights (e ∷ es) = weight e + weights es

-- the assembly has the parts of the log as well, and its other events were reported and counted
pub record Notes (old new : Standing → Type 0) (report report_new : Option (List ℕ)) (tally tally_new : EventCounts) (log : List Noted) : Type 0 where
  pub parts : Carries old new (adding (parts_in log))
  pub text : Appends report report_new (line_report log)
  pub counts : tally_new ≡ tallied tally log

-- the events of a log were processed or, at an error, a prefix of their report was written
abbrev pub Takes : {T : Type 0} → (Standing → Type 0) → (Standing → Type 0) → Option (List ℕ) → Option (List ℕ) → EventCounts → EventCounts → List Noted → Result T BridgeFault → Type 0
Takes old new report report_new tally tally_new log result =
    OnOk result (Notes old new report report_new tally tally_new log) × OnErr result (AppendsPrefix report report_new (line_report log))

-- the statement holds for a part that was received; nothing is said of other events
abbrev pub IfReceived : Event → (Part → Type 0) → Type 0
IfReceived (Received part) P = P part
IfReceived _ P = Unit {0}

-- no part of the events has an earlier time tag
abbrev pub AreFrom : ℕ → List Event → Type 0
AreFrom stamp [] = Unit {0}
AreFrom stamp (e ∷ es) = IfReceived e (λ part. stamp ≤ part.stamp) × AreFrom stamp es

-- how reporting ends: the report's error count rose exactly if the report failed; the only other
-- error is out of memory
abbrev pub IsReporting : {T : Type 0} → ℕ → ℕ → Result T BridgeFault → Type 0
IsReporting before now (Ok x) = now ≡ before
IsReporting before now (Err ReportFault) = Rose before now
IsReporting before now (Err NoMemory) = now ≡ before
IsReporting before now (Err _) = ⊥

-- subframes are from GPS satellites, and page parts from Galileo satellites
abbrev pub HasSystem : LineItem → Type 0
HasSystem (Lnav stamp sat bits) = sat.system ≡ Gps
HasSystem (Half stamp sat signal bits) = sat.system ≡ Gal
HasSystem _ = Unit {0}

-- the events of the words that a satellite transmitted, received at one second
abbrev pub of_received : Satellite → ℕ → List (List ℕ) → List Event
of_received sat stamp words = flat_map (λ word. of_word (reading_of word sat stamp)) words

-- of the accepted page parts exactly the recent ones are retained: those that may still get a
-- partner
pub record KeepsHalves (keeping : Keeping) (window : ℕ) (known : Known) : Type 0 where
  pub window_is : keeping.window ≡ window
  pub kept_to : (h : StampedHalf) → Contains keeping.kept h → Contains known.halves h
  pub kept_from : (h : StampedHalf) → Contains known.halves h → IsRecent window keeping.greatest h → Contains keeping.kept h
  pub recent : (h : StampedHalf) → Contains keeping.kept h → IsRecent window keeping.greatest h
  pub low : keeping.greatest ≤ known.greatest

-- what is known after a page part that is not late
abbrev pub known_half : Known → ℕ → Satellite → Signal → List ℕ → Known
known_half known stamp sat signal bits = record {
  greatest = max known.greatest stamp;
  halves = if is_alert bits then known.halves else with_half known.halves (half_of stamp sat signal bits);
}

-- what is retained after that page part
abbrev pub TookHalf : Keeping → ℕ → Known → ℕ → Satellite → Signal → List ℕ → Type 0
TookHalf keeping window known stamp sat signal bits =
    KeepsHalves keeping window (record {
      greatest = max known.greatest stamp;
      halves = if is_alert bits then known.halves else with_half known.halves (half_of stamp sat signal bits);
    })

-- a line was read, and this is its item
pub record GivesItem (left left_new : Option (List ℕ)) (old new : LinesState) (item : LineItem) : Type 0 where
  pub line : Line
  pub gives : GivesLine left left_new old new line
  pub item_is : item ≡ item_line line

-- no line is left
abbrev pub GivesEnd : Option (List ℕ) → Option (List ℕ) → LinesState → LinesState → Type 0
GivesEnd left left_new old new = LinesEnd left left_new old new
