-- The state of a run over a capture between two lines, and how a line changes it. Private functions cite these.
use Rattle.std.specs.Prelude.{◌≡◌, ℕ, ◌+◌, ◌≤◌, ◌<◌, ◌^◌, List, [], ◌∷◌, ◌++◌, Option, Result, Ok, Err, MatchResult, length}
use Rattle.std.specs.Io.KnownBytes.{Appends}
use Rattle.nav_io.specs.Causes.{Rose}
use Rattle.nav_io.specs.Prefix.{AppendsPrefix}
use Rattle.nav_io.specs.Lines.{Line}
use Rattle.capture_lines.specs.declared.item.LineItem.{LineItem}
use Rattle.periods.specs.PeriodsOf.{periods_of}
use Rattle.slot_assembly.specs.Standing.{Stood, nothing_yet}
use Rattle.slot_assembly.specs.SlotStanding.{SlotsStandFor}
use Rattle.capture_log.specs.Events.{Known, item_line}
use Rattle.capture_log.specs.Log.{Noted, log_of, watermark_after, parts_of}
use Rattle.capture_log.specs.declared.event.Event.{Event}
use Rattle.one_run.specs.Causes.{Faults, HasItsCause}
use Rattle.one_run.specs.Runs.{AppendsBetween}
use Rattle.one_run.specs.declared.fault.BridgeFault.{BridgeFault}
use Rattle.one_run.specs.declared.fault.BridgeFault.TheVariants.{WriteFault, ReportFault, NoMemory}
use Rattle.captures.specs.declared.accept.Accepted.{Accepted}
use Rattle.captures.specs.declared.receiver.PartReceiver.{PartReceiver}
use Rattle.captures.specs.declared.receiving.CaptureState.{CaptureState}
use Rattle.streams.specs.declared.target.Target.{Target}
use Rattle.captures.specs.Converts.{Counted, closed_texts, no_tally, period_texts}
use Rattle.captures.specs.Notes.{AreFrom, KeepsHalves, Notes, line_report, total}
use Rattle.captures.specs.Flushed.{IsWriting, Flushed, said_of}

-- the watermark of the assembly is not above the time tag
abbrev pub IsOpenAt : PartReceiver → ℕ → Type 0
IsOpenAt receiver stamp = Stood (SlotsStandFor receiver.assembly) (λ at. at.watermark ≤ stamp)

-- the watermark of the assembly is not above the time tag of any part of the events
abbrev pub IsOpenFor : PartReceiver → List Event → Type 0
IsOpenFor receiver events = Stood (SlotsStandFor receiver.assembly) (λ at. AreFrom at.watermark events)

-- the events of a log were processed: parts went to the assembly, and the others to the report and the counts
pub record Receives (old new : PartReceiver) (reported reported_new : Option (List ℕ)) (log : List Noted) : Type 0 where
  pub reference : new.assembly.reference ≡ old.assembly.reference
  pub window : new.assembly.window ≡ old.assembly.window
  pub notes : Notes (SlotsStandFor old.assembly) (SlotsStandFor new.assembly) reported reported_new old.tally new.tally log

-- a report failed, or memory ran out: a prefix of the report's lines was written, and its error
-- count rose only if it failed
abbrev pub Unreceived : Option (List ℕ) → Option (List ℕ) → ℕ → ℕ → List Noted → BridgeFault → Type 0
Unreceived reported reported_new faults faults_new log ReportFault = AppendsPrefix reported reported_new (line_report log) × Rose faults faults_new
Unreceived reported reported_new faults faults_new log NoMemory = AppendsPrefix reported reported_new (line_report log) × (faults_new ≡ faults)
Unreceived reported reported_new faults faults_new log _ = ⊥

-- the result of processing the events of a log
abbrev pub Received : {T : Type 0} → PartReceiver → PartReceiver → Option (List ℕ) → Option (List ℕ) → ℕ → ℕ → List Noted → Result T BridgeFault → Type 0
Received old new reported reported_new faults faults_new log (Ok x) = Receives old new reported reported_new log × (faults_new ≡ faults)
Received old new reported reported_new faults faults_new log (Err fault) = Unreceived reported reported_new faults faults_new log fault

-- the events of an item were processed, and `known` is known after it
pub record Takes (old new : CaptureState) (reported reported_new : Option (List ℕ)) (log : List Noted) (known : Known) : Type 0 where
  pub hears : Receives old.receiver new.receiver reported reported_new log
  pub keeps : KeepsHalves new.halves old.window known
  pub greatest : new.greatest ≡ known.greatest
  pub kept : length new.halves.kept ≤ length old.halves.kept + 1
  pub room : total new.receiver.tally ≤ total old.receiver.tally + length old.halves.kept + 1
  pub window : new.window ≡ old.window
  pub said : new.said ≡ old.said

-- the result of processing an item
abbrev pub Took : {T : Type 0} → CaptureState → CaptureState → Option (List ℕ) → Option (List ℕ) → ℕ → ℕ → List Noted → Known → Result T BridgeFault → Type 0
Took old new reported reported_new faults faults_new log known (Ok x) = Takes old new reported reported_new log known × (faults_new ≡ faults)
Took old new reported reported_new faults faults_new log known (Err fault) = Unreceived reported reported_new faults faults_new log fault

-- no line was processed yet
pub record IsNew (h : CaptureState) (week window : ℕ) : Type 0 where
  pub own : h.window ≡ window
  pub week_is : h.receiver.assembly.reference ≡ week
  pub window_is : h.receiver.assembly.window ≡ window
  pub stands : SlotsStandFor h.receiver.assembly nothing_yet
  pub greatest : h.greatest ≡ 0
  pub keeping : (h.halves.window ≡ window) × (h.halves.greatest ≡ 0) × (h.halves.kept ≡ [])
  pub tally : h.receiver.tally ≡ no_tally
  pub said : h.said ≡ said_of []

-- The state after these lines, with the periods that are closed at the watermark written, for the week and window of the head;
-- `start` and `told` are the output and the report before the first of them.
pub record StandsAt (to : Target) (head : Accepted) (watermark : ℕ) (lines : List Line) (h : CaptureState) (start written told reported : Option (List ℕ)) : Type 0 where
  pub low : head.window ≤ 14400
  pub own : h.window ≡ head.window
  pub week : h.receiver.assembly.reference ≡ head.week
  pub window : h.receiver.assembly.window ≡ head.window
  pub flushed : Flushed (SlotsStandFor h.receiver.assembly) head.week head.window to (parts_of head.window lines) watermark start written h.said
  pub report : Appends told reported (line_report (log_of head.window lines))
  pub counted : Counted head.window lines h.halves h.receiver.tally h.greatest

-- the same at the watermark of the lines
abbrev pub Stands : Target → Accepted → List Line → CaptureState → Option (List ℕ) → Option (List ℕ) → Option (List ℕ) → Option (List ℕ) → Type 0
Stands to head lines h start written told reported = StandsAt to head (watermark_after head.window lines) lines h start written told reported

-- the state is that after some lines, and this is the item of the next one
pub record IsNextOf (to : Target) (number : ℕ) (item : LineItem) (h : CaptureState) (written reported : Option (List ℕ)) : Type 0 where
  pub head : Accepted
  pub lines : List Line
  pub line : Line
  pub start : Option (List ℕ)
  pub told : Option (List ℕ)
  pub number_is : number ≡ 2 + length lines
  pub item_is : item ≡ item_line line
  pub stands : Stands to head lines h start written told reported

-- the state is that after some lines
pub record HoldsSome (to : Target) (h : CaptureState) (written : Option (List ℕ)) : Type 0 where
  pub head : Accepted
  pub lines : List Line
  pub start : Option (List ℕ)
  pub told : Option (List ℕ)
  pub reported : Option (List ℕ)
  pub few : 1 + length lines < 2 ^ 32
  pub stands : Stands to head lines h start written told reported

-- why a line broke off: out of memory, or an output or a report that failed, whose error count rose alone
abbrev pub IsStepFault : Faults → Faults → BridgeFault → Type 0
IsStepFault before now WriteFault = HasItsCause {T = Unit {0}} before now (Err WriteFault)
IsStepFault before now ReportFault = HasItsCause {T = Unit {0}} before now (Err ReportFault)
IsStepFault before now NoMemory = HasItsCause {T = Unit {0}} before now (Err NoMemory)
IsStepFault before now _ = ⊥

-- A line was not fully processed. A prefix was written of what is closed with the line, no less than what is closed without it;
-- and a prefix of the report of the lines up to it was reported, no less than that of those before it.
pub record StepBroke (to : Target) (head : Accepted) (lines : List Line) (line : Line) (start written told reported : Option (List ℕ)) (before now : Faults) (fault : BridgeFault) : Type 0 where
  pub text : AppendsBetween start written (closed_texts to head lines) (closed_texts to head (lines ++ line ∷ []))
  pub report : AppendsBetween told reported (line_report (log_of head.window lines)) (line_report (log_of head.window (lines ++ line ∷ [])))
  pub cause : IsStepFault before now fault

-- the item of the next line was processed, and the periods that it closes were written
abbrev pub Steps : {T : Type 0} → Target → ℕ → LineItem → CaptureState → CaptureState → Option (List ℕ) → Option (List ℕ) → Option (List ℕ) → Option (List ℕ) → Faults → Faults → Result T BridgeFault → Type 0
Steps to number item old new written written_new reported reported_new before now result =
    (head : Accepted) (lines : List Line) (line : Line) (start told : Option (List ℕ)) → number ≡ 2 + length lines → item ≡ item_line line
    → Stands to head lines old start written told reported
    → MatchResult result (λ x. Stands to head (lines ++ line ∷ []) new start written_new told reported_new × (now ≡ before))
    (λ fault. StepBroke to head lines line start written_new told reported_new before now fault)

-- all periods of the lines were written and counted
pub record Finished (to : Target) (head : Accepted) (lines : List Line) (old new : CaptureState) (start written : Option (List ℕ)) : Type 0 where
  pub text : Appends start written (period_texts to head lines)
  pub verdicts : new.said ≡ said_of (periods_of head.week head.window (parts_of head.window lines))
  pub tally : new.receiver.tally ≡ old.receiver.tally

-- the periods that were left were written
abbrev pub Finishes : {T : Type 0} → Target → CaptureState → CaptureState → Option (List ℕ) → Option (List ℕ) → ℕ → ℕ → Result T BridgeFault → Type 0
Finishes to old new written written_new before now result =
    (head : Accepted) (lines : List Line) (start told reported : Option (List ℕ)) → Stands to head lines old start written told reported
    → MatchResult result (λ x. Finished to head lines old new start written_new × (now ≡ before))
    (λ fault. AppendsBetween start written_new (closed_texts to head lines) (period_texts to head lines) × IsWriting {T = Unit {0}} before now (Err fault))
