-- A capture whose bytes are pushed in pieces: what was written and reported of those so far.
use Rattle.std.specs.Prelude.{◌≡◌, ◌≤◌, ◌<◌, ◌^◌, ◌⊎◌, ℕ, true, false, List, [], ◌∷◌, length, Option, None, Some, IsSome}
use Rattle.std.specs.Io.KnownBytes.{Appends}
use Rattle.nav_io.specs.Prefix.{AppendsPrefix}
use Rattle.nav_io.specs.Lines.{Line, ends, lines_by}
use Rattle.nav_io.specs.LinesState.{LinesState, Reads}
use Rattle.streams.specs.Targets.{prefix_text}
use Rattle.streams.specs.declared.target.Target.{Target}
use Rattle.one_run.specs.Runs.{AppendsBetween, StopAtOnePlace}
use Rattle.one_run.specs.declared.fault.BridgeFault.{BridgeFault}
use Rattle.one_run.specs.declared.fault.BridgeFault.TheVariants.{ReadFault, TooLong, NotThisForm, WriteFault, ReportFault, NoMemory}
use Rattle.captures.specs.declared.accept.Accepted.{Accepted}
use Rattle.captures.specs.declared.counts.CaptureCounts.{CaptureCounts}
use Rattle.captures.specs.declared.receiving.CaptureState.{CaptureState}
use Rattle.captures.specs.Captures.{accepted_line, capture_of, counts_in, ended_capture, flushed_output, flushed_report, flushed_texts, output_of, refusals_text, report_of_capture}
use Rattle.captures.specs.Hearings.{Stands}

-- what contracts see of a run between two pieces
pub record CaptureRunState : Type 0 where
  -- what the capture is converted to
  pub to : Target
  -- the reference week that the caller names, or none
  pub week : Option ℕ
  -- the bytes that no line has used yet
  pub lines : LinesState
  -- what the lines have left; none before the first line
  pub receiving : Option CaptureState
  -- why it goes no further
  pub fault : Option BridgeFault

-- a reader of lines that has read nothing
abbrev pub unread : LinesState
unread = record { rest = []; ended = false; taken = 0; number = 0; text = [] }

-- the reader of lines has read these bytes and returned these lines
pub record HasRead (lines : LinesState) (bytes : List ℕ) (given : List Line) : Type 0 where
  pub reads : Reads None None unread lines given
  pub bytes_are : reads.taken ≡ bytes
  pub held : length lines.rest ≤ 4096
  pub low : lines.taken < 2 ^ 32
  pub number : lines.number ≡ length given
  pub few : lines.number < 2 ^ 32

-- more bytes may come, and no line has ended in those held
pub record IsWaiting (lines : LinesState) : Type 0 where
  pub more : lines.ended ≡ false
  pub none : ends lines.rest ≡ false

-- the first of the lines is accepted, the text before the items was written, and the other lines were processed
pub record HasReceived (to : Target) (week : Option ℕ) (given : List Line) (h : CaptureState) (start written begun reported : Option (List ℕ)) : Type 0 where
  pub head : Accepted
  pub line : Line
  pub past : List Line
  pub given_are : given ≡ line ∷ past
  pub accepted : accepted_line week line ≡ Some head
  pub led : Option (List ℕ)
  pub leads : Appends start led (prefix_text to)
  pub stands : Stands to head past h led written begun reported

-- what the lines have left; before the first one nothing was written
abbrev pub ReceivedSoFar : Target → Option ℕ → List Line → Option CaptureState → Option (List ℕ) → Option (List ℕ) → Option (List ℕ) → Option (List ℕ) → Type 0
ReceivedSoFar to week given None start written begun reported = (given ≡ []) × Appends start written [] × Appends begun reported []
ReceivedSoFar to week given (Some h) start written begun reported = HasReceived to week given h start written begun reported

-- the state after these bytes, since the output was `start` and the report `begun`
pub record IsBehind (to : Target) (week : Option ℕ) (lines : LinesState) (receiving : Option CaptureState) (bytes : List ℕ) (start written begun reported : Option (List ℕ)) : Type 0 where
  pub given : List Line
  pub read : HasRead lines bytes given
  pub heard : ReceivedSoFar to week given receiving start written begun reported

-- bytes may be pushed: the state is one between two pieces
pub record IsReady (to : Target) (week : Option ℕ) (lines : LinesState) (receiving : Option CaptureState) : Type 0 where
  pub bytes : List ℕ
  pub waits : IsWaiting lines
  pub behind : IsBehind to week lines receiving bytes None None None None

-- These bytes were pushed since the output was `start` and the report `begun`: exactly what they decide was written and reported,
-- and their first line, if it has ended, is accepted.
pub record IsPushed (s : CaptureRunState) (bytes : List ℕ) (start written begun reported : Option (List ℕ)) : Type 0 where
  pub going : s.fault ≡ None
  pub output : Appends start written (flushed_output s.to s.week bytes)
  pub report : Appends begun reported (flushed_report s.week bytes)
  pub accepted : (lines_by true bytes ≡ []) ⊎ IsSome (ended_capture s.week bytes)
  pub few : length bytes < 2 ^ 32
  pub waits : IsWaiting s.lines
  pub behind : IsBehind s.to s.week s.lines s.receiving bytes start written begun reported

-- what an error states of the complete capture
abbrev pub CutSays : Option ℕ → List ℕ → BridgeFault → Type 0
CutSays week whole ReadFault = ⊥
CutSays week whole NotThisForm = capture_of week whole ≡ None
CutSays week whole TooLong = 2 ^ 32 ≤ length whole
CutSays week whole WriteFault = IsSome (capture_of week whole)
CutSays week whole ReportFault = IsSome (capture_of week whole)
CutSays week whole NoMemory = IsSome (capture_of week whole)

-- Something failed: no less was written and reported than what `bytes` decide, and no more than what
-- the complete capture gives. Both stop at one place. No counts were reported, or the report failed
-- after the whole output was written.
pub record IsCutShort (to : Target) (week : Option ℕ) (bytes whole : List ℕ) (start written begun reported : Option (List ℕ)) (fault : BridgeFault) : Type 0 where
  pub output : AppendsBetween start written (flushed_output to week bytes) (output_of to week whole)
  pub report : AppendsBetween begun reported (flushed_report week bytes) (report_of_capture week whole)
  pub stopped : StopAtOnePlace (Some (flushed_texts to week)) (Some whole) start written begun reported
  pub counts_last : AppendsPrefix begun reported (refusals_text (capture_of week whole)) ⊎ ((fault ≡ ReportFault) × Appends start written (output_of to week whole))
  pub says : CutSays week whole fault

-- the complete capture was written, reported and counted
pub record IsWhole (to : Target) (week : Option ℕ) (bytes : List ℕ) (start written begun reported : Option (List ℕ)) (counts : CaptureCounts) : Type 0 where
  pub output : Appends start written (output_of to week bytes)
  pub report : Appends begun reported (report_of_capture week bytes)
  pub counted : counts_in (capture_of week bytes) ≡ Some counts
  pub few : length bytes < 2 ^ 32
