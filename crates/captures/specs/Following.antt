-- What becomes of a capture that continues from its state between two pieces. Private functions
-- cite these.
use Rattle.std.specs.Prelude.{◌≡◌, ◌-◌, ◌<◌, ◌^◌, ℕ, true, false, Bool, List, [], ◌∷◌, ◌++◌, length, Option, Some, Result, MatchResult}
use Rattle.std.specs.Io.KnownBytes.{Appends, Consumes, IsAtEnd}
use Rattle.nav_io.specs.Lines.{Line, lines_by}
use Rattle.nav_io.specs.LinesState.{LinesState}
use Rattle.capture_log.specs.Log.{log_of}
use Rattle.streams.specs.Targets.{prefix_text}
use Rattle.streams.specs.declared.target.Target.{Target}
use Rattle.one_run.specs.declared.fault.BridgeFault.{BridgeFault}
use Rattle.one_run.specs.declared.fault.BridgeFault.TheVariants.{ReadFault}
use Rattle.captures.specs.declared.accept.Accepted.{Accepted}
use Rattle.captures.specs.declared.receiving.CaptureState.{CaptureState}
use Rattle.captures.specs.Captures.{accepted_line, counts_of}
use Rattle.captures.specs.Converts.{period_texts}
use Rattle.captures.specs.Flushed.{with_counts}
use Rattle.captures.specs.Notes.{line_report}
use Rattle.captures.specs.Pushed.{IsBehind, IsCutShort, IsWaiting}

-- the errors of a piece: a read after its end alone fails
abbrev pub piece_faults : Bool → List ℕ → ℕ
piece_faults false rest = 0
piece_faults true [] = 2 ^ 64 - 1
piece_faults true (x ∷ xs) = 0

-- the input was read to its end; all lines were processed, and all periods written
pub record FollowsAll (to : Target) (week : Option ℕ) (left left_new : Option (List ℕ)) (bytes : List ℕ) (lines : LinesState) (receiving : Option CaptureState) (start written begun reported : Option (List ℕ)) : Type 0 where
  pub taken : List ℕ
  pub consumes : Consumes left left_new taken
  pub end : IsAtEnd left_new
  pub few : length (bytes ++ taken) < 2 ^ 32
  pub h : CaptureState
  pub h_is : receiving ≡ Some h
  pub head : Accepted
  pub line : Line
  pub given : List Line
  pub accepted : accepted_line week line ≡ Some head
  pub lines_are : lines_by false (bytes ++ taken) ≡ line ∷ given
  pub text : Appends start written (prefix_text to ++ period_texts to head given)
  pub report : Appends begun reported (line_report (log_of head.window given))
  pub counts : with_counts lines.number h.receiver.tally h.said ≡ counts_of (record { window = head.window; week = head.week; lines = given })

-- after a failed read the state is that after the bytes read; any other error ends the conversion
-- early
abbrev pub FollowSays : Target → Option ℕ → List ℕ → List ℕ → LinesState → Option CaptureState → Option (List ℕ) → Option (List ℕ) → Option (List ℕ) → Option (List ℕ) → BridgeFault → Type 0
FollowSays to week bytes all lines receiving start written begun reported ReadFault = IsWaiting lines × IsBehind to week lines receiving all start written begun reported
FollowSays to week bytes all lines receiving start written begun reported fault =
    (following : List ℕ) → (lines.ended ≡ true → following ≡ []) → IsCutShort to week bytes (all ++ following) start written begun reported fault

-- the input could not be read on, or something failed
pub record FollowStops (to : Target) (week : Option ℕ) (left left_new : Option (List ℕ)) (bytes : List ℕ) (lines : LinesState) (receiving : Option CaptureState) (start written begun reported : Option (List ℕ)) (fault : BridgeFault) : Type 0 where
  pub taken : List ℕ
  pub consumes : Consumes left left_new taken
  pub end : lines.ended ≡ true → IsAtEnd left_new
  pub says : FollowSays to week bytes (bytes ++ taken) lines receiving start written begun reported fault

-- the conversion went on from the state after some bytes
abbrev pub Follows : {T : Type 0} → Target → Option ℕ → Option (List ℕ) → Option (List ℕ) → LinesState → LinesState → Option CaptureState → Option CaptureState → Option (List ℕ) → Option (List ℕ) → Option (List ℕ) → Option (List ℕ) → Result T BridgeFault → Type 0
Follows to week left left_new lines lines_new receiving hearing_new written written_new reported reported_new result =
    (bytes : List ℕ) (start begun : Option (List ℕ)) → IsWaiting lines → IsBehind to week lines receiving bytes start written begun reported
    → MatchResult result (λ x. FollowsAll to week left left_new bytes lines_new hearing_new start written_new begun reported_new)
    (λ fault. FollowStops to week left left_new bytes lines_new hearing_new start written_new begun reported_new fault)
