-- A text that is the capture of a log is read as one.
use Rattle.std.proofs.Common.{◌≡◌, ◌++◌, ℕ, List, refl, ap, ◌∙◌}
use Rattle.std.proofs.lemmas.Bool.{eq-eqb}
use Rattle.std.specs.Prelude.{Option, Some, None}
use Rattle.nav_eph.specs.declared.part.Part.{Part}
use Rattle.periods.specs.PeriodsOf.{periods_of}
use Rattle.periods.specs.declared.closed.Closed.{Closed}
use Rattle.streams.specs.declared.target.Target.{Target}
use Rattle.streams.specs.Targets.{back_text, prefix_text}
use Rattle.captures.specs.Captures.{Capture, accepted_line, capture_of, counts_of, counts_text}
use Rattle.captures.specs.Captures.{output_of, periods, texts_of, whole_text}
use Rattle.job_laws.specs.LogReceived.{IsReceivedAs, IsReceivedBy, parts_received}
use Rattle.receiver_log.specs.declared.reception.Reception.{Reception}
use Rattle.job_laws.specs.LogItems.{items_of_log}
use Rattle.job_laws.specs.LogTaken.{IsTaken, IsTakenBy, log_output}

pub taken : (week : ℕ) (log : List Reception) (text : List ℕ) → IsReceivedAs week log text
    → IsTaken week log text
unfolding accepted_line output_of
taken week log text heard =
    let capture : Capture = record { window = 7200; week = week; lines = heard.lines } in
    let is : capture_of None text ≡ Some capture = rw (heard.lines_are, heard.head_is) refl in
    let named : capture_of (Some week) text ≡ Some capture =
    rw (heard.lines_are, heard.head_is, eq-eqb week week refl) refl in
    let same : periods capture ≡ periods_of week 7200 (parts_received 7200 (items_of_log week log)) =
    ap (λ (parts : List Part). periods_of week 7200 parts) heard.parts_are in
    let written : (to : Target) → whole_text to (Some capture)
    ≡ log_output to week log (counts_of capture) =
    λ to. ap (λ (cs : List Closed). prefix_text to
    ++ (texts_of to cs ++ back_text to (counts_text (counts_of capture)))) same in
    record {
      capture = capture;
      is = is;
      is_named = named;
      week_is = refl;
      window_is = refl;
      items_are = heard.items_are;
      parts_are = heard.parts_are;
      periods_are = same;
      output_is = λ to. ap (λ (c : Option Capture). whole_text to c) is ∙ written to;
      named_output_is = λ to. ap (λ (c : Option Capture). whole_text to c) named ∙ written to;
    }

pub taken_by : (week : Option ℕ) (log : List Reception) (text : List ℕ) → IsReceivedBy week log text
    → IsTakenBy week log text
taken_by (Some week) log text heard = taken week log text heard
taken_by None log text none = λ named. ap (λ t. capture_of named t) none
