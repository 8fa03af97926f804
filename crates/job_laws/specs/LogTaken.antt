-- The capture of a log, as the runs over captures read it.
use Rattle.std.specs.Prelude.{◌≡◌, ◌++◌, ℕ, List, Option, Some, None}
use Rattle.capture_log.specs.Log.{line_items_of, parts_of}
use Rattle.periods.specs.PeriodsOf.{periods_of}
use Rattle.streams.specs.declared.target.Target.{Target}
use Rattle.streams.specs.Targets.{back_text, prefix_text}
use Rattle.captures.specs.declared.counts.CaptureCounts.{CaptureCounts}
use Rattle.captures.specs.Captures.{Capture, capture_of, counts_of, counts_text, output_of, periods}
use Rattle.captures.specs.Captures.{texts_of}
use Rattle.job_laws.specs.LogReceived.{parts_received}
use Rattle.receiver_log.specs.declared.reception.Reception.{Reception}
use Rattle.job_laws.specs.LogItems.{items_of_log, week_of_log}

-- the output for a log of this week in this format: the periods of the parts received from its
-- items and, if the format has them, these counts
abbrev pub log_output : Target → ℕ → List Reception → CaptureCounts → List ℕ
log_output to week log counts =
    prefix_text to
    ++ (texts_of to (periods_of week 7200 (parts_received 7200 (items_of_log week log)))
    ++ back_text to (counts_text counts))

-- The text is a capture, whether or not the arguments name its week: it has the log's week, a
-- window of two hours, and lines that encode the items of the log. Its periods and its output are
-- those of the parts received from these.
pub record IsTaken (week : ℕ) (log : List Reception) (text : List ℕ) : Type 0 where
  pub capture : Capture
  pub is : capture_of None text ≡ Some capture
  pub is_named : capture_of (Some week) text ≡ Some capture
  pub week_is : capture.week ≡ week
  pub window_is : capture.window ≡ 7200
  pub items_are : line_items_of capture.lines ≡ items_of_log week log
  pub parts_are : parts_of 7200 capture.lines ≡ parts_received 7200 (items_of_log week log)
  pub periods_are :
      periods capture ≡ periods_of week 7200 (parts_received 7200 (items_of_log week log))
  pub output_is : (to : Target)
      → output_of to None text ≡ log_output to week log (counts_of capture)
  pub named_output_is : (to : Target)
      → output_of to (Some week) text ≡ log_output to week log (counts_of capture)

-- if a log has no week, the text is no capture
abbrev pub IsTakenBy : Option ℕ → List Reception → List ℕ → Type 0
IsTakenBy (Some week) log text = IsTaken week log text
IsTakenBy None log text = (named : Option ℕ) → capture_of named text ≡ None

-- the text is read as the capture of what the log yields
abbrev pub IsTakenThrough : List Reception → List ℕ → Type 0
IsTakenThrough log text = IsTakenBy (week_of_log log) log text
