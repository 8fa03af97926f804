-- The counts of a capture, stated by all of its lines and each I/NAV word received, and by the periods of the parts received.
use Rattle.std.specs.Prelude.{◌≡◌, ℕ, ◌+◌, List, [], length}
use Rattle.periods.specs.PeriodLists.{items_in}
use Rattle.periods.specs.declared.closed.Closed.{Closed}
use Rattle.streams.specs.Times.{times_of}
use Rattle.capture_log.specs.Log.{line_items_of}
use Rattle.capture_log.specs.declared.event.Event.{Event}
use Rattle.job_laws.specs.Counted.{Pair, own_weight, pairs_weight}
use Rattle.captures.specs.Captures.{Capture, is_again, is_contradicted, is_nohealth, is_partial, is_whole, verdicts}
use Rattle.captures.specs.Reports.{is_late, is_malformed, is_refused_event, is_unused}
use Rattle.captures.specs.declared.counts.CaptureCounts.{CaptureCounts}

-- the number of events of a kind: those of each line alone, and those of the words of these pairs
abbrev pub of_kind : (Event → ℕ) → Capture → List Pair → ℕ
of_kind kind c pairs = own_weight kind c.window [] (line_items_of c.lines) + pairs_weight kind pairs

-- each count is the number of events of its kind; the first line counts as a line
pub record CountLines (c : Capture) (pairs : List Pair) (counts : CaptureCounts) : Type 0 where
  pub lines : counts.lines ≡ length c.lines + 1
  pub malformed : counts.malformed ≡ of_kind is_malformed c pairs
  pub late : counts.late ≡ of_kind is_late c pairs
  pub refused : counts.refused ≡ of_kind is_refused_event c pairs
  pub unused : counts.unused ≡ of_kind is_unused c pairs

-- each count is the number of periods with its verdict; the times are those of the items of the
-- complete ones
pub record CountPeriods (periods : List Closed) (counts : CaptureCounts) : Type 0 where
  pub whole : counts.whole ≡ verdicts is_whole periods
  pub partial : counts.partial ≡ verdicts is_partial periods
  pub contradicted : counts.contradicted ≡ verdicts is_contradicted periods
  pub nohealth : counts.nohealth ≡ verdicts is_nohealth periods
  pub again : counts.again ≡ verdicts is_again periods
  pub times : counts.times ≡ times_of (items_in periods)
