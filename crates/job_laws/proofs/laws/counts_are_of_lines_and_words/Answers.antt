use Rattle.std.proofs.Common.{refl}
use Rattle.capture_log.specs.Log.{line_items_of}
use Rattle.captures.specs.Reports.{is_late, is_malformed, is_refused_event, is_unused}
use Rattle.job_laws.proofs.laws.counts_are_of_lines_and_words.Goals as goal

pub returns : goal.returns
returns c capture pairs are =
    record {
      lines = refl;
      malformed = c.events_are_counted.ensures.counts is_malformed capture.window 2 (line_items_of capture.lines) pairs are;
      late = c.events_are_counted.ensures.counts is_late capture.window 2 (line_items_of capture.lines) pairs are;
      refused = c.events_are_counted.ensures.counts is_refused_event capture.window 2 (line_items_of capture.lines) pairs are;
      unused = c.events_are_counted.ensures.counts is_unused capture.window 2 (line_items_of capture.lines) pairs are;
    }
