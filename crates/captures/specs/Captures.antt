-- The capture that some bytes are, and what is written and reported of it.
use Rattle.std.specs.Prelude.{ℕ, ◌^◌, ◌+◌, ◌-◌, ◌==◌, true, false, if◌then◌else◌, List, [], ◌∷◌, ◌++◌, length, take, codes, map, sum, Option, None, Some}
use Rattle.std.specs.List.{flat_map}
use Rattle.nav_io.specs.Lines.{Line, lines_by}
use Rattle.nav_eph.specs.declared.items.NavItem.{NavItem}
use Rattle.capture_lines.specs.Heads.{head_of}
use Rattle.capture_lines.specs.declared.head.CaptureHead.{CaptureHead}
use Rattle.periods.specs.PeriodLists.{items_in}
use Rattle.periods.specs.PeriodsOf.{periods_of, closed_of}
use Rattle.periods.specs.declared.closed.Closed.{Closed}
use Rattle.periods.specs.declared.closed.Verdict.{Verdict}
use Rattle.periods.specs.declared.closed.Verdict.TheVariants.{Whole, Partial, Contradicted, NoHealth, Again}
use Rattle.capture_log.specs.Log.{log_of, parts_of, watermark_after}
use Rattle.one_run.specs.Runs.{Meaning, Texts}
use Rattle.streams.specs.declared.target.Target.{Target}
use Rattle.streams.specs.declared.target.Target.TheVariants.{Rinex, Rinex3, Rtcm, ToList, Count}
use Rattle.streams.specs.Targets.{back_text, prefix_text, period_text}
use Rattle.streams.specs.Times.{times_of}
use Rattle.captures.specs.declared.target.CaptureTo.{CaptureTo}
use Rattle.captures.specs.declared.target.CaptureTo.TheVariants as captures
use Rattle.captures.specs.declared.counts.CaptureCounts.{CaptureCounts}
use Rattle.captures.specs.declared.accept.Accepted.{Accepted}
use Rattle.one_run.specs.Reports.{count_line}
use Rattle.captures.specs.Reports.{report_in, count_in, is_malformed, is_late, is_refused_event, is_unused}

-- the reference week of a capture: that of the command line or of the first line; none where neither names one or they differ
abbrev pub week_for : Option ℕ → Option ℕ → Option ℕ
week_for None named = named
week_for (Some week) None = Some week
week_for (Some week) (Some named) = if week == named then Some week else None

-- an accepted first line: its window in seconds, and the reference week
abbrev pub accepted_with : ℕ → Option ℕ → Option Accepted
accepted_with window None = None
accepted_with window (Some week) = Some (record { window = window; week = week })

-- the first line as it is accepted for the week of the command line, or for none
abbrev pub accepted_head : Option ℕ → Option CaptureHead → Option Accepted
accepted_head week None = None
accepted_head week (Some head) = accepted_with head.window (week_for week head.week)

-- the same for a line; a line of more than 2,200 bytes is not accepted
unfoldable pub accepted_line : Option ℕ → Line → Option Accepted
accepted_line week line = if line.long then None else accepted_head week (head_of line.text)

-- a capture with an accepted first line: its window in seconds, its reference week, and the lines after the first
pub record Capture : Type 0 where
  pub window : ℕ
  pub week : ℕ
  pub lines : List Line

-- the capture that the lines are, if the first is accepted for the week
abbrev pub capture_with : List Line → Option Accepted → Option Capture
capture_with lines None = None
capture_with lines (Some a) = Some (record { window = a.window; week = a.week; lines = lines })

-- the capture that the lines are, the first of them included
abbrev pub capture_in : Option ℕ → List Line → Option Capture
capture_in week [] = None
capture_in week (head ∷ lines) = capture_with lines (accepted_line week head)

-- the capture that the bytes are
abbrev pub capture_of : Option ℕ → List ℕ → Option Capture
capture_of week bytes = capture_in week (lines_by false bytes)

-- the capture that the complete lines of the bytes are
abbrev pub ended_capture : Option ℕ → List ℕ → Option Capture
ended_capture week bytes = capture_in week (lines_by true bytes)

-- the periods of a capture
abbrev pub periods : Capture → List Closed
periods c = periods_of c.week c.window (parts_of c.window c.lines)

-- the periods of a capture that are closed at the watermark of its lines
abbrev pub flushed_periods : Capture → List Closed
flushed_periods c = closed_of c.week c.window (watermark_after c.window c.lines) (parts_of c.window c.lines)

-- the items of a capture: those of its complete periods, in their order
abbrev pub items : Capture → List NavItem
items c = items_in (periods c)

-- 1 for a complete period, else 0
abbrev pub is_whole : Verdict → ℕ
is_whole (Whole item) = 1
is_whole _ = 0

-- 1 for a partial period, else 0
abbrev pub is_partial : Verdict → ℕ
is_partial Partial = 1
is_partial _ = 0

-- 1 for a contradicted period, else 0
abbrev pub is_contradicted : Verdict → ℕ
is_contradicted Contradicted = 1
is_contradicted _ = 0

-- 1 for a Galileo period without signal health, else 0
abbrev pub is_nohealth : Verdict → ℕ
is_nohealth NoHealth = 1
is_nohealth _ = 0

-- 1 for a period that repeats the last complete one of its key, else 0
abbrev pub is_again : Verdict → ℕ
is_again Again = 1
is_again _ = 0

-- how many periods have a verdict
abbrev pub verdicts : (Verdict → ℕ) → List Closed → ℕ
verdicts kind cs = sum (map (λ c. kind c.verdict) cs)

-- the counts of a capture; the first line counts too
abbrev pub counts_of : Capture → CaptureCounts
counts_of c = record {
  lines = length c.lines + 1;
  malformed = count_in is_malformed (log_of c.window c.lines);
  late = count_in is_late (log_of c.window c.lines);
  refused = count_in is_refused_event (log_of c.window c.lines);
  unused = count_in is_unused (log_of c.window c.lines);
  whole = verdicts is_whole (periods c);
  partial = verdicts is_partial (periods c);
  contradicted = verdicts is_contradicted (periods c);
  nohealth = verdicts is_nohealth (periods c);
  again = verdicts is_again (periods c);
  times = times_of (items c);
}

-- the text of counts: a line for each, in the order of the fields
unfoldable pub counts_text : CaptureCounts → List ℕ
counts_text c =
    (((((((((count_line (codes "lines") c.lines ++ count_line (codes "malformed") c.malformed) ++ count_line (codes "late") c.late)
    ++ count_line (codes "refused") c.refused) ++ count_line (codes "unused") c.unused) ++ count_line (codes "whole") c.whole)
    ++ count_line (codes "partial") c.partial) ++ count_line (codes "contradicted") c.contradicted)
    ++ count_line (codes "nohealth") c.nohealth) ++ count_line (codes "again") c.again)

-- the texts of periods
abbrev pub texts_of : Target → List Closed → List ℕ
texts_of to cs = flat_map (period_text to) cs

-- what is written of a complete capture
abbrev pub whole_text : Target → Option Capture → List ℕ
whole_text to None = []
whole_text to (Some c) = prefix_text to ++ (texts_of to (periods c) ++ back_text to (counts_text (counts_of c)))

-- what is written of it so far, when more lines may come
abbrev pub flushed_text : Target → Option Capture → List ℕ
flushed_text to None = []
flushed_text to (Some c) = prefix_text to ++ texts_of to (flushed_periods c)

-- what is reported of a capture: a line for each refusal, and the counts
abbrev pub whole_report : Option Capture → List ℕ
whole_report None = []
whole_report (Some c) = report_in (codes "line") (log_of c.window c.lines) ++ counts_text (counts_of c)

-- what is reported of it so far, when more lines may come: a line for each refusal
abbrev pub refusals_text : Option Capture → List ℕ
refusals_text None = []
refusals_text (Some c) = report_in (codes "line") (log_of c.window c.lines)

-- the output for a capture's bytes, with the week of the command line or none
unfoldable pub output_of : Target → Option ℕ → List ℕ → List ℕ
output_of to week bytes = whole_text to (capture_of week bytes)

-- the report of a capture's bytes
unfoldable pub report_of_capture : Option ℕ → List ℕ → List ℕ
report_of_capture week bytes = whole_report (capture_of week bytes)

-- the output so far, after the complete lines of the bytes
unfoldable pub flushed_output : Target → Option ℕ → List ℕ → List ℕ
flushed_output to week bytes = flushed_text to (ended_capture week bytes)

-- the report so far, after the complete lines of the bytes
unfoldable pub flushed_report : Option ℕ → List ℕ → List ℕ
flushed_report week bytes = refusals_text (ended_capture week bytes)

-- output and report so far
abbrev pub flushed_texts : Target → Option ℕ → Texts
flushed_texts to week = record { output = flushed_output to week; report = flushed_report week }

-- all lines but the last
abbrev pub without_last : List Line → List Line
without_last [] = []
without_last (line ∷ []) = []
without_last (line ∷ more ∷ lines) = line ∷ without_last (more ∷ lines)

-- the complete lines before the last 4,096 bytes, without the last of these lines
abbrev pub early_lines : List ℕ → List Line
early_lines bytes = without_last (lines_by true (take (length bytes - 4096) bytes))

-- the least that was written of the bytes taken, at an error other than of a read: what these lines close
unfoldable pub least_output : Target → Option ℕ → List ℕ → List ℕ
least_output to week bytes = flushed_text to (capture_in week (early_lines bytes))

-- the least that was reported of them: the refusals of these lines
unfoldable pub least_report : Option ℕ → List ℕ → List ℕ
least_report week bytes = refusals_text (capture_in week (early_lines bytes))

-- the form that is written
abbrev pub target_of : CaptureTo → Target
target_of (captures.Rinex words) = Rinex words
target_of (captures.Rinex3 words) = Rinex3 words
target_of captures.Rtcm = Rtcm
target_of captures.ToList = ToList
target_of captures.Count = Count

-- the counts of a capture, if there is one
abbrev pub counts_in : Option Capture → Option CaptureCounts
counts_in None = None
counts_in (Some c) = Some (counts_of c)

-- the meaning of a run over a capture, in this form
abbrev pub target_meaning : Target → Option ℕ → Meaning CaptureCounts
target_meaning to week = record {
  reads = true;
  reports = true;
  memory = true;
  limit = 2 ^ 32;
  counts = λ bytes. counts_in (capture_of week bytes);
  whole = record { output = output_of to week; report = report_of_capture week };
  rejections = λ bytes. refusals_text (capture_of week bytes);
  least = record { output = least_output to week; report = least_report week };
  flushed = Some (flushed_texts to week);
}

-- the same, by the target that a conversion names
abbrev pub capture_meaning : CaptureTo → Option ℕ → Meaning CaptureCounts
capture_meaning to week = target_meaning (target_of to) week
