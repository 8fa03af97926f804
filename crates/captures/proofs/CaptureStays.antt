-- What is written and reported of the first bytes of a capture stays as more come.
use Rattle.std.proofs.Common.{ℕ, true, false, List, [], ◌∷◌, ◌++◌, sym, subst}
use Rattle.std.specs.Prelude.{Option, None, Some}
use Rattle.nav_io.specs.Lines.{Line, lines_by}
use Rattle.nav_io.specs.Prefix.{IsPrefix}
use Rattle.nav_io.proofs.Surface.{lines_prefix}
use Rattle.periods.specs.PeriodLists.{IsPeriodPrefix}
use Rattle.periods.specs.PeriodsOf.{closed_of, periods_of}
use Rattle.capture_log.specs.Log.{log_of, parts_of, watermark_after}
use Rattle.streams.specs.Targets.{back_text, prefix_text}
use Rattle.streams.specs.declared.target.Target.{Target}
use Rattle.captures.specs.Captures.{accepted_line, capture_in, capture_with, counts_of, counts_text, flushed_output, flushed_report, flushed_text, output_of, refusals_text, report_of_capture, texts_of, whole_report, whole_text}
use Rattle.captures.specs.Notes.{line_report}
use Rattle.captures.proofs.CapturePrefixes.{capture_by, report_prefix}
use Rattle.captures.proofs.Prefixes.{prefix_behind, prefix_more, prefix_nil, prefix_trans}
use Rattle.captures.proofs.Writing.{texts_prefix}

-- by cases
by_option : {A : Type 0} (P : Option A → Type 0) → P None → ((x : A) → P (Some x)) → (a : Option A) → P a
by_option P none some None = none
by_option P none some (Some x) = some x

-- what is closed is closed of more lines, and is among all periods
module _ (rise : (r window : ℕ) (lines more : List Line) → IsPeriodPrefix (closed_of r window (watermark_after window lines) (parts_of window lines))
    (closed_of r window (watermark_after window (lines ++ more)) (parts_of window (lines ++ more))))
    (among : (r window : ℕ) (lines more : List Line) → IsPeriodPrefix (closed_of r window (watermark_after window lines) (parts_of window lines))
    (periods_of r window (parts_of window (lines ++ more))))
    (to : Target) (week : Option ℕ) where
  lines_of_pieces : (lines more : List Line)
      → IsPrefix (flushed_text to (capture_in week lines)) (flushed_text to (capture_in week (lines ++ more)))
      × IsPrefix (refusals_text (capture_in week lines)) (refusals_text (capture_in week (lines ++ more)))
  lines_of_pieces [] more = (prefix_nil (flushed_text to (capture_in week more)), prefix_nil (refusals_text (capture_in week more)))
  lines_of_pieces (line ∷ lines) more =
      by_option (λ a. IsPrefix (flushed_text to (capture_with lines a)) (flushed_text to (capture_with (lines ++ more) a))
      × IsPrefix (refusals_text (capture_with lines a)) (refusals_text (capture_with (lines ++ more) a)))
      (prefix_nil [], prefix_nil [])
      (λ a. (prefix_behind (prefix_text to) _ _ (texts_prefix to _ _ (rise a.week a.window lines more)), report_prefix a.window lines more))
      (accepted_line week line)

  lines_of_whole : (lines more : List Line)
      → IsPrefix (flushed_text to (capture_in week lines)) (whole_text to (capture_in week (lines ++ more)))
      × IsPrefix (refusals_text (capture_in week lines)) (whole_report (capture_in week (lines ++ more)))
  lines_of_whole [] more = (prefix_nil (whole_text to (capture_in week more)), prefix_nil (whole_report (capture_in week more)))
  lines_of_whole (line ∷ lines) more =
      by_option (λ a. IsPrefix (flushed_text to (capture_with lines a)) (whole_text to (capture_with (lines ++ more) a))
      × IsPrefix (refusals_text (capture_with lines a)) (whole_report (capture_with (lines ++ more) a)))
      (prefix_nil [], prefix_nil [])
      (λ a.
      let closed = closed_of a.week a.window (watermark_after a.window lines) (parts_of a.window lines) in
      let all = periods_of a.week a.window (parts_of a.window (lines ++ more)) in
      let counts = counts_text (counts_of (capture_by a (lines ++ more))) in
      let back = back_text to counts in
      let told = line_report (log_of a.window (lines ++ more)) in (
        prefix_behind (prefix_text to) (texts_of to closed) (texts_of to all ++ back)
            (prefix_trans (texts_of to closed) (texts_of to all) (texts_of to all ++ back) (texts_prefix to closed all (among a.week a.window lines more)) (prefix_more (texts_of to all) back)),
        prefix_trans (line_report (log_of a.window lines)) told (told ++ counts) (report_prefix a.window lines more) (prefix_more told counts),
      ))
      (accepted_line week line)

  -- while more may come
  pub of_pieces : (bytes more : List ℕ) → IsPrefix (flushed_output to week bytes) (flushed_output to week (bytes ++ more))
      × IsPrefix (flushed_report week bytes) (flushed_report week (bytes ++ more))
  unfolding flushed_output flushed_report
  of_pieces bytes more =
      let lines = lines_prefix true bytes more in
      subst (λ (l : List Line). IsPrefix (flushed_text to (capture_in week (lines_by true bytes))) (flushed_text to (capture_in week l))
      × IsPrefix (refusals_text (capture_in week (lines_by true bytes))) (refusals_text (capture_in week l)))
      (sym lines.1) (lines_of_pieces (lines_by true bytes) lines.0)

  -- of the whole
  pub of_whole : (bytes more : List ℕ) → IsPrefix (flushed_output to week bytes) (output_of to week (bytes ++ more))
      × IsPrefix (flushed_report week bytes) (report_of_capture week (bytes ++ more))
  unfolding flushed_output flushed_report output_of report_of_capture
  of_whole bytes more =
      let lines = lines_prefix false bytes more in
      subst (λ (l : List Line). IsPrefix (flushed_text to (capture_in week (lines_by true bytes))) (whole_text to (capture_in week l))
      × IsPrefix (refusals_text (capture_in week (lines_by true bytes))) (whole_report (capture_in week l)))
      (sym lines.1) (lines_of_whole (lines_by true bytes) lines.0)
