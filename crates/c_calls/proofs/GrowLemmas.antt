-- What a conversion made of some bytes is a prefix of what it makes of more, and of the whole.
use Rattle.std.proofs.Common.{◌≡◌, ℕ, List, [], ◌++◌, sym, ap, ◌∙◌, subst, append-nil}
use Rattle.std.specs.Prelude.{Option}
use Rattle.nav_io.specs.Prefix.{IsPrefix}
use Rattle.nav_eph.specs.declared.items.NavItem.{NavItem}
use Rattle.streams.specs.Targets.{prefix_text, item_text}
use Rattle.streams.specs.declared.target.Target.{Target}
use Rattle.captures.specs.Captures.{flushed_output, flushed_report, output_of, report_of_capture, target_of}
use Rattle.streams.specs.Streams.{flushed_output_by, flushed_readings, readings_report, stream_output_by, stream_report}
use Rattle.streams.specs.StreamTargets.{target_of_stream}
use Rattle.bridge_engine.specs.Meanings.{meaning_of}
use Rattle.bridge_engine.specs.declared.job.Job.{Job}
use Rattle.bridge_engine.specs.declared.job.Job.TheVariants as jobs
use Rattle.c_calls.specs.Pushes.{IsRunOf}
use Rattle.c_calls.specs.declared.push.PushedRun.{PushedRun}
use Rattle.c_calls.specs.declared.push.PushedRun.TheVariants.{Capture, Stream}
use Rattle.c_calls.proofs.RunLemmas.{HasFlushed}

-- a text and a longer one, by other names
within : (text longer some more : List ℕ) → some ≡ text → more ≡ longer → IsPrefix text longer → IsPrefix some more
within text longer some more is are (rest, e) = (rest, are ∙ e ∙ ap (λ (l : List ℕ). l ++ rest) (sym is))

both_within : (a b c d e f g h : List ℕ) → (e ≡ a) × (f ≡ b) → (g ≡ c) × (h ≡ d) → IsPrefix a c × IsPrefix b d → IsPrefix e g × IsPrefix f h
both_within a b c d e f g h before after prefixes =
    (within a c e g before.0 after.0 prefixes.0, within b d f h before.1 after.1 prefixes.1)

-- by a piece
pub grows_by : ((prefix : List ℕ) (text : NavItem → List ℕ) (r : ℕ) (bytes more : List ℕ)
    → IsPrefix (flushed_output_by prefix text r bytes) (flushed_output_by prefix text r (bytes ++ more))
    × IsPrefix (readings_report 1 (flushed_readings r bytes)) (readings_report 1 (flushed_readings r (bytes ++ more))))
    → ((to : Target) (week : Option ℕ) (bytes more : List ℕ)
    → IsPrefix (flushed_output to week bytes) (flushed_output to week (bytes ++ more))
    × IsPrefix (flushed_report week bytes) (flushed_report week (bytes ++ more)))
    → (run : PushedRun) (job : Job) (bytes piece output output' report report' : List ℕ) → IsRunOf run job bytes output report
    → HasFlushed job bytes output report → HasFlushed job (bytes ++ piece) output' report' → IsPrefix output output' × IsPrefix report report'
grows_by streams captures (Capture run) (jobs.Capture job) bytes piece output output' report report' is before after =
    both_within _ _ _ _ output report output' report' before after (captures (target_of job.to) job.week bytes piece)
grows_by streams captures (Stream run) (jobs.Stream job) bytes piece output output' report report' is before after =
    let to = target_of_stream job.to in
    both_within _ _ _ _ output report output' report' before after (streams (prefix_text to) (item_text to 0) job.week bytes piece)
grows_by streams captures run job bytes piece output output' report report' is before after = absurd is

-- to the whole
pub grows_to_whole : ((prefix : List ℕ) (text : NavItem → List ℕ) (r : ℕ) (bytes more : List ℕ)
    → IsPrefix (flushed_output_by prefix text r bytes) (stream_output_by prefix text r (bytes ++ more))
    × IsPrefix (readings_report 1 (flushed_readings r bytes)) (stream_report r (bytes ++ more)))
    → ((to : Target) (week : Option ℕ) (bytes more : List ℕ)
    → IsPrefix (flushed_output to week bytes) (output_of to week (bytes ++ more))
    × IsPrefix (flushed_report week bytes) (report_of_capture week (bytes ++ more)))
    → (run : PushedRun) (job : Job) (bytes output output' report report' : List ℕ) → IsRunOf run job bytes output report → HasFlushed job bytes output report
    → (output' ≡ (meaning_of job).whole.output bytes) × (report' ≡ (meaning_of job).whole.report bytes) → IsPrefix output output' × IsPrefix report report'
grows_to_whole streams captures (Capture run) (jobs.Capture job) bytes output output' report report' is before after =
    let to = target_of job.to in
    both_within _ _ _ _ output report output' report' before after
    (subst (λ (l : List ℕ). IsPrefix (flushed_output to job.week bytes) (output_of to job.week l) × IsPrefix (flushed_report job.week bytes) (report_of_capture job.week l)) (append-nil bytes)
    (captures to job.week bytes []))
grows_to_whole streams captures (Stream run) (jobs.Stream job) bytes output output' report report' is before after =
    let prefix = prefix_text (target_of_stream job.to) in
    let text = item_text (target_of_stream job.to) 0 in
    let r = job.week in
    both_within _ _ _ _ output report output' report' before after
    (subst (λ (l : List ℕ). IsPrefix (flushed_output_by prefix text r bytes) (stream_output_by prefix text r l) × IsPrefix (readings_report 1 (flushed_readings r bytes)) (stream_report r l)) (append-nil bytes)
    (streams prefix text r bytes []))
grows_to_whole streams captures run job bytes output output' report report' is before after = absurd is
