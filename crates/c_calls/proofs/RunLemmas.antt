-- What a run says of a piece and of the end, as its job says it.
use Rattle.std.proofs.Common.{◌≡◌, ◌≢◌, ◌⊎◌, inl, inr, ℕ, ◌+◌, ◌^◌, ◌≤◌, List, [], ◌++◌, length, refl, sym, ap, ◌∙◌, subst, arith, length-append}
use Rattle.std.specs.Prelude.{Option, None, Some, option_map, IfSome, IsSome, Result, Ok, Err, IfErr, OnErr, OnOk}
use Rattle.std.specs.Io.KnownBytes.{Appends}
use Rattle.nav_io.specs.Prefix.{AppendsPrefix, IsPrefix}
use Rattle.one_run.specs.Runs.{StopAtOnePlace, Texts}
use Rattle.one_run.specs.declared.fault.BridgeFault.{BridgeFault}
use Rattle.one_run.specs.declared.fault.BridgeFault.TheVariants.{NoMemory, NotThisForm, ReadFault, ReportFault, TooLong, WriteFault}
use Rattle.streams.specs.Targets.{prefix_text, item_text}
use Rattle.streams.specs.declared.target.Target.{Target}
use Rattle.captures.specs.Captures.{Capture as OfLines, capture_of, counts_in, flushed_output, flushed_report, flushed_texts, output_of, refusals_text, report_of_capture, target_of}
use Rattle.captures.specs.Pushed.{CaptureRunState, CutSays, IsCutShort as IsCaptureCut, IsPushed as IsCapturePushed, IsWhole as IsCaptureWhole}
use Rattle.captures.specs.declared.counts.CaptureCounts.{CaptureCounts}
use Rattle.streams.specs.Mirrors.{IsStreamFault}
use Rattle.streams.specs.Pushed.{IsCutShort, IsPushFault, IsPushed, IsWhole, StreamRunState}
use Rattle.streams.specs.Streams.{flushed_output_by, flushed_readings, readings_report, stream_output_by, stream_readings, stream_report}
use Rattle.streams.specs.StreamTargets.{target_of_stream}
use Rattle.bridge_engine.specs.Meanings.{meaning_of}
use Rattle.bridge_engine.specs.declared.done.Done.{Done}
use Rattle.bridge_engine.specs.declared.done.Done.TheVariants as dones
use Rattle.bridge_engine.specs.declared.job.CaptureJob.{CaptureJob}
use Rattle.bridge_engine.specs.declared.job.Job.{Job}
use Rattle.bridge_engine.specs.declared.job.Job.TheVariants as jobs
use Rattle.bridge_engine.specs.declared.job.StreamJob.{StreamJob}
use Rattle.c_calls.specs.Mirrors.{BreaksOff, Ends, EndsShort, GoesOn, IsCut}
use Rattle.c_calls.specs.Pushes.{IsRunOf}
use Rattle.c_calls.specs.declared.push.PushedRun.{PushedRun}
use Rattle.c_calls.specs.declared.push.PushedRun.TheVariants.{Capture, Stream}

-- ---- what an answer says

pub on_ok : {T E P Q : Type 0} (r : Result T E) → OnOk r P → (P → Q) → OnOk r Q
on_ok (Ok x) p f = f p
on_ok (Err e) p f = tt

pub on_ok3 : {T E P Q R S : Type 0} (r : Result T E) → OnOk r P → OnOk r Q → OnOk r R → (P → Q → R → S) → OnOk r S
on_ok3 (Ok x) p q s f = f p q s
on_ok3 (Err e) p q s f = tt

pub if_err : {T : Type 0} {P Q : BridgeFault → Type 0} (r : Result T BridgeFault) → IfErr r P → ((fault : BridgeFault) → P fault → Q fault) → IfErr r Q
if_err (Ok x) p f = tt
if_err (Err e) p f = f e p

pub on_err : {T A P : Type 0} {K Q : BridgeFault → Type 0} (r : Result T BridgeFault) → OnErr r P → (A → IfErr r K) → ((fault : BridgeFault) → P → (A → K fault) → Q fault) → IfErr r Q
on_err (Ok x) p k f = tt
on_err (Err e) p k f = f e p k

pub either : {T P S : Type 0} {Q : BridgeFault → Type 0} (r : Result T BridgeFault) → OnOk r P → IfErr r Q → (P → S) → ((fault : BridgeFault) → Q fault → S) → S
either (Ok x) p q f g = f p
either (Err e) p q f g = g e q

pub either_on : {T P Q S : Type 0} (r : Result T BridgeFault) → OnOk r P → OnErr r Q → (P → S) → (Q → S) → S
either_on (Ok x) p q f g = f p
either_on (Err e) p q f g = g q

-- ---- texts by a target and a week, as another one names them

named : {W : Type 0} (t t' : Target) (w w' : W) → t ≡ t' → w ≡ w' → (text : Target → W → List ℕ) → text t w ≡ text t' w'
named t t' w w' to week text = ap (λ (x : Target). text x w) to ∙ ap (text t') week

abbrev flushed_text : List ℕ → Target → ℕ → List ℕ
flushed_text bytes t r = flushed_output_by (prefix_text t) (item_text t 0) r bytes

abbrev flushed_told : List ℕ → Target → ℕ → List ℕ
flushed_told bytes t r = readings_report 1 (flushed_readings r bytes)

abbrev whole_text : List ℕ → Target → ℕ → List ℕ
whole_text bytes t r = stream_output_by (prefix_text t) (item_text t 0) r bytes

abbrev whole_told : List ℕ → Target → ℕ → List ℕ
whole_told bytes t r = stream_report r bytes

abbrev whole_lines : List ℕ → Target → ℕ → List ℕ
whole_lines bytes t r = readings_report 1 (stream_readings r bytes)

-- no counts were reported, or the whole output was written, as another one names the texts
last_named : (output report some some' text text' : List ℕ) → some ≡ some' → text ≡ text'
    → AppendsPrefix (Some []) (Some report) some ⊎ Appends (Some []) (Some output) text → IsPrefix report some' ⊎ (output ≡ text')
last_named output report some some' text text' same all (inl none) =
    inl (subst (IsPrefix report) same (subst (λ (l : List ℕ). IsPrefix l some) (sym none.2) none.1))
last_named output report some some' text text' same all (inr is) = inr (is ∙ all)

-- what bytes of a stream decide
abbrev decided_of : Target → ℕ → Texts
decided_of t r = record { output = λ bytes. flushed_text bytes t r; report = λ bytes. flushed_told bytes t r }

-- where output and report stop, as another target and week name the texts
stopped_named : {W : Type 0} (t t' : Target) (w w' : W) (texts : Target → W → Texts) (whole output report : List ℕ) → t ≡ t' → w ≡ w'
    → StopAtOnePlace (Some (texts t w)) (Some whole) (Some []) (Some output) (Some []) (Some report)
    → StopAtOnePlace (Some (texts t' w')) (Some whole) (Some []) (Some output) (Some []) (Some report)
stopped_named {W} t t' w w' texts whole output report to week stopped =
    subst (λ (x : Target). StopAtOnePlace (Some (texts x w')) (Some whole) (Some []) (Some output) (Some []) (Some report)) to
    (subst (λ (x : W). StopAtOnePlace (Some (texts t x)) (Some whole) (Some []) (Some output) (Some []) (Some report)) week stopped)

-- whatever failed
without : {A P B : Type 0} → A ⊎ (P × B) → A ⊎ B
without (inl a) = inl a
without (inr b) = inr b.1

-- what the bytes pushed decide was made
abbrev pub HasFlushed : Job → List ℕ → List ℕ → List ℕ → Type 0
HasFlushed job bytes output report = IfSome (meaning_of job).flushed (λ texts. (output ≡ texts.output bytes) × (report ≡ texts.report bytes))

pub flushed_by : (run : PushedRun) (job : Job) (bytes output report : List ℕ) → IsRunOf run job bytes output report → HasFlushed job bytes output report
flushed_by (Capture run) (jobs.Capture job) bytes output report is =
    let of_job = named run.to (target_of job.to) run.week job.week is.0 is.1 in
    (is.2.output ∙ of_job (λ t w. flushed_output t w bytes), is.2.report ∙ of_job (λ t w. flushed_report w bytes))
flushed_by (Stream run) (jobs.Stream job) bytes output report is =
    let of_job = named run.to (target_of_stream job.to) run.week job.week is.2 is.3 in
    (is.4.output ∙ of_job (flushed_text bytes), is.4.report ∙ of_job (flushed_told bytes))
flushed_by run job bytes output report is = absurd is

-- ---- a capture's run

-- whether there are counts, as a meaning without counts says it
abbrev forgotten : Option CaptureCounts → Option (Unit {0})
forgotten counts = option_map (λ (done : Done). tt) (option_map dones.Capture counts)

counted : (capture : Option OfLines) → IsSome capture → IsSome (forgotten (counts_in capture))
counted None never = never
counted (Some capture) some = refl

-- out of memory, the complete capture is accepted
accepted_whole : (week week' : Option ℕ) (whole : List ℕ) (fault : BridgeFault) → week ≡ week' → CutSays week whole fault → fault ≢ NotThisForm → fault ≢ TooLong
    → IsSome (forgotten (counts_in (capture_of week' whole)))
accepted_whole week week' whole ReadFault same says form long = absurd says
accepted_whole week week' whole NotThisForm same says form long = absurd (form refl)
accepted_whole week week' whole TooLong same says form long = absurd (long refl)
accepted_whole week week' whole WriteFault same says form long =
    subst (λ (w : Option ℕ). IsSome (forgotten (counts_in (capture_of w whole)))) same (counted (capture_of week whole) says)
accepted_whole week week' whole ReportFault same says form long =
    subst (λ (w : Option ℕ). IsSome (forgotten (counts_in (capture_of w whole)))) same (counted (capture_of week whole) says)
accepted_whole week week' whole NoMemory same says form long =
    subst (λ (w : Option ℕ). IsSome (forgotten (counts_in (capture_of w whole)))) same (counted (capture_of week whole) says)

cut_capture : (run : CaptureRunState) (job : CaptureJob) (bytes whole output report : List ℕ) (fault : BridgeFault) → run.to ≡ target_of job.to → run.week ≡ job.week
    → IsCaptureCut run.to run.week bytes whole (Some []) (Some output) (Some []) (Some report) fault → IsCut (jobs.Capture job) bytes whole output report fault
cut_capture run job bytes whole output report fault to week cut =
    let of_job = named run.to (target_of job.to) run.week job.week to week in
    let out : cut.output.prefix ≡ output = sym cut.output.grew in
    let rep : cut.report.prefix ≡ report = sym cut.report.grew in
    record {
      read = λ e. subst (CutSays run.week whole) e cut.says;
      form = λ e. ap (λ (w : Option ℕ). forgotten (counts_in (capture_of w whole))) (sym week)
          ∙ ap (λ c. forgotten (counts_in c)) (subst (CutSays run.week whole) e cut.says);
      long = λ e. subst (CutSays run.week whole) e cut.says;
      lack = accepted_whole run.week job.week whole fault week cut.says;
      least = subst (λ (l : List ℕ). IsPrefix l output) (of_job (λ t w. flushed_output t w bytes))
          (subst (λ (l : List ℕ). IsPrefix (flushed_output run.to run.week bytes) l) out cut.output.no_less);
      output = subst (λ (l : List ℕ). IsPrefix output l) (of_job (λ t w. output_of t w whole))
          (subst (λ (l : List ℕ). IsPrefix l (output_of run.to run.week whole)) out cut.output.within);
      least_report = subst (λ (l : List ℕ). IsPrefix l report) (of_job (λ t w. flushed_report w bytes))
          (subst (λ (l : List ℕ). IsPrefix (flushed_report run.week bytes) l) rep cut.report.no_less);
      report = subst (λ (l : List ℕ). IsPrefix report l) (of_job (λ t w. report_of_capture w whole))
          (subst (λ (l : List ℕ). IsPrefix l (report_of_capture run.week whole)) rep cut.report.within);
      stopped = stopped_named run.to (target_of job.to) run.week job.week flushed_texts whole output report to week cut.stopped;
      counts_last = last_named output report _ _ _ _ (of_job (λ t w. refusals_text (capture_of w whole))) (of_job (λ t w. output_of t w whole)) (without cut.counts_last);
    }

pub capture_goes : (run run' : CaptureRunState) (piece output output' report report' : List ℕ) → (run'.to ≡ run.to) × (run'.week ≡ run.week)
    → ((bytes : List ℕ) → IsCapturePushed run bytes (Some []) (Some output) (Some []) (Some report)
    → IsCapturePushed run' (bytes ++ piece) (Some []) (Some output') (Some []) (Some report'))
    → GoesOn (Capture run) (Capture run') piece output output' report report'
capture_goes run run' piece output output' report report' same goes (jobs.Capture job) bytes is =
    (same.0 ∙ is.0, same.1 ∙ is.1, goes bytes is.2)
capture_goes run run' piece output output' report report' same goes job bytes is = absurd is

pub capture_breaks : (run : CaptureRunState) (piece output output' report report' : List ℕ) (fault : BridgeFault)
    → ((bytes more : List ℕ) → IsCapturePushed run bytes (Some []) (Some output) (Some []) (Some report)
    → IsCaptureCut run.to run.week bytes ((bytes ++ piece) ++ more) (Some []) (Some output') (Some []) (Some report') fault)
    → BreaksOff (Capture run) piece output output' report report' fault
capture_breaks run piece output output' report report' fault short (jobs.Capture job) bytes more is =
    cut_capture run job bytes ((bytes ++ piece) ++ more) output' report' fault is.0 is.1 (short bytes more is.2)
capture_breaks run piece output output' report report' fault short job bytes more is = absurd is

pub capture_ends : (run : CaptureRunState) (output output' report report' : List ℕ) (counts : CaptureCounts)
    → ((bytes : List ℕ) → IsCapturePushed run bytes (Some []) (Some output) (Some []) (Some report)
    → IsCaptureWhole run.to run.week bytes (Some []) (Some output') (Some []) (Some report') counts)
    → Ends (Capture run) output output' report report'
capture_ends run output output' report report' counts ends (jobs.Capture job) bytes is =
    let of_job = named run.to (target_of job.to) run.week job.week is.0 is.1 in
    let whole = ends bytes is.2 in
    (whole.output ∙ of_job (λ t w. output_of t w bytes), whole.report ∙ of_job (λ t w. report_of_capture w bytes))
capture_ends run output output' report report' counts ends job bytes is = absurd is

-- fewer than 2^32 bytes were pushed
pub capture_ends_short : (run : CaptureRunState) (output output' report report' : List ℕ) (fault : BridgeFault)
    → ((bytes : List ℕ) → IsCapturePushed run bytes (Some []) (Some output) (Some []) (Some report)
    → IsCaptureCut run.to run.week bytes bytes (Some []) (Some output') (Some []) (Some report') fault)
    → EndsShort (Capture run) output output' report report' fault
capture_ends_short run output output' report report' fault short (jobs.Capture job) bytes is =
    let cut = short bytes is.2 in (
      cut_capture run job bytes bytes output' report' fault is.0 is.1 cut,
      λ e. let many : 2 ^ 32 ≤ length bytes = subst (CutSays run.week bytes) e cut.says in
          absurd (omega (arith, is.2.few, many)),
    )
capture_ends_short run output output' report report' fault short job bytes is = absurd is

-- ---- a stream's run

not_read : (size : ℕ) (fault : BridgeFault) → IsPushFault size fault → fault ≢ ReadFault
not_read size fault (inl stream, only) e = subst IsStreamFault e stream
not_read size fault (inr (is, long), only) e = cc

not_form : (size : ℕ) (fault : BridgeFault) → IsPushFault size fault → fault ≢ NotThisForm
not_form size fault (inl stream, only) e = subst IsStreamFault e stream
not_form size fault (inr (is, long), only) e = cc

how_long : (size : ℕ) (fault : BridgeFault) → IsPushFault size fault → fault ≡ TooLong → 2 ^ 64 ≤ size
how_long size fault (inl stream, only) e = absurd (subst IsStreamFault e stream)
how_long size fault (inr (is, long), only) e = long

cut_stream : (run : StreamRunState) (job : StreamJob) (size : ℕ) (bytes whole output report : List ℕ) (fault : BridgeFault) → run.to ≡ target_of_stream job.to → run.week ≡ job.week
    → IsPushFault size fault → size ≤ length whole → IsCutShort run bytes whole (Some []) (Some output) (Some []) (Some report) → IsCut (jobs.Stream job) bytes whole output report fault
cut_stream run job size bytes whole output report fault to week kind within cut =
    let of_job = named run.to (target_of_stream job.to) run.week job.week to week in
    let out : cut.output.prefix ≡ output = sym cut.output.grew in
    let rep : cut.report.prefix ≡ report = sym cut.report.grew in
    record {
      read = not_read size fault kind;
      form = λ e. absurd (not_form size fault kind e);
      long = λ e. omega (arith, how_long size fault kind e, within);
      lack = λ form long. refl;
      least = subst (λ (l : List ℕ). IsPrefix l output) (of_job (flushed_text bytes))
          (subst (λ (l : List ℕ). IsPrefix (flushed_text bytes run.to run.week) l) out cut.output.no_less);
      output = subst (λ (l : List ℕ). IsPrefix output l) (of_job (whole_text whole))
          (subst (λ (l : List ℕ). IsPrefix l (whole_text whole run.to run.week)) out cut.output.within);
      least_report = subst (λ (l : List ℕ). IsPrefix l report) (of_job (flushed_told bytes))
          (subst (λ (l : List ℕ). IsPrefix (flushed_told bytes run.to run.week) l) rep cut.report.no_less);
      report = subst (λ (l : List ℕ). IsPrefix report l) (of_job (whole_told whole))
          (subst (λ (l : List ℕ). IsPrefix l (whole_told whole run.to run.week)) rep cut.report.within);
      stopped = stopped_named run.to (target_of_stream job.to) run.week job.week decided_of whole output report to week cut.stopped;
      counts_last = last_named output report _ _ _ _ (of_job (whole_lines whole)) (of_job (whole_text whole)) cut.counts_last;
    }

pub stream_goes : (run run' : StreamRunState) (piece output output' report report' : List ℕ) → (run'.to ≡ run.to) × (run'.week ≡ run.week)
    → ((bytes : List ℕ) → IsPushed run bytes (Some []) (Some output) (Some []) (Some report)
    → IsPushed run' (bytes ++ piece) (Some []) (Some output') (Some []) (Some report'))
    → run'.taken ≡ run.taken + length piece → run'.fault ≡ None
    → GoesOn (Stream run) (Stream run') piece output output' report report'
stream_goes run run' piece output output' report report' same goes taken going (jobs.Stream job) bytes is =
    (going, omega (arith, taken, is.1, length-append bytes piece), same.0 ∙ is.2, same.1 ∙ is.3, goes bytes is.4)
stream_goes run run' piece output output' report report' same goes taken going job bytes is = absurd is

pub stream_breaks : (run : StreamRunState) (piece output output' report report' : List ℕ) (fault : BridgeFault)
    → ((bytes more : List ℕ) → IsPushed run bytes (Some []) (Some output) (Some []) (Some report)
    → IsCutShort run bytes ((bytes ++ piece) ++ more) (Some []) (Some output') (Some []) (Some report'))
    → (run.fault ≡ None → IsPushFault (run.taken + length piece) fault)
    → BreaksOff (Stream run) piece output output' report report' fault
stream_breaks run piece output output' report report' fault short kind (jobs.Stream job) bytes more is =
    cut_stream run job (run.taken + length piece) bytes ((bytes ++ piece) ++ more) output' report' fault is.2 is.3 (kind is.0)
    (omega (arith, is.1, length-append (bytes ++ piece) more, length-append bytes piece)) (short bytes more is.4)
stream_breaks run piece output output' report report' fault short kind job bytes more is = absurd is

pub stream_ends : (run : StreamRunState) (output output' report report' : List ℕ)
    → ((bytes : List ℕ) → IsPushed run bytes (Some []) (Some output) (Some []) (Some report)
    → IsWhole run bytes (Some []) (Some output') (Some []) (Some report'))
    → Ends (Stream run) output output' report report'
stream_ends run output output' report report' ends (jobs.Stream job) bytes is =
    let of_job = named run.to (target_of_stream job.to) run.week job.week is.2 is.3 in
    let whole = ends bytes is.4 in
    (whole.output ∙ of_job (whole_text bytes), whole.report ∙ of_job (whole_told bytes))
stream_ends run output output' report report' ends job bytes is = absurd is

pub stream_ends_short : (run : StreamRunState) (output output' report report' : List ℕ) (fault : BridgeFault)
    → ((bytes : List ℕ) → IsPushed run bytes (Some []) (Some output) (Some []) (Some report)
    → IsCutShort run bytes bytes (Some []) (Some output') (Some []) (Some report'))
    → (run.fault ≡ None → IsStreamFault fault)
    → EndsShort (Stream run) output output' report report' fault
stream_ends_short run output output' report report' fault short kind (jobs.Stream job) bytes is = (
  cut_stream run job 0 bytes bytes output' report' fault is.2 is.3 (inl (kind is.0), λ many. absurd (omega (arith, many))) (omega arith) (short bytes is.4),
  λ e. subst IsStreamFault e (kind is.0),
)
stream_ends_short run output output' report report' fault short kind job bytes is = absurd is
