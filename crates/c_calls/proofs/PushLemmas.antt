-- What the steps of a conversion leave, by what its run says.
use Rattle.std.proofs.Common.{◌≡◌, ◌≢◌, ◌⊎◌, inl, inr, ℕ, ◌+◌, List, [], ◌∷◌, ◌++◌, length, refl, ap, arith, subst, sym}
use Rattle.std.specs.Prelude.{Option, None, Some}
use Rattle.nav_io.specs.Prefix.{IsPrefix}
use Rattle.one_run.specs.declared.fault.BridgeFault.{BridgeFault}
use Rattle.one_run.specs.declared.fault.BridgeFault.TheVariants.{NotThisForm, ReadFault, TooLong}
use Rattle.captures.specs.Captures.{target_of}
use Rattle.captures.specs.Pushed.{CaptureRunState, IsPushed as IsCapturePushed}
use Rattle.streams.specs.Pushed.{IsPushed, StreamRunState}
use Rattle.streams.specs.StreamTargets.{target_of_stream}
use Rattle.bridge_engine.specs.Meanings.{meaning_of}
use Rattle.bridge_engine.specs.declared.job.CaptureJob.{CaptureJob}
use Rattle.bridge_engine.specs.declared.job.Job.{Job}
use Rattle.bridge_engine.specs.declared.job.Job.TheVariants as jobs
use Rattle.bridge_engine.specs.declared.job.StreamJob.{StreamJob}
use Rattle.c_calls.specs.Mirrors.{BreaksOff, Ends, EndsShort, GoesOn, IsCut, KeepsReleased}
use Rattle.c_calls.specs.Pending.{all_of, marked_text}
use Rattle.c_calls.specs.Pushes.{Begins, Finishes, IsAt, IsCutAt, IsOfJob, IsRunOf, PushState, Pushes, closed}
use Rattle.c_calls.specs.declared.pending.Pending.{Pending}
use Rattle.c_calls.specs.declared.push.PushedRun.{PushedRun}
use Rattle.c_calls.specs.declared.push.PushedRun.TheVariants.{Capture, Idle, Stream}
use Rattle.c_calls.proofs.Marks.{first, stream_bare}
use Rattle.c_calls.proofs.RunLemmas.{HasFlushed, flushed_by}

-- what contracts see of a conversion with these fields
abbrev pub state : PushedRun → Pending → ℕ → Pending → ℕ → ℕ → PushState
state run o taken r told status = record {
  run = run;
  output = all_of o;
  taken = length o.released.text + taken;
  released = length o.released.text;
  report = all_of r;
  told = length r.released.text + told;
  report_released = length r.released.text;
  status = status;
}

-- a conversion whose run is that of a job, which can be pushed
at_run : (run : PushedRun) (o : Pending) (taken : ℕ) (r : Pending) (told : ℕ) (job : Job) (bytes : List ℕ) → IsRunOf run job bytes (all_of o) (all_of r)
    → IsAt (state run o taken r told 0) job bytes
at_run run o taken r told job bytes is = record { status = refl; made = flushed_by run job bytes (all_of o) (all_of r) is; run = is }

-- ---- a conversion begins

module _ (run₀ : PushedRun) (o : Pending) (taken : ℕ) (r : Pending) (told status : ℕ) (was : state run₀ o taken r told status ≡ closed) where
  pub none_written : all_of o ≡ []
  none_written = ap (λ (s : PushState). s.output) was

  pub none_reported : all_of r ≡ []
  none_reported = ap (λ (s : PushState). s.report) was

  pub none_taken : length o.released.text + taken ≡ 0
  none_taken = ap (λ (s : PushState). s.taken) was

  pub none_told : length r.released.text + told ≡ 0
  none_told = ap (λ (s : PushState). s.told) was

  -- the job of a capture begins
  capture_is : (run : CaptureRunState) (job : CaptureJob) → run.to ≡ target_of job.to → run.week ≡ job.week
      → ((start begun : Option (List ℕ)) → IsCapturePushed run [] start start begun begun) → IsRunOf (Capture run) (jobs.Capture job) [] (all_of o) (all_of r)
  capture_is run job to week pushed = (
    to,
    week,
    subst (λ (l : List ℕ). IsCapturePushed run [] (Some []) (Some l) (Some []) (Some (all_of r))) (sym none_written)
        (subst (λ (l : List ℕ). IsCapturePushed run [] (Some []) (Some []) (Some []) (Some l)) (sym none_reported) (pushed (Some []) (Some []))),
  )

  pub capture_begins : (run : CaptureRunState) (job : CaptureJob) → run.to ≡ target_of job.to → run.week ≡ job.week
      → ((start begun : Option (List ℕ)) → IsCapturePushed run [] start start begun begun) → Begins (jobs.Capture job) (state (Capture run) o taken r told 0)
  capture_begins run job to week pushed = inl (at_run (Capture run) o taken r told (jobs.Capture job) [] (capture_is run job to week pushed), (none_taken, none_told, omega (arith, none_taken), omega (arith, none_told)))

  pub capture_lives : (run : CaptureRunState) (job : CaptureJob) → run.to ≡ target_of job.to → run.week ≡ job.week
      → ((start begun : Option (List ℕ)) → IsCapturePushed run [] start start begun begun) → IsOfJob (state (Capture run) o taken r told 0)
  capture_lives run job to week pushed zero = (jobs.Capture job, [], capture_is run job to week pushed)

  -- the job of a stream begins, with the text before the items
  module _ (run : StreamRunState) (job : StreamJob) (o' : Pending) (none : run.fault ≡ None) (no_byte : run.taken ≡ 0) (to : run.to ≡ target_of_stream job.to) (week : run.week ≡ job.week)
      (pushed : (begun : Option (List ℕ)) → IsPushed run [] (Some (marked_text o)) (Some (marked_text o')) begun begun) where
    bare : IsPushed run [] (Some (0 ∷ [])) (Some (marked_text o')) (Some (0 ∷ [])) (Some (0 ∷ []))
    bare =
        let mark : length o.released.text ≡ 0 = omega (arith, none_taken) in
        subst (λ (l : List ℕ). IsPushed run [] (Some (0 ∷ l)) (Some (marked_text o')) (Some (0 ∷ [])) (Some (0 ∷ []))) none_written
        (subst (λ (n : ℕ). IsPushed run [] (Some (n ∷ all_of o)) (Some (marked_text o')) (Some (0 ∷ [])) (Some (0 ∷ []))) mark (pushed (Some (0 ∷ []))))

    stream_is : IsRunOf (Stream run) (jobs.Stream job) [] (all_of o') (all_of r)
    stream_is = (
      none,
      no_byte,
      to,
      week,
      subst (λ (l : List ℕ). IsPushed run [] (Some []) (Some (all_of o')) (Some []) (Some l)) (sym none_reported)
          (stream_bare run [] 0 (length o'.released.text) 0 0 (all_of o') [] bare),
    )

    pub stream_begins : Begins (jobs.Stream job) (state (Stream run) o' taken r told 0)
    stream_begins =
        let mark : length o'.released.text ≡ 0 = ap first bare.output in
        inl (at_run (Stream run) o' taken r told (jobs.Stream job) [] stream_is, (omega (arith, mark, none_taken), none_told, mark, omega (arith, none_told)))

    pub stream_lives : IsOfJob (state (Stream run) o' taken r told 0)
    stream_lives zero = (jobs.Stream job, [], stream_is)

-- ---- a fault

-- which fault an answer tells
pub record Tells (fault : BridgeFault) (answer : ℕ) : Type 0 where
  pub some : answer ≢ 0
  pub form : answer ≡ 5 → fault ≡ NotThisForm
  pub long : answer ≡ 8 → fault ≡ TooLong
  pub lack : answer ≡ 6 → (fault ≢ NotThisForm) × (fault ≢ TooLong)
  pub known : (fault ≡ ReadFault → ⊥) → (answer ≡ 5) ⊎ (answer ≡ 6) ⊎ (answer ≡ 8)

cut_at : (it : PushState) (job : Job) (bytes whole : List ℕ) (fault : BridgeFault) (answer : ℕ) → Tells fault answer → IsCut job bytes whole it.output it.report fault
    → IsCutAt it job bytes whole answer
cut_at it job bytes whole fault answer tells cut = record {
  form = λ five. cut.form (tells.form five);
  long = λ eight. cut.long (tells.long eight);
  lack = λ six. cut.lack (tells.lack six).0 (tells.lack six).1;
  least = cut.least;
  output = cut.output;
  least_report = cut.least_report;
  report = cut.report;
  stopped = cut.stopped;
  counts_last = cut.counts_last;
}

not_too_long : (answer : ℕ) → (answer ≡ 8 → ⊥) → (answer ≡ 5) ⊎ (answer ≡ 6) ⊎ (answer ≡ 8) → (answer ≡ 0) ⊎ (answer ≡ 5) ⊎ (answer ≡ 6)
not_too_long answer few (inl five) = inr (inl five)
not_too_long answer few (inr (inl six)) = inr (inr six)
not_too_long answer few (inr (inr eight)) = absurd (few eight)

-- ---- steps

module _ (run : PushedRun) (o o' r r' : Pending) (taken told : ℕ) (live : (job : Job) × (bytes : List ℕ) × IsRunOf run job bytes (all_of o) (all_of r)) (kept : KeepsReleased run o o' r r') where
  abbrev old : PushState
  old = state run o taken r told 0

  abbrev same_output : length o'.released.text ≡ length o.released.text
  same_output = (kept live.0 live.1 live.2).0

  abbrev same_report : length r'.released.text ≡ length r.released.text
  same_report = (kept live.0 live.1 live.2).1

  keeps : (length o'.released.text + taken ≡ length o.released.text + taken) × (length r'.released.text + told ≡ length r.released.text + told)
      × (length o'.released.text ≡ length o.released.text) × (length r'.released.text ≡ length r.released.text)
  keeps = (ap (λ (n : ℕ). n + taken) same_output, ap (λ (n : ℕ). n + told) same_report, same_output, same_report)

  pub pushed : (run' : PushedRun) (piece : List ℕ) → GoesOn run run' piece (all_of o) (all_of o') (all_of r) (all_of r')
      → ((job : Job) (bytes : List ℕ) → IsRunOf run job bytes (all_of o) (all_of r) → HasFlushed job bytes (all_of o) (all_of r) → HasFlushed job (bytes ++ piece) (all_of o') (all_of r')
      → IsPrefix (all_of o) (all_of o') × IsPrefix (all_of r) (all_of r'))
      → Pushes old piece (state run' o' taken r' told 0) 0
  pushed run' piece goes grows = record {
    done = λ job bytes at zero. at_run run' o' taken r' told job (bytes ++ piece) (goes job bytes at.run);
    grows = λ job bytes at zero. grows job bytes at.run at.made (flushed_by run' job (bytes ++ piece) (all_of o') (all_of r') (goes job bytes at.run));
    cut = λ job bytes more at nonzero. absurd (nonzero refl);
    known = λ job bytes at. inl refl;
    status = refl;
    again = λ nonzero. absurd (nonzero refl);
    keeps = keeps;
  }

  pub pushed_lives : (run' : PushedRun) (piece : List ℕ) → GoesOn run run' piece (all_of o) (all_of o') (all_of r) (all_of r') → IsOfJob (state run' o' taken r' told 0)
  pushed_lives run' piece goes zero = (live.0, live.1 ++ piece, goes live.0 live.1 live.2)

  pub cut_off : (run' : PushedRun) (piece : List ℕ) (fault : BridgeFault) (answer : ℕ) → Tells fault answer → BreaksOff run piece (all_of o) (all_of o') (all_of r) (all_of r') fault
      → Pushes old piece (state run' o' taken r' told answer) answer
  cut_off run' piece fault answer tells breaks = record {
    done = λ job bytes at zero. absurd (tells.some zero);
    grows = λ job bytes at zero. absurd (tells.some zero);
    cut = λ job bytes more at nonzero. cut_at (state run' o' taken r' told answer) job bytes ((bytes ++ piece) ++ more) fault answer tells (breaks job bytes more at.run);
    known = λ job bytes at. inr (tells.known (breaks job bytes [] at.run).read);
    status = refl;
    again = λ nonzero. absurd (nonzero refl);
    keeps = keeps;
  }

  pub finished : Ends run (all_of o) (all_of o') (all_of r) (all_of r')
      → ((job : Job) (bytes : List ℕ) → IsRunOf run job bytes (all_of o) (all_of r) → HasFlushed job bytes (all_of o) (all_of r)
      → (all_of o' ≡ (meaning_of job).whole.output bytes) × (all_of r' ≡ (meaning_of job).whole.report bytes)
      → IsPrefix (all_of o) (all_of o') × IsPrefix (all_of r) (all_of r'))
      → Finishes old (state Idle o' taken r' told 11) 0
  finished ends grows = record {
    done = λ job bytes at zero. let whole = ends job bytes at.run in record { status = refl; output = whole.0; report = whole.1 };
    grows = λ job bytes at zero. grows job bytes at.run at.made (ends job bytes at.run);
    cut = λ job bytes at nonzero. absurd (nonzero refl);
    known = λ job bytes at. inl refl;
    status = λ nonzero. absurd (nonzero refl);
    again = λ nonzero. absurd (nonzero refl);
    keeps = keeps;
  }

  pub unfinished : (fault : BridgeFault) (answer : ℕ) → Tells fault answer → EndsShort run (all_of o) (all_of o') (all_of r) (all_of r') fault
      → Finishes old (state Idle o' taken r' told answer) answer
  unfinished fault answer tells short = record {
    done = λ job bytes at zero. absurd (tells.some zero);
    grows = λ job bytes at zero. absurd (tells.some zero);
    cut = λ job bytes at nonzero. cut_at (state Idle o' taken r' told answer) job bytes bytes fault answer tells (short job bytes at.run).0;
    known = λ job bytes at.
        let cut = short job bytes at.run in
        not_too_long answer (λ eight. cut.1 (tells.long eight)) (tells.known cut.0.read);
    status = λ nonzero. refl;
    again = λ nonzero. absurd (nonzero refl);
    keeps = keeps;
  }
