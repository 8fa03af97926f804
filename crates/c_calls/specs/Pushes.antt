-- A conversion whose input is pushed in pieces: what its steps leave, and what it is to hold one in memory.
use Rattle.std.specs.Prelude.{◌≡◌, ◌≢◌, ◌⊎◌, ◌↔◌, ◌≤◌, ◌^◌, ◌+◌, ◌-◌, ◌*◌, ℕ, List, [], ◌++◌, length, take, drop, min, All, IsUtf8, None, Some, IfSome, IsSome}
use Rattle.nav_io.specs.Prefix.{IsPrefix}
use Rattle.one_run.specs.Runs.{StopAtOnePlace}
use Rattle.captures.specs.Captures.{target_of}
use Rattle.captures.specs.Pushed.{IsPushed as IsCapturePushed}
use Rattle.streams.specs.Pushed.{IsPushed}
use Rattle.streams.specs.StreamTargets.{target_of_stream}
use Rattle.bridge_engine.specs.Job.{GivesJob, IsJob}
use Rattle.bridge_engine.specs.Meanings.{meaning_of}
use Rattle.bridge_engine.specs.declared.job.Job.{Job}
use Rattle.bridge_engine.specs.declared.job.Job.TheVariants as jobs
use Rattle.raw_values.specs.Rooms.{StandsIn}
use Rattle.c_calls.specs.Pending.{released_by}
use Rattle.c_calls.specs.declared.push.PushedRun.{PushedRun}
use Rattle.c_calls.specs.declared.push.PushedRun.TheVariants.{Capture, Idle, Stream}

-- what contracts see of a conversion
pub record PushState : Type 0 where
  -- the run that takes the input
  pub run : PushedRun
  -- all that was written, how many bytes of it were taken, and how many of these are released: the
  -- others are retained
  pub output : List ℕ
  pub taken : ℕ
  pub released : ℕ
  -- the same of all that was reported
  pub report : List ℕ
  pub told : ℕ
  pub report_released : ℕ
  -- 0 if bytes may be pushed, else what each further push returns
  pub status : ℕ

-- no conversion, and nothing retained; each further push returns so
abbrev pub without_job : ℕ → PushState
without_job status = record {
  run = Idle;
  output = [];
  taken = 0;
  released = 0;
  report = [];
  told = 0;
  report_released = 0;
  status = status;
}

-- no conversion was opened
abbrev pub closed : PushState
closed = without_job 12

-- a conversion whose input can be pushed
abbrev pub CanBePushed : Job → Type 0
CanBePushed (jobs.Capture job) = Unit {0}
CanBePushed (jobs.Stream job) = Unit {0}
CanBePushed job = ⊥

-- how many bytes of the input are too many, of a conversion whose input can be pushed
abbrev pub too_many : Job → ℕ
too_many (jobs.Capture job) = 2 ^ 32
too_many job = 2 ^ 64

-- the run is that of the conversion and continues, these bytes were pushed, and this was written
-- and reported of them
abbrev pub IsRunOf : PushedRun → Job → List ℕ → List ℕ → List ℕ → Type 0
IsRunOf (Capture run) (jobs.Capture job) bytes output report =
    (run.to ≡ target_of job.to) × (run.week ≡ job.week) × IsCapturePushed run bytes (Some []) (Some output) (Some []) (Some report)
IsRunOf (Stream run) (jobs.Stream job) bytes output report =
    (run.fault ≡ None) × (run.taken ≡ length bytes) × (run.to ≡ target_of_stream job.to) × (run.week ≡ job.week)
    × IsPushed run bytes (Some []) (Some output) (Some []) (Some report)
IsRunOf run job bytes output report = ⊥

-- where bytes may be pushed, those of some conversion were
abbrev pub IsOfJob : PushState → Type 0
IsOfJob s = s.status ≡ 0 → (job : Job) × (bytes : List ℕ) × IsRunOf s.run job bytes s.output s.report

-- The conversion runs, and these bytes were pushed: exactly what they decide, whatever follows, was
-- written and reported.
pub record IsAt (s : PushState) (job : Job) (bytes : List ℕ) : Type 0 where
  pub status : s.status ≡ 0
  pub made : IfSome (meaning_of job).flushed (λ texts. (s.output ≡ texts.output bytes) × (s.report ≡ texts.report bytes))
  pub run : IsRunOf s.run job bytes s.output s.report

-- The conversion of these bytes is complete: all that the conversion makes of them was written and
-- reported.
pub record HasMade (s : PushState) (job : Job) (bytes : List ℕ) : Type 0 where
  pub status : s.status ≡ 11
  pub output : s.output ≡ (meaning_of job).whole.output bytes
  pub report : s.report ≡ (meaning_of job).whole.report bytes

-- The conversion was ended early: what `bytes` decide was written and reported, and of what the
-- complete input gives no more than a prefix. With the result 5 the complete input is not of the
-- form that the conversion reads, with 6 it is, and with 8 it is too long.
pub record IsCutAt (s : PushState) (job : Job) (bytes whole : List ℕ) (answer : ℕ) : Type 0 where
  pub form : answer ≡ 5 → (meaning_of job).counts whole ≡ None
  pub long : answer ≡ 8 → too_many job ≤ length whole
  pub lack : answer ≡ 6 → IsSome ((meaning_of job).counts whole)
  pub least : IfSome (meaning_of job).flushed (λ texts. IsPrefix (texts.output bytes) s.output)
  pub output : IsPrefix s.output ((meaning_of job).whole.output whole)
  pub least_report : IfSome (meaning_of job).flushed (λ texts. IsPrefix (texts.report bytes) s.report)
  pub report : IsPrefix s.report ((meaning_of job).whole.report whole)
  -- both stop at one place
  pub stopped : StopAtOnePlace (meaning_of job).flushed (Some whole) (Some []) (Some s.output) (Some []) (Some s.report)
  -- no counts were reported, or the whole output was written
  pub counts_last : IsPrefix s.report ((meaning_of job).rejections whole) ⊎ (s.output ≡ (meaning_of job).whole.output whole)

-- what was written and reported stays, and more is after it
abbrev pub Grows : PushState → PushState → Type 0
Grows old new = IsPrefix old.output new.output × IsPrefix old.report new.report

-- what was taken stays so, and no more is released
abbrev pub KeepsTaken : PushState → PushState → Type 0
KeepsTaken old new =
    (new.taken ≡ old.taken) × (new.told ≡ old.told) × (new.released ≡ old.released) × (new.report_released ≡ old.report_released)

-- nothing was taken, and nothing is released
abbrev pub NoneTaken : PushState → Type 0
NoneTaken s = (s.taken ≡ 0) × (s.told ≡ 0) × (s.released ≡ 0) × (s.report_released ≡ 0)

-- A conversion begins: bytes may be pushed, and none was; or there is no memory, or its input
-- cannot be pushed.
abbrev pub Begins : Job → PushState → Type 0
Begins job new = (IsAt new job [] × NoneTaken new) ⊎ (new ≡ without_job 6) ⊎ ((new ≡ without_job 10) × ¬ CanBePushed job)

-- Words open a conversion, with this result.
pub record Opens (words : List (List ℕ)) (new : PushState) (answer : ℕ) : Type 0 where
  -- bytes may be pushed, and none was
  pub done : answer ≡ 0 → (job : Job) × IsJob words job × IsAt new job []
  -- the arguments name no conversion
  pub no_job : answer ≡ 2 → ¬ GivesJob words
  -- the input of their conversion cannot be pushed
  pub not_pushed : answer ≡ 10 → (job : Job) × IsJob words job × ¬ CanBePushed job
  -- a word is no text, and only there
  pub no_text : (answer ≡ 9) ↔ (¬ All IsUtf8 words)
  -- these results and 6, if out of memory, are all
  pub known : (answer ≡ 0) ⊎ (answer ≡ 2) ⊎ (answer ≡ 6) ⊎ (answer ≡ 9) ⊎ (answer ≡ 10)
  pub status : new.status ≡ answer
  pub none : NoneTaken new

-- A piece is pushed, with this result.
pub record Pushes (old : PushState) (piece : List ℕ) (new : PushState) (answer : ℕ) : Type 0 where
  -- what it decides was written and reported
  pub done : (job : Job) (bytes : List ℕ) → IsAt old job bytes → answer ≡ 0 → IsAt new job (bytes ++ piece)
  pub grows : (job : Job) (bytes : List ℕ) → IsAt old job bytes → answer ≡ 0 → Grows old new
  -- it was not taken complete
  pub cut : (job : Job) (bytes more : List ℕ) → IsAt old job bytes → answer ≢ 0 → IsCutAt new job bytes ((bytes ++ piece) ++ more) answer
  -- the form is another one, there was no memory, or the input is too long
  pub known : (job : Job) (bytes : List ℕ) → IsAt old job bytes → (answer ≡ 0) ⊎ (answer ≡ 5) ⊎ (answer ≡ 6) ⊎ (answer ≡ 8)
  -- each answer but 0 is given again, and then nothing is touched
  pub status : new.status ≡ answer
  pub again : old.status ≢ 0 → (answer ≡ old.status) × (new ≡ old)
  pub keeps : KeepsTaken old new

-- The input ends, with this result.
pub record Finishes (old new : PushState) (answer : ℕ) : Type 0 where
  -- all was written and reported
  pub done : (job : Job) (bytes : List ℕ) → IsAt old job bytes → answer ≡ 0 → HasMade new job bytes
  pub grows : (job : Job) (bytes : List ℕ) → IsAt old job bytes → answer ≡ 0 → Grows old new
  pub cut : (job : Job) (bytes : List ℕ) → IsAt old job bytes → answer ≢ 0 → IsCutAt new job bytes bytes answer
  -- the form is another one, or there was no memory
  pub known : (job : Job) (bytes : List ℕ) → IsAt old job bytes → (answer ≡ 0) ⊎ (answer ≡ 5) ⊎ (answer ≡ 6)
  pub status : answer ≢ 0 → new.status ≡ answer
  pub again : old.status ≢ 0 → (answer ≡ old.status) × (new ≡ old)
  pub keeps : KeepsTaken old new

-- So many bytes after those that were taken are in the buffer: all that there are, or as many as
-- fit.
pub record Takes (made : List ℕ) (taken : ℕ) (old new : List ℕ) (count : ℕ) : Type 0 where
  pub most : count ≡ min (length new) (length made - taken)
  pub stands : StandsIn old new count (take count (drop taken made))

-- so many bytes more were taken of the output
abbrev pub taken_more : PushState → ℕ → PushState
taken_more s count = record s {
  taken = s.taken + count;
  released = released_by (length s.output) (s.taken + count) s.released;
}

-- so many bytes more were taken of the report
abbrev pub reported_more : PushState → ℕ → PushState
reported_more s count = record s {
  told = s.told + count;
  report_released = released_by (length s.report) (s.told + count) s.report_released;
}

-- of so many bytes written at most twice those are retained that were not taken
abbrev pub RetainsFew : ℕ → ℕ → ℕ → Type 0
RetainsFew written taken released = written - released ≤ 2 * (written - taken)
