-- A conversion over memory: its output for an input, how that is put into the given buffers, and
-- what its status means.
use Rattle.std.specs.Prelude.{◌≡◌, ◌≢◌, ◌⊎◌, ◌↔◌, ◌^◌, ◌<◌, ◌≤◌, ℕ, List, [], length, All, IsUtf8, None, Some, IsSome, if◌then◌else◌}
use Rattle.nav_io.specs.Prefix.{IsPrefix}
use Rattle.one_run.specs.Runs.{StopAtOnePlace}
use Rattle.bridge_engine.specs.Job.{GivesJob, IsJob}
use Rattle.bridge_engine.specs.Meanings.{meaning_of}
use Rattle.bridge_engine.specs.declared.job.Job.{Job}
use Rattle.raw_values.specs.Rooms.{StandsIn}

-- what was written and what was reported
pub record Made : Type 0 where
  pub output : List ℕ
  pub report : List ℕ

abbrev pub made_of : List ℕ → List ℕ → Made
made_of output report = record { output = output; report = report }

-- nothing was made
abbrev pub nothing : Made
nothing = made_of [] []

-- the bytes of its input that a conversion reads: all, or none
abbrev pub read_by : Job → List ℕ → List ℕ
read_by job input = if (meaning_of job).reads then input else []

-- the conversion accepts the input, and made of it all that it gives
pub record IsWhole (job : Job) (input : List ℕ) (made : Made) : Type 0 where
  pub accepted : IsSome ((meaning_of job).counts (read_by job input))
  pub fits : length (read_by job input) < 2 ^ 32
  pub output : made.output ≡ (meaning_of job).whole.output (read_by job input)
  pub report : made.report ≡ (meaning_of job).whole.report (read_by job input)

-- The conversion ended before it was done: it took some prefix of the input, and made a prefix of
-- what that gives, neither output nor report less than its least. Both are prefixes of what the
-- complete input gives, both stop at one place, and counts are reported last.
pub record IsBegun (job : Job) (input : List ℕ) (made : Made) : Type 0 where
  pub taken : List ℕ
  pub prefix : IsPrefix taken (read_by job input)
  pub output : IsPrefix made.output ((meaning_of job).whole.output taken)
  pub least : IsPrefix ((meaning_of job).least.output taken) made.output
  pub report : IsPrefix made.report ((meaning_of job).whole.report taken)
  pub least_report : IsPrefix ((meaning_of job).least.report taken) made.report
  pub ahead_output : IsPrefix made.output ((meaning_of job).whole.output (read_by job input))
  pub ahead_report : IsPrefix made.report ((meaning_of job).whole.report (read_by job input))
  pub stopped : StopAtOnePlace (meaning_of job).flushed (Some (read_by job input)) (Some []) (Some made.output) (Some []) (Some made.report)
  -- no counts were reported, or the whole output was written
  pub counts_last : IsPrefix made.report ((meaning_of job).rejections (read_by job input)) ⊎ (made.output ≡ (meaning_of job).whole.output (read_by job input))

-- the arguments name a conversion, and this holds of it
abbrev pub ForJob : List (List ℕ) → (Job → Type 0) → Type 0
ForJob words holds = (job : Job) × IsJob words job × holds job

-- How a conversion ended that made this, by its status: what it made of the input of the conversion
-- that the arguments name, and whether it fitted.
pub record HasEnded (words : List (List ℕ)) (input : List ℕ) (room report_room : ℕ) (made : Made) (status : ℕ) : Type 0 where
  -- all was made, and there was room for it
  pub done : status ≡ 0 → ForJob words (λ job. IsWhole job input made × (length made.output ≤ room) × (length made.report ≤ report_room))
  -- the arguments name no conversion
  pub no_job : status ≡ 2 → ¬ GivesJob words × (made ≡ nothing)
  -- the input never fails
  pub reads : status ≢ 3
  -- all was made, and the output is longer than its room
  pub output_short : status ≡ 4 → ForJob words (λ job. IsWhole job input made × (room < length made.output))
  -- the input is not of the format that the conversion reads
  pub not_this_form : status ≡ 5 → ForJob words (λ job. ((meaning_of job).counts (read_by job input) ≡ None) × (made ≡ nothing))
  -- there was no memory: nothing was made, or the conversion accepts the input
  pub no_memory : status ≡ 6 → (made ≡ nothing) ⊎ ForJob words (λ job. IsBegun job input made × IsSome ((meaning_of job).counts (read_by job input)))
  -- all was made, there was room for the output, and the report is longer than its room
  pub report_short : status ≡ 7 → ForJob words (λ job. IsWhole job input made × (length made.output ≤ room) × (report_room < length made.report))
  -- the input is too long
  pub too_long : status ≡ 8 → ForJob words (λ job. IsBegun job input made × (2 ^ 32 ≤ length input))
  -- a word is no text, and only there
  pub no_text : (status ≡ 9) ↔ (¬ All IsUtf8 words)
  pub nothing_of_it : status ≡ 9 → made ≡ nothing
  -- there is no other status
  pub known : status ≤ 9
  pub not_one : status ≢ 1

-- a conversion of these words over this input, with its output and its report in these rooms
pub record Converts (words : List (List ℕ)) (input old new : List ℕ) (used : ℕ) (report_old report_new : List ℕ) (report_used status : ℕ) : Type 0 where
  pub made : Made
  pub ended : HasEnded words input (length new) (length report_new) made status
  pub output : StandsIn old new used made.output
  pub report : StandsIn report_old report_new report_used made.report
