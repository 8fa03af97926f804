-- What a run makes of the bytes that a conversion hands to it, whatever its conversion. Private
-- functions cite these.
use Rattle.std.specs.Prelude.{◌≡◌, ◌≢◌, ◌⊎◌, ◌≤◌, ℕ, List, [], ◌++◌, length, None, Some, IfSome, IsSome}
use Rattle.nav_io.specs.Prefix.{IsPrefix}
use Rattle.one_run.specs.Runs.{StopAtOnePlace}
use Rattle.one_run.specs.declared.fault.BridgeFault.{BridgeFault}
use Rattle.one_run.specs.declared.fault.BridgeFault.TheVariants.{NotThisForm, ReadFault, TooLong}
use Rattle.bridge_engine.specs.Meanings.{meaning_of}
use Rattle.bridge_engine.specs.declared.job.Job.{Job}
use Rattle.c_calls.specs.Pending.{all_of}
use Rattle.c_calls.specs.Pushes.{IsRunOf, too_many}
use Rattle.c_calls.specs.declared.pending.Pending.{Pending}
use Rattle.c_calls.specs.declared.push.PushedRun.{PushedRun}

-- a piece was taken, with the output and the report before and after
abbrev pub GoesOn : PushedRun → PushedRun → List ℕ → List ℕ → List ℕ → List ℕ → List ℕ → Type 0
GoesOn run run_new piece output output_new report report_new =
    (job : Job) (bytes : List ℕ) → IsRunOf run job bytes output report → IsRunOf run_new job (bytes ++ piece) output_new report_new

-- no more is released than before
abbrev pub IsAsReleased : Pending → Pending → Type 0
IsAsReleased old new = length new.released.text ≡ length old.released.text

-- the same of the output and the report of a run
abbrev pub KeepsReleased : PushedRun → Pending → Pending → Pending → Pending → Type 0
KeepsReleased run output output_new report report_new =
    (job : Job) (bytes : List ℕ) → IsRunOf run job bytes (all_of output) (all_of report)
    → IsAsReleased output output_new × IsAsReleased report report_new

-- A run of this conversion was ended early by an error, which is none of a read: what `bytes`
-- decide was written and reported, and of what the complete input gives no more than a prefix.
-- Both stop at one place, and counts are reported last.
pub record IsCut (job : Job) (bytes whole written reported : List ℕ) (fault : BridgeFault) : Type 0 where
  pub read : fault ≢ ReadFault
  pub form : fault ≡ NotThisForm → (meaning_of job).counts whole ≡ None
  pub long : fault ≡ TooLong → too_many job ≤ length whole
  pub lack : fault ≢ NotThisForm → fault ≢ TooLong → IsSome ((meaning_of job).counts whole)
  pub least : IfSome (meaning_of job).flushed (λ texts. IsPrefix (texts.output bytes) written)
  pub output : IsPrefix written ((meaning_of job).whole.output whole)
  pub least_report : IfSome (meaning_of job).flushed (λ texts. IsPrefix (texts.report bytes) reported)
  pub report : IsPrefix reported ((meaning_of job).whole.report whole)
  pub stopped : StopAtOnePlace (meaning_of job).flushed (Some whole) (Some []) (Some written) (Some []) (Some reported)
  pub counts_last : IsPrefix reported ((meaning_of job).rejections whole) ⊎ (written ≡ (meaning_of job).whole.output whole)

-- a piece was not taken complete
abbrev pub BreaksOff : PushedRun → List ℕ → List ℕ → List ℕ → List ℕ → List ℕ → BridgeFault → Type 0
BreaksOff run piece output output_new report report_new fault =
    (job : Job) (bytes more : List ℕ) → IsRunOf run job bytes output report
    → IsCut job bytes ((bytes ++ piece) ++ more) output_new report_new fault

-- the input has ended, and all was written and reported
abbrev pub Ends : PushedRun → List ℕ → List ℕ → List ℕ → List ℕ → Type 0
Ends run output output_new report report_new =
    (job : Job) (bytes : List ℕ) → IsRunOf run job bytes output report
    → (output_new ≡ (meaning_of job).whole.output bytes) × (report_new ≡ (meaning_of job).whole.report bytes)

-- it has ended, and not all was; there were not too many bytes
abbrev pub EndsShort : PushedRun → List ℕ → List ℕ → List ℕ → List ℕ → BridgeFault → Type 0
EndsShort run output output_new report report_new fault =
    (job : Job) (bytes : List ℕ) → IsRunOf run job bytes output report
    → IsCut job bytes bytes output_new report_new fault × (fault ≢ TooLong)
