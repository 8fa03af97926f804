-- Why a file is not converted: what failed, or what of its bytes is not accepted; and the exit status for each cause.
use Rattle.std.specs.Prelude.{◌≡◌, ◌⊎◌, ◌<◌, ◌≤◌, ◌^◌, ℕ, List, length, Option, None, Result, IfSome, IsErrAnd}
use Rattle.nav_io.specs.Causes.{Rose}
use Rattle.one_run.specs.declared.fault.BridgeFault.{BridgeFault}
use Rattle.one_run.specs.declared.fault.BridgeFault.TheVariants as runs
use Rattle.receiver_log.specs.Capture.{too_many}
use Rattle.file_conversion.specs.Makes.{AcceptsBy, RejectsBy, kind_under, read_under, task_under}
use Rattle.file_conversion.specs.Says.{status_for}
use Rattle.file_conversion.specs.Steps.{IsLack, Made}
use Rattle.file_conversion.specs.declared.stops.Stop.{Stop}
use Rattle.file_conversion.specs.declared.stops.Stop.TheVariants as stops
use Rattle.file_conversion.specs.declared.table.Plan.{Plan}

-- the counts of errors of a conversion: of its source, its directory, its report and its namer
pub record FileErrors : Type 0 where
  pub source : ℕ
  pub folder : ℕ
  pub report : ℕ
  pub names : ℕ

-- the four counts
abbrev pub file_errors : ℕ → ℕ → ℕ → ℕ → FileErrors
file_errors source folder report names = record { source = source; folder = folder; report = report; names = names }

-- what the error of a run comes from, after so many bytes: the object that failed, bytes that the conversion does not accept, too
-- many bytes, or a lack of memory
abbrev pub RunComesFrom : Plan → Option (List ℕ) → FileErrors → FileErrors → ℕ → BridgeFault → Type 0
RunComesFrom plan source before now count runs.ReadFault = Rose before.source now.source ⊎ (too_many ≤ count)
RunComesFrom plan source before now count runs.WriteFault = Rose before.folder now.folder
RunComesFrom plan source before now count runs.ReportFault = Rose before.report now.report
RunComesFrom plan source before now count runs.NotThisForm = IfSome source (λ bytes. RejectsBy (task_under plan bytes) (read_under plan bytes))
RunComesFrom plan source before now count runs.TooLong = IfSome source (λ bytes. 2 ^ 32 ≤ length (read_under plan bytes))
RunComesFrom plan source before now count runs.NoMemory = Unit {0}

-- What a stop comes from: the object that failed, a format of which there is no such conversion, what a run comes from, or a lack
-- of memory.
abbrev pub ComesFrom : Plan → Option (List ℕ) → FileErrors → FileErrors → Stop → Type 0
ComesFrom plan source before now (stops.Open fault) = Rose before.folder now.folder
ComesFrom plan source before now (stops.Look told) = Rose before.source now.source
ComesFrom plan source before now (stops.NoConversion kind) =
    IfSome source (λ bytes. (task_under plan bytes ≡ None) × (kind ≡ kind_under plan bytes))
ComesFrom plan source before now (stops.Begin fault) = Rose before.folder now.folder
ComesFrom plan source before now (stops.Run kind fault count read put) = RunComesFrom plan source before now count fault
ComesFrom plan source before now stops.Unnamed = Rose before.names now.names
ComesFrom plan source before now (stops.Publish fault) = Rose before.folder now.folder
ComesFrom plan source before now stops.NoMemory = Unit {0}

-- it stopped with this exit status
abbrev pub StopsWith : ℕ → Result Made Stop → Type 0
StopsWith status done = IsErrAnd done (λ stop. status_for stop ≡ status)

-- or for want of memory, or of a log's 2^64 - 1 bytes
abbrev pub StopsOrLacks : ℕ → Result Made Stop → Type 0
StopsOrLacks status done = IsErrAnd done (λ stop. (status_for stop ≡ status) ⊎ IsLack stop)

-- The exit status for bytes for which there is a conversion: 5 if it does not accept them, 8 if they are too many.
pub record StopsFor (plan : Plan) (bytes : List ℕ) (done : Result Made Stop) : Type 0 where
  pub form : RejectsBy (task_under plan bytes) (read_under plan bytes) → length (read_under plan bytes) < 2 ^ 32 → StopsOrLacks 5 done
  pub long : AcceptsBy (task_under plan bytes) (read_under plan bytes) → 2 ^ 32 ≤ length (read_under plan bytes) → StopsOrLacks 8 done
