-- How a conversion begins and ends.
use Rattle.std.specs.Prelude.{◌≡◌, ◌⊎◌, ◌≤◌, ℕ, List, Option, None, Some, Result, Ok, Err, IfErr, IfSome, IsSome, OnOk}
use Rattle.file_conversion.specs.declared.done.Done.{Done}
use Rattle.one_run.specs.declared.fault.BridgeFault.{BridgeFault}
use Rattle.one_run.specs.declared.fault.BridgeFault.TheVariants.{NoMemory}
use Rattle.whole_file.specs.declared.kinds.Kind.{Kind}
use Rattle.nav_io.specs.Causes.{Rose}
use Rattle.whole_file.specs.Steps.{BrokeOff, Lacks}
use Rattle.whole_file.specs.declared.faults.FileFault.{FileFault}
use Rattle.whole_file.specs.declared.step.Named.{Named}
use Rattle.whole_file.specs.declared.step.StepFault.{StepFault}
use Rattle.receiver_log.specs.Capture.{too_many}
use Rattle.file_conversion.specs.Makes.{CanConvert, ReadsUnder, kind_under, read_under, task_under}
use Rattle.file_conversion.specs.declared.ready.Ready.{Ready}
use Rattle.file_conversion.specs.declared.table.Plan.{Plan}
use Rattle.file_conversion.specs.declared.table.Task.{Task}
use Rattle.file_conversion.specs.Table.{task_for}
use Rattle.file_conversion.specs.declared.stops.Stop.{Stop}
use Rattle.file_conversion.specs.declared.stops.Stop.TheVariants as stops

-- an output, and what was counted for it
abbrev pub Made : Type 0
Made = Named (Option Done)

-- there was no memory, or a log has 2^64 - 1 bytes or more
abbrev pub IsLack : Stop → Type 0
IsLack (stops.Run kind fault count read put) = (fault ≡ NoMemory) ⊎ (too_many ≤ count)
IsLack stops.NoMemory = Unit {0}
IsLack stop = ⊥

-- the bytes are of this format, of which there is no such conversion; or there was no memory to see that
abbrev pub IsUnconverted : Kind → Result Made Stop → Type 0
IsUnconverted kind (Ok made) = ⊥
IsUnconverted kind (Err stop) = (stop ≡ stops.NoConversion kind) ⊎ (stop ≡ stops.NoMemory)

-- no file has this name, if the directory tells its files
abbrev pub IsMissing : Option (List ℕ → Option (List ℕ)) → List ℕ → Type 0
IsMissing None name = ⊥
IsMissing (Some files) name = files name ≡ None

-- the file was not opened
abbrev pub IsNotOpened : Result Made Stop → Type 0
IsNotOpened (Err (stops.Open fault)) = Unit {0}
IsNotOpened done = ⊥

-- the task lacked memory, or broke off and these bytes are too many for a log
abbrev pub LacksMore : ℕ → StepFault BridgeFault → Type 0
LacksMore count fault = Lacks (λ fault. fault ≡ NoMemory) fault ⊎ (BrokeOff fault × (too_many ≤ count))

-- it is done if the other is, and lacks what the other lacks
abbrev pub EndsSo : {E : Type 0} → (E → Type 0) → Result Made E → Result Made Stop → Type 0
EndsSo lacks (Ok made) (Ok same) = same ≡ made
EndsSo lacks (Ok made) (Err stop) = ⊥
EndsSo lacks (Err fault) (Ok made) = ⊥
EndsSo lacks (Err fault) (Err stop) = lacks fault → IsLack stop

-- how it ended, with what its input reports of a failed read
abbrev pub decided_by : Result Made Stop → Option FileFault → Result Made Stop
decided_by (Err (stops.Look told)) read = Err (stops.Look read)
decided_by (Err (stops.Run kind fault count told put)) read = Err (stops.Run kind fault count read put)
decided_by done read = done

-- if it is done its format is known, and this is the format under which a source with these bytes
-- is read
pub record DecidesFormat (plan : Plan) (source : Option (List ℕ)) (done : Result Made Stop) (told : Option Kind) : Type 0 where
  pub some : OnOk done (IsSome told)
  pub is : IfSome told (ReadsUnder plan source)

-- the format is that of the bytes, and the task that for it
pub record IsReady (plan : Plan) (source : Option (List ℕ)) (ready : Ready) : Type 0 where
  pub kind : ReadsUnder plan source ready.kind
  pub task : task_for plan ready.kind ≡ Some ready.task

-- what is left to read of a source with these bytes is what the plan reads of them, and the task is that for them
abbrev pub IsBegun : Plan → Option (List ℕ) → Option (List ℕ) → Task → Type 0
IsBegun plan source left task =
    IfSome source (λ bytes. (left ≡ Some (read_under plan bytes)) × (task_under plan bytes ≡ Some task))

-- why nothing was begun: a read failed, or there is no conversion of the format or no memory, and then no read failed
abbrev pub StopsAhead : Plan → Option (List ℕ) → ℕ → ℕ → Stop → Type 0
StopsAhead plan source reads reads_new (stops.Look told) = Rose reads reads_new
StopsAhead plan source reads reads_new (stops.NoConversion kind) =
    (reads_new ≡ reads) × IfSome source (λ bytes. (task_under plan bytes ≡ None) × (kind ≡ kind_under plan bytes))
StopsAhead plan source reads reads_new stops.NoMemory = reads_new ≡ reads
StopsAhead plan source reads reads_new stop = ⊥

-- of a source with these bytes nothing is made: they can't be converted, a read failed or memory was wanting
pub record IsStopped (plan : Plan) (source : Option (List ℕ)) (reads reads_new : ℕ) (done : Result Made Stop) : Type 0 where
  pub never : OnOk done ⊥
  pub lack : IfSome source (λ bytes. CanConvert plan bytes → ¬ Rose reads reads_new → IfErr done IsLack)
  pub none : IfSome source (λ bytes. task_under plan bytes ≡ None → ¬ Rose reads reads_new → IsUnconverted (kind_under plan bytes) done)
