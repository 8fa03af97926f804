-- How a conversion ended, by how its step did, and why a file is not converted.
use Rattle.std.specs.Prelude.{ℕ, Option, None, Result, Ok, Err}
use Rattle.std.specs.Result.{result_err}
use Rattle.file_conversion.specs.declared.done.Done.{Done}
use Rattle.one_run.specs.declared.fault.BridgeFault.{BridgeFault}
use Rattle.whole_file.specs.declared.kinds.Kind.{Kind}
use Rattle.whole_file.specs.declared.step.Named.{Named}
use Rattle.whole_file.specs.declared.step.StepFault.{StepFault}
use Rattle.whole_file.specs.declared.step.StepFault.TheVariants.{Begin, Run, Unnamed, Publish}
use Rattle.file_conversion.specs.declared.stops.Stop.{Stop}
use Rattle.file_conversion.specs.declared.stops.Stop.TheVariants as stops

-- how the conversion of a file of this format ended, after so many bytes, by how its step did; what
-- the input reported is not known yet
abbrev pub stopped_by : Kind → Result (Named (Option Done)) (StepFault BridgeFault) → ℕ → Result (Named (Option Done)) Stop
stopped_by kind (Ok made) count = Ok made
stopped_by kind (Err (Begin fault)) count = Err (stops.Begin fault)
stopped_by kind (Err (Run fault told)) count = Err (stops.Run kind fault count None (result_err told))
stopped_by kind (Err Unnamed) count = Err stops.Unnamed
stopped_by kind (Err (Publish fault)) count = Err (stops.Publish fault)
