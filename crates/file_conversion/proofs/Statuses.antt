-- The exit status of what is told.
use Rattle.std.proofs.Common.{◌≡◌, ℕ, List, refl}
use Rattle.std.specs.Borrow.{Bor}
use Rattle.one_run.specs.Ends.{fault_status}
use Rattle.one_run.specs.declared.fault.BridgeFault.{BridgeFault}
use Rattle.one_run.specs.declared.fault.BridgeFault.TheVariants as runs
use Rattle.whole_file.specs.declared.faults.FileFault.{FileFault}
use Rattle.whole_file.specs.declared.faults.FileFault.TheVariants as faults
use Rattle.whole_file.specs.declared.kinds.Kind.{Kind}
use Rattle.std.specs.Prelude.{Option}
use Rattle.file_conversion.specs.Says.{part_refusal, refusal_of, run_refusal, status_for, status_of}
use Rattle.file_conversion.specs.declared.stops.Stop.{Stop}
use Rattle.file_conversion.specs.declared.stops.Stop.TheVariants as stops

part_told : (fault : FileFault) (name part : Bor (List ℕ)) → status_of (part_refusal fault name part) ≡ 4
part_told faults.NotFound name part = refl
part_told faults.AlreadyThere name part = refl
part_told faults.NotAllowed name part = refl
part_told faults.IsFolder name part = refl
part_told faults.NoFolder name part = refl
part_told faults.DiskFull name part = refl
part_told faults.QuotaFull name part = refl
part_told faults.TooLarge name part = refl
part_told faults.NameTooLong name part = refl
part_told faults.ReadOnly name part = refl
part_told faults.ReaderGone name part = refl
part_told faults.NoMemory name part = refl
part_told faults.Other name part = refl

run_told : (kind : Kind) (fault : BridgeFault) (count : ℕ) (read put : Option FileFault) (name : Bor (List ℕ))
    → status_of (run_refusal kind fault count read put name) ≡ fault_status fault
run_told kind runs.ReadFault count read put name = refl
run_told kind runs.WriteFault count read put name = refl
run_told kind runs.NotThisForm count read put name = refl
run_told kind runs.NoMemory count read put name = refl
run_told kind runs.ReportFault count read put name = refl
run_told kind runs.TooLong count read put name = refl

pub status_told : (stop : Stop) (name part : Bor (List ℕ)) → status_of (refusal_of stop name part) ≡ status_for stop
status_told (stops.Open fault) name part = refl
status_told (stops.Look fault) name part = refl
status_told (stops.NoConversion kind) name part = refl
status_told (stops.Begin fault) name part = part_told fault name part
status_told (stops.Run kind fault count read put) name part = run_told kind fault count read put name
status_told stops.Unnamed name part = refl
status_told (stops.Publish fault) name part = refl
status_told stops.NoMemory name part = refl
