-- Runs without regard to what they count, and their exit status.
use Rattle.std.specs.Prelude.{◌≡◌, ℕ, Bool, List, Option, option_map, Result, Ok, Err}
use Rattle.one_run.specs.declared.fault.BridgeFault.{BridgeFault}
use Rattle.one_run.specs.declared.fault.BridgeFault.TheVariants.{ReadFault, WriteFault, ReportFault, NotThisForm, TooLong, NoMemory}
use Rattle.one_run.specs.declared.status.Status.{Status}
use Rattle.one_run.specs.declared.status.Status.TheVariants as statuses
use Rattle.one_run.specs.Runs.{Ended, Meaning, World, world}

-- the same meaning, with what a function reads of its counts
abbrev pub giving : {C D : Type 0} → (C → D) → Meaning C → Meaning D
giving f m = record {
  reads = m.reads;
  reports = m.reports;
  memory = m.memory;
  limit = m.limit;
  counts = λ bytes. option_map f (m.counts bytes);
  whole = m.whole;
  rejections = m.rejections;
  least = m.least;
  flushed = m.flushed;
}

-- the same meaning without what is counted
abbrev pub uncounted : {C : Type 0} → Meaning C → Meaning (Unit {0})
uncounted m = giving (λ counts. tt) m

-- the number of an exit status
abbrev pub number_of : Status → ℕ
number_of statuses.Done = 0
number_of statuses.NoJob = 2
number_of statuses.ReadFault = 3
number_of statuses.WriteFault = 4
number_of statuses.NotThisForm = 5
number_of statuses.NoMemory = 6
number_of statuses.ReportFault = 7
number_of statuses.TooLong = 8
number_of statuses.NoText = 9

-- the exit status of a run that an error ended
abbrev pub fault_status : BridgeFault → ℕ
fault_status ReadFault = 3
fault_status WriteFault = 4
fault_status NotThisForm = 5
fault_status NoMemory = 6
fault_status ReportFault = 7
fault_status TooLong = 8

-- the exit status of a run with this result, whatever it counts
abbrev pub status_of : {C : Type 0} → Result C BridgeFault → ℕ
status_of (Ok counts) = 0
status_of (Err fault) = fault_status fault

-- a run of this meaning ended with this exit status
pub record EndedBy {S T U : Type 0} (m : Meaning (Unit {0})) (before after : World S T U) (status : ℕ) : Type 0 where
  pub result : Result (Unit {0}) BridgeFault
  pub ended : Ended m before after result
  pub is : status ≡ status_of result

-- the same by what input, output and report state, followed by each object before and after
abbrev pub RanBy : {S T U : Type 0} → Meaning (Unit {0})
    → (S → Option (List ℕ)) → (S → Bool) → (S → ℕ) → (T → Option (List ℕ)) → (T → ℕ) → (U → Option (List ℕ)) → (U → ℕ)
    → S → S → T → T → U → U → ℕ → Type 0
RanBy m left never_fails reads_failed written writes_failed reported reports_failed input input_new output output_new report report_new status =
    EndedBy m
    (world input (left input) (never_fails input) (reads_failed input) output (written output) (writes_failed output) report (reported report) (reports_failed report))
    (world input_new (left input_new) (never_fails input_new) (reads_failed input_new) output_new (written output_new) (writes_failed output_new)
    report_new (reported report_new) (reports_failed report_new)) status
