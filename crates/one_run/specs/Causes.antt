-- The cause of each error of a run: the count of errors of the object that failed rose, and no other.
use Rattle.std.specs.Prelude.{◌≡◌, ℕ, Result, Ok, Err}
use Rattle.nav_io.specs.Causes.{Rose}
use Rattle.nav_io.specs.declared.lines.LineFault.{LineFault}
use Rattle.nav_io.specs.declared.lines.LineFault.TheVariants as lines
use Rattle.one_run.specs.declared.fault.BridgeFault.{BridgeFault}
use Rattle.one_run.specs.declared.fault.BridgeFault.TheVariants.{ReadFault, WriteFault, ReportFault, NotThisForm, TooLong, NoMemory}

-- the counts of errors that a run may raise
pub record Faults : Type 0 where
  pub input : ℕ
  pub output : ℕ
  pub report : ℕ

-- the three counts
abbrev pub faults_of : ℕ → ℕ → ℕ → Faults
faults_of input output report = record { input = input; output = output; report = report }

-- the count of the object that failed rose, and no other; no count rose if no object failed
abbrev pub HasItsCause : {T : Type 0} → Faults → Faults → Result T BridgeFault → Type 0
HasItsCause before now (Ok x) = now ≡ before
HasItsCause before now (Err ReadFault) = Rose before.input now.input × (now ≡ faults_of now.input before.output before.report)
HasItsCause before now (Err WriteFault) = Rose before.output now.output × (now ≡ faults_of before.input now.output before.report)
HasItsCause before now (Err ReportFault) = Rose before.report now.report × (now ≡ faults_of before.input before.output now.report)
HasItsCause before now (Err NotThisForm) = now ≡ before
HasItsCause before now (Err TooLong) = now ≡ before
HasItsCause before now (Err NoMemory) = now ≡ before

-- the error of a run whose lines could not be read
abbrev pub fault_by : LineFault → BridgeFault
fault_by lines.ReadFault = ReadFault
fault_by lines.TooLong = TooLong
