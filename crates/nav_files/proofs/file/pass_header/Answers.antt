use Rattle.std.proofs.Common.{◌≡◌, inl, inr, ℕ, List, sym, subst}
use Rattle.std.specs.Prelude.{Option}
use Rattle.nav_io.specs.declared.lines.LineFault.TheVariants as lines
use Rattle.rinex_read.specs.Forms.{Form}
use Rattle.rinex_read.specs.States.{BreaksHeader, RecordsState}
use Rattle.rinex_read.specs.declared.judged.HeaderFault.{HeaderFault}
use Rattle.rinex_read.specs.declared.judged.HeaderFault.TheVariants as faults
use Rattle.one_run.specs.Causes.{fault_by}
use Rattle.one_run.specs.declared.fault.BridgeFault.{BridgeFault}
use Rattle.one_run.specs.declared.fault.BridgeFault.TheVariants.{NotThisForm}
use Rattle.nav_files.specs.Mirrors.{NoHeader}
use Rattle.nav_files.proofs.file.pass_header.Goals as goal

-- the fault of a run whose header has this one
abbrev run_fault : HeaderFault → BridgeFault
run_fault faults.NotRinexNav = NotThisForm
run_fault faults.Version = NotThisForm
run_fault (faults.Line fault) = fault_by fault

no_header : {R : Type 0} (f : Form R) (left left_new : Option (List ℕ)) (old new : RecordsState) (fault : HeaderFault) → BreaksHeader f left left_new old new fault
    → NoHeader f left left_new old new (run_fault fault)
no_header f left left_new old new faults.NotRinexNav b = record { steps = b.steps; early = b.early; by = inl b.by.0 }
no_header f left left_new old new faults.Version b = record { steps = b.steps; early = b.early; by = inr b.by.0 }
no_header f left left_new old new (faults.Line lines.ReadFault) b = record { steps = b.steps; early = b.early; by = b.by }
no_header f left left_new old new (faults.Line lines.TooLong) b = record { steps = b.steps; early = b.early; by = b.by }

-- the same of a fault that is this one
no_header_by : {R : Type 0} (f : Form R) (left left_new : Option (List ℕ)) (old new : RecordsState) (fault is : HeaderFault) → fault ≡ is → BreaksHeader f left left_new old new fault
    → NoHeader f left left_new old new (run_fault is)
no_header_by f left left_new old new fault is e b = no_header f left left_new old new is (subst (BreaksHeader f left left_new old new) e b)

pub returns-in-Err-NotRinexNav-clause-broken : goal.returns-in-Err-NotRinexNav-clause-broken
returns-in-Err-NotRinexNav-clause-broken g c =
    no_header_by (g.F.FileForm.form c.args.form.now) _ _ c.args.records.now c.read_header.new.self c.in-Err-NotRinexNav.field-0 faults.NotRinexNav c.in-Err-NotRinexNav.field-0-is c.in-Err-NotRinexNav.ensures.fault

pub returns-in-Err-Version-clause-broken : goal.returns-in-Err-Version-clause-broken
returns-in-Err-Version-clause-broken g c =
    no_header_by (g.F.FileForm.form c.args.form.now) _ _ c.args.records.now c.read_header.new.self c.in-Err-Version.field-0 faults.Version c.in-Err-Version.field-0-is c.in-Err-Version.ensures.fault

pub returns-in-Err-Line-clause-broken : goal.returns-in-Err-Line-clause-broken
returns-in-Err-Line-clause-broken g c =
    subst (NoHeader (g.F.FileForm.form c.args.form.now) _ _ c.args.records.now c.read_header.new.self) (sym c.fault_of.ensures)
    (no_header_by (g.F.FileForm.form c.args.form.now) _ _ c.args.records.now c.read_header.new.self c.in-Err-Line.field-0 (faults.Line c.in-Err-Line.fault) c.in-Err-Line.field-0-is c.in-Err-Line.ensures.fault)
