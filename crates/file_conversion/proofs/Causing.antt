-- Why a conversion of a file stopped, by what its step ended for.
use Rattle.std.proofs.Common.{◌≡◌, ◌⊎◌, inl, inr, ◌<◌, ◌≤◌, ◌^◌, ℕ, length, List, Option, None, Some, Result, Ok, Err, refl, sym, subst, ◌∙◌, arith}
use Rattle.std.proofs.lemmas.Bool.{cases_lt}
use Rattle.std.specs.Prelude.{IfErr, IfSome, OnOk}
use Rattle.nav_io.specs.Causes.{Rose}
use Rattle.one_run.specs.declared.fault.BridgeFault.{BridgeFault}
use Rattle.one_run.specs.declared.fault.BridgeFault.TheVariants as runs
use Rattle.whole_file.specs.Files.{Opens}
use Rattle.whole_file.specs.Steps.{IfBrokeOff, RoseFor, StepEndsFor, bytes_of, error_counts}
use Rattle.whole_file.specs.declared.faults.FileFault.{FileFault}
use Rattle.whole_file.specs.declared.kinds.Kind.{Kind}
use Rattle.whole_file.specs.declared.step.StepFault.{StepFault}
use Rattle.whole_file.specs.declared.step.StepFault.TheVariants.{Begin, Run, Unnamed, Publish}
use Rattle.receiver_log.specs.Capture.{too_many}
use Rattle.file_conversion.specs.Causes.{ComesFrom, FileErrors, RunComesFrom, StopsFor, StopsOrLacks, StopsWith, file_errors}
use Rattle.file_conversion.specs.Makes.{AcceptsBy, CanConvert, RejectsBy, read_under, task_under}
use Rattle.file_conversion.specs.Says.{status_for}
use Rattle.file_conversion.specs.Steps.{EndsSo, IsBegun, IsLack, Made, StopsAhead, decided_by}
use Rattle.file_conversion.specs.Stops.{stopped_by}
use Rattle.file_conversion.specs.Tasks.{accepts, breaks_by, cause_in}
use Rattle.file_conversion.specs.declared.stops.Stop.{Stop}
use Rattle.file_conversion.specs.declared.stops.Stop.TheVariants as stops
use Rattle.file_conversion.specs.declared.table.Plan.{Plan}
use Rattle.file_conversion.specs.declared.table.Task.{Task}
use Rattle.file_conversion.proofs.Closing.{Folders, always, of_file, rose_before, rose_later, rose_same}

-- a count that stays does not rise
pub no_rise : {A : Type 0} (before now : ℕ) → now ≡ before → before < now → A
no_rise before now same rise = absurd (omega (arith, same, rise))

-- ---- what of the bytes

can_of : (plan : Plan) (source left : Option (List ℕ)) (task : Task) → IsBegun plan source left task
    → IfSome left (λ read. accepts task read × (length read < 2 ^ 32)) → IfSome source (λ bytes. CanConvert plan bytes)
can_of plan None left task is all = tt
can_of plan (Some bytes) left task (reads, asks) all =
    let each = subst (λ (o : Option (List ℕ)). IfSome o (λ read. accepts task read × (length read < 2 ^ 32))) reads all in
    (subst (λ (t : Option Task). AcceptsBy t (read_under plan bytes)) (sym asks) each.0, each.1)

-- it is done only with bytes that can be converted
pub accepted_of : {E : Type 0} (plan : Plan) (source left : Option (List ℕ)) (task : Task) (lacks : E → Type 0)
    (done : Result Made E) (result : Result Made Stop) → IsBegun plan source left task → EndsSo lacks done result
    → OnOk done (IfSome left (λ read. accepts task read × (length read < 2 ^ 32)))
    → OnOk result (IfSome source (λ bytes. CanConvert plan bytes))
accepted_of plan source left task lacks (Ok made) (Ok same) is so all = can_of plan source left task is all
accepted_of plan source left task lacks (Ok made) (Err stop) is so all = tt
accepted_of plan source left task lacks (Err fault) (Ok same) is so all = absurd so
accepted_of plan source left task lacks (Err fault) (Err stop) is so all = tt

-- and of the file of the name
pub accepted_file : (plan : Plan) (files : Folders) (from : List ℕ) (source : Option (List ℕ)) (done result : Result Made Stop)
    → Opens files from source → EndsSo IsLack done result → OnOk done (IfSome source (λ bytes. CanConvert plan bytes))
    → OnOk result (IfSome (bytes_of files from) (λ bytes. CanConvert plan bytes))
accepted_file plan files from source (Ok made) (Ok same) opens so all = of_file files from source _ opens all
accepted_file plan files from source (Ok made) (Err stop) opens so all = tt
accepted_file plan files from source (Err fault) (Ok same) opens so all = absurd so
accepted_file plan files from source (Err fault) (Err stop) opens so all = tt

rejects_of : (plan : Plan) (source left : Option (List ℕ)) (task : Task) → IsBegun plan source left task
    → IfSome left (λ read. accepts task read → ⊥) → IfSome source (λ bytes. RejectsBy (task_under plan bytes) (read_under plan bytes))
rejects_of plan None left task is all = tt
rejects_of plan (Some bytes) left task (reads, asks) all =
    subst (λ (t : Option Task). RejectsBy t (read_under plan bytes)) (sym asks)
    (subst (λ (o : Option (List ℕ)). IfSome o (λ read. accepts task read → ⊥)) reads all)

long_of : (plan : Plan) (source left : Option (List ℕ)) (task : Task) → IsBegun plan source left task
    → IfSome left (λ read. 2 ^ 32 ≤ length read) → IfSome source (λ bytes. 2 ^ 32 ≤ length (read_under plan bytes))
long_of plan None left task is all = tt
long_of plan (Some bytes) left task (reads, asks) all = subst (λ (o : Option (List ℕ)). IfSome o (λ read. 2 ^ 32 ≤ length read)) reads all

accepts_not : (task : Option Task) (read : List ℕ) → AcceptsBy task read → RejectsBy task read → ⊥
accepts_not None read can not = can
accepts_not (Some task) read can not = not can

none_accepts : (task : Option Task) (read : List ℕ) → task ≡ None → AcceptsBy task read → ⊥
none_accepts task read none can = subst (λ (t : Option Task). AcceptsBy t read) none can

none_rejects : (task : Option Task) (read : List ℕ) → task ≡ None → RejectsBy task read → ⊥
none_rejects task read none not = subst (λ (t : Option Task). RejectsBy t read) none not

-- ---- a conversion that was begun: what each stop comes from

run_from : (plan : Plan) (source left : Option (List ℕ)) (task : Task) (inner inner_new told told_new count : ℕ) (before now : FileErrors)
    (fault : BridgeFault) → IsBegun plan source left task
    → (Rose inner inner_new → Rose before.source now.source ⊎ (too_many ≤ count)) → (Rose told told_new → Rose before.report now.report)
    → RoseFor (cause_in fault) (error_counts inner before.folder told) (error_counts inner_new now.folder told_new)
    → IfSome left (λ read. breaks_by (accepts task read) read fault) → RunComesFrom plan source before now count fault
run_from plan source left task inner inner_new told told_new count before now runs.ReadFault is read tell rose breaks = read rose.0
run_from plan source left task inner inner_new told told_new count before now runs.WriteFault is read tell rose breaks = rose.2
run_from plan source left task inner inner_new told told_new count before now runs.ReportFault is read tell rose breaks = tell rose.1
run_from plan source left task inner inner_new told told_new count before now runs.NotThisForm is read tell rose breaks =
    rejects_of plan source left task is breaks
run_from plan source left task inner inner_new told told_new count before now runs.TooLong is read tell rose breaks =
    long_of plan source left task is breaks
run_from plan source left task inner inner_new told told_new count before now runs.NoMemory is read tell rose breaks = tt

-- what is read of a log fails as the source does only while its bytes are not too many
read_from : (reads reads_new inner inner_new count : ℕ) → inner ≡ reads → (count < too_many → inner_new ≡ reads_new)
    → (count < too_many) ⊎ (too_many ≤ count) → Rose inner inner_new → Rose reads reads_new ⊎ (too_many ≤ count)
read_from reads reads_new inner inner_new count same same_new (inl few) rose = inl (rose_same inner reads inner_new reads_new same (same_new few) rose)
read_from reads reads_new inner inner_new count same same_new (inr many) rose = inr many

pub comes_of : (plan : Plan) (source left : Option (List ℕ)) (task : Task) (kind : Kind) (count : ℕ)
    (reads reads_new inner inner_new folder folder_new told told_new reports reports_new names names_new : ℕ)
    (done : Result Made (StepFault BridgeFault)) (result : Result Made Stop)
    → IsBegun plan source left task → result ≡ stopped_by kind done count
    → inner ≡ reads → (count < too_many → inner_new ≡ reads_new) → told ≡ reports → reports_new ≡ told_new
    → StepEndsFor cause_in (error_counts inner folder told) (error_counts inner_new folder_new told_new) names names_new done
    → IfErr done (λ fault. IfSome left (λ read. IfBrokeOff (breaks_by (accepts task read) read) fault))
    → IfErr result (ComesFrom plan source (file_errors reads folder reports names) (file_errors reads_new folder_new reports_new names_new))
comes_of plan source left task kind count reads reads_new inner inner_new folder folder_new told told_new reports reports_new names names_new done result
    is so same same_new report report_new ends breaks =
    subst (λ (r : Result Made Stop). IfErr r (ComesFrom plan source (file_errors reads folder reports names) (file_errors reads_new folder_new reports_new names_new)))
    (sym so) (by_end done ends breaks) where
      by_end : (done : Result Made (StepFault BridgeFault))
          → StepEndsFor cause_in (error_counts inner folder told) (error_counts inner_new folder_new told_new) names names_new done
          → IfErr done (λ fault. IfSome left (λ read. IfBrokeOff (breaks_by (accepts task read) read) fault))
          → IfErr (stopped_by kind done count)
          (ComesFrom plan source (file_errors reads folder reports names) (file_errors reads_new folder_new reports_new names_new))
      by_end (Ok made) ends breaks = tt
      by_end (Err (Begin file)) ends breaks = ends.0.2
      by_end (Err (Run fault gave_up)) ends breaks =
          run_from plan source left task inner inner_new told told_new count (file_errors reads folder reports names)
          (file_errors reads_new folder_new reports_new names_new) fault is
          (read_from reads reads_new inner inner_new count same same_new (cases_lt count too_many))
          (rose_same told reports told_new reports_new report (sym report_new)) ends.0 breaks
      by_end (Err Unnamed) ends breaks = ends.1
      by_end (Err (Publish file)) ends breaks = ends.0.2

-- ---- and the stop for each cause

-- a read that failed
pub unread_of : (kind : Kind) (count reads reads_new inner inner_new folder folder_new told told_new names names_new : ℕ)
    (done : Result Made (StepFault BridgeFault)) (result : Result Made Stop) → result ≡ stopped_by kind done count
    → inner ≡ reads → reads_new ≤ inner_new
    → StepEndsFor cause_in (error_counts inner folder told) (error_counts inner_new folder_new told_new) names names_new done
    → reads < reads_new → StopsWith 3 result
unread_of kind count reads reads_new inner inner_new folder folder_new told told_new names names_new done result so same most ends rise =
    subst (StopsWith 3) (sym so) (by_end done ends) where
      never : {A : Type 0} → inner_new ≡ inner → A
      never still = absurd (omega (arith, still, same, most, rise))

      by_fault : (fault : BridgeFault) (gave_up : Result (Unit {0}) FileFault)
          → RoseFor (cause_in fault) (error_counts inner folder told) (error_counts inner_new folder_new told_new)
          → StopsWith 3 (stopped_by kind (Err (Run fault gave_up)) count)
      by_fault runs.ReadFault gave_up rose = refl
      by_fault runs.WriteFault gave_up rose = never rose.0
      by_fault runs.ReportFault gave_up rose = never rose.0
      by_fault runs.NotThisForm gave_up rose = never rose.0
      by_fault runs.TooLong gave_up rose = never rose.0
      by_fault runs.NoMemory gave_up rose = never rose.0

      by_end : (done : Result Made (StepFault BridgeFault))
          → StepEndsFor cause_in (error_counts inner folder told) (error_counts inner_new folder_new told_new) names names_new done
          → StopsWith 3 (stopped_by kind done count)
      by_end (Ok made) ends = never ends.0
      by_end (Err (Begin file)) ends = never ends.0.0
      by_end (Err (Run fault gave_up)) ends = by_fault fault gave_up ends.0
      by_end (Err Unnamed) ends = never ends.0.0
      by_end (Err (Publish file)) ends = never ends.0.0

-- a report that failed
pub unreported_of : (kind : Kind) (count inner inner_new folder folder_new told told_new reports reports_new names names_new : ℕ)
    (done : Result Made (StepFault BridgeFault)) (result : Result Made Stop) → result ≡ stopped_by kind done count
    → told ≡ reports → reports_new ≡ told_new
    → StepEndsFor cause_in (error_counts inner folder told) (error_counts inner_new folder_new told_new) names names_new done
    → reports < reports_new → StopsWith 7 result
unreported_of kind count inner inner_new folder folder_new told told_new reports reports_new names names_new done result so same same_new ends rise =
    subst (StopsWith 7) (sym so) (by_end done ends) where
      never : {A : Type 0} → told_new ≡ told → A
      never still = absurd (omega (arith, still, same, same_new, rise))

      by_fault : (fault : BridgeFault) (gave_up : Result (Unit {0}) FileFault)
          → RoseFor (cause_in fault) (error_counts inner folder told) (error_counts inner_new folder_new told_new)
          → StopsWith 7 (stopped_by kind (Err (Run fault gave_up)) count)
      by_fault runs.ReadFault gave_up rose = never rose.1
      by_fault runs.WriteFault gave_up rose = never rose.1
      by_fault runs.ReportFault gave_up rose = refl
      by_fault runs.NotThisForm gave_up rose = never rose.1
      by_fault runs.TooLong gave_up rose = never rose.1
      by_fault runs.NoMemory gave_up rose = never rose.1

      by_end : (done : Result Made (StepFault BridgeFault))
          → StepEndsFor cause_in (error_counts inner folder told) (error_counts inner_new folder_new told_new) names names_new done
          → StopsWith 7 (stopped_by kind done count)
      by_end (Ok made) ends = never ends.1
      by_end (Err (Begin file)) ends = never ends.0.1
      by_end (Err (Run fault gave_up)) ends = by_fault fault gave_up ends.0
      by_end (Err Unnamed) ends = never ends.0.1
      by_end (Err (Publish file)) ends = never ends.0.1

-- a name that was not given
pub unnamed_of : (kind : Kind) (count inner inner_new folder folder_new told told_new names names_new : ℕ)
    (done : Result Made (StepFault BridgeFault)) (result : Result Made Stop) → result ≡ stopped_by kind done count
    → StepEndsFor cause_in (error_counts inner folder told) (error_counts inner_new folder_new told_new) names names_new done
    → names < names_new → result ≡ Err stops.Unnamed
unnamed_of kind count inner inner_new folder folder_new told told_new names names_new done result so ends rise = so ∙ by_end done ends where
  by_end : (done : Result Made (StepFault BridgeFault))
      → StepEndsFor cause_in (error_counts inner folder told) (error_counts inner_new folder_new told_new) names names_new done
      → stopped_by kind done count ≡ Err stops.Unnamed
  by_end (Ok made) ends = no_rise names names_new ends.3 rise
  by_end (Err (Begin file)) ends = no_rise names names_new ends.1 rise
  by_end (Err (Run fault gave_up)) ends = no_rise names names_new ends.1 rise
  by_end (Err Unnamed) ends = refl
  by_end (Err (Publish file)) ends = no_rise names names_new ends.1 rise

-- the directory alone
pub unwritten_of : (plan : Plan) (source : Option (List ℕ)) (kind : Kind) (count inner inner_new folder folder_new told told_new names names_new : ℕ)
    (before now : FileErrors) (done : Result Made (StepFault BridgeFault)) (result : Result Made Stop) → result ≡ stopped_by kind done count
    → before.names ≡ names → now.names ≡ names_new
    → StepEndsFor cause_in (error_counts inner folder told) (error_counts inner_new folder_new told_new) names names_new done
    → IfErr result (ComesFrom plan source before now)
    → IfSome source (λ bytes. CanConvert plan bytes → folder < folder_new → (Rose before.source now.source → ⊥) → (Rose before.report now.report → ⊥)
    → (Rose before.names now.names → ⊥) → StopsOrLacks 4 result)
unwritten_of plan None kind count inner inner_new folder folder_new told told_new names names_new before now done result so named named_new ends comes = tt
unwritten_of plan (Some bytes) kind count inner inner_new folder folder_new told told_new names names_new before now done result so named named_new ends comes =
    λ can rise no_read no_report no_name. subst (StopsOrLacks 4) (sym so)
    (by_end done ends (subst (λ (r : Result Made Stop). IfErr r (ComesFrom plan (Some bytes) before now)) so comes) can rise no_read no_report no_name) where
      by_fault : (fault : BridgeFault) (gave_up : Result (Unit {0}) FileFault) → RunComesFrom plan (Some bytes) before now count fault
          → CanConvert plan bytes → (Rose before.source now.source → ⊥) → (Rose before.report now.report → ⊥)
          → StopsOrLacks 4 (stopped_by kind (Err (Run fault gave_up)) count)
      by_fault runs.ReadFault gave_up (inl rose) can no_read no_report = absurd (no_read rose)
      by_fault runs.ReadFault gave_up (inr many) can no_read no_report = inr (inr many)
      by_fault runs.WriteFault gave_up rose can no_read no_report = inl refl
      by_fault runs.ReportFault gave_up rose can no_read no_report = absurd (no_report rose)
      by_fault runs.NotThisForm gave_up rejects can no_read no_report = absurd (accepts_not _ _ can.0 rejects)
      by_fault runs.TooLong gave_up long can no_read no_report = absurd (omega (arith, long, can.1))
      by_fault runs.NoMemory gave_up none can no_read no_report = inr (inl refl)

      by_end : (done : Result Made (StepFault BridgeFault))
          → StepEndsFor cause_in (error_counts inner folder told) (error_counts inner_new folder_new told_new) names names_new done
          → IfErr (stopped_by kind done count) (ComesFrom plan (Some bytes) before now)
          → CanConvert plan bytes → folder < folder_new → (Rose before.source now.source → ⊥) → (Rose before.report now.report → ⊥)
          → (Rose before.names now.names → ⊥) → StopsOrLacks 4 (stopped_by kind done count)
      by_end (Ok made) ends comes can rise no_read no_report no_name = no_rise folder folder_new ends.2 rise
      by_end (Err (Begin file)) ends comes can rise no_read no_report no_name = inl refl
      by_end (Err (Run fault gave_up)) ends comes can rise no_read no_report no_name = by_fault fault gave_up comes can no_read no_report
      by_end (Err Unnamed) ends comes can rise no_read no_report no_name = absurd (no_name comes)
      by_end (Err (Publish file)) ends comes can rise no_read no_report no_name = inl refl

-- ---- bytes that are not accepted

-- where nothing failed they give the reason
pub rejected_of : (plan : Plan) (source : Option (List ℕ)) (before now : FileErrors) (result : Result Made Stop)
    → OnOk result (IfSome source (λ bytes. CanConvert plan bytes)) → IfErr result (ComesFrom plan source before now)
    → IfSome source (λ bytes. (Rose before.source now.source → ⊥) → (Rose before.report now.report → ⊥) → (Rose before.names now.names → ⊥)
    → (Rose before.folder now.folder → ⊥) → StopsFor plan bytes result)
rejected_of plan None before now result can comes = tt
rejected_of plan (Some bytes) before now result can comes = λ no_read no_report no_name no_file. record {
  form = λ rejects few. by_form result can comes rejects few no_read no_report no_name no_file;
  long = λ takes many. by_long result can comes takes many no_read no_report no_name no_file;
} where
  form_run : (kind : Kind) (fault : BridgeFault) (count : ℕ) (read put : Option FileFault) → RunComesFrom plan (Some bytes) before now count fault
      → length (read_under plan bytes) < 2 ^ 32
      → (Rose before.source now.source → ⊥) → (Rose before.report now.report → ⊥) → (Rose before.folder now.folder → ⊥)
      → StopsOrLacks 5 (Err (stops.Run kind fault count read put))
  form_run kind runs.ReadFault count read put (inl rose) few no_read no_report no_file = absurd (no_read rose)
  form_run kind runs.ReadFault count read put (inr many) few no_read no_report no_file = inr (inr many)
  form_run kind runs.WriteFault count read put rose few no_read no_report no_file = absurd (no_file rose)
  form_run kind runs.ReportFault count read put rose few no_read no_report no_file = absurd (no_report rose)
  form_run kind runs.NotThisForm count read put rejects few no_read no_report no_file = inl refl
  form_run kind runs.TooLong count read put long few no_read no_report no_file = absurd (omega (arith, long, few))
  form_run kind runs.NoMemory count read put none few no_read no_report no_file = inr (inl refl)

  by_form : (result : Result Made Stop) → OnOk result (CanConvert plan bytes) → IfErr result (ComesFrom plan (Some bytes) before now)
      → RejectsBy (task_under plan bytes) (read_under plan bytes) → length (read_under plan bytes) < 2 ^ 32
      → (Rose before.source now.source → ⊥) → (Rose before.report now.report → ⊥) → (Rose before.names now.names → ⊥)
      → (Rose before.folder now.folder → ⊥) → StopsOrLacks 5 result
  by_form (Ok made) can comes rejects few no_read no_report no_name no_file = accepts_not _ _ can.0 rejects
  by_form (Err (stops.Open fault)) can comes rejects few no_read no_report no_name no_file = absurd (no_file comes)
  by_form (Err (stops.Look told)) can comes rejects few no_read no_report no_name no_file = absurd (no_read comes)
  by_form (Err (stops.NoConversion kind)) can comes rejects few no_read no_report no_name no_file = absurd (none_rejects _ _ comes.0 rejects)
  by_form (Err (stops.Begin fault)) can comes rejects few no_read no_report no_name no_file = absurd (no_file comes)
  by_form (Err (stops.Run kind fault count read put)) can comes rejects few no_read no_report no_name no_file =
      form_run kind fault count read put comes few no_read no_report no_file
  by_form (Err stops.Unnamed) can comes rejects few no_read no_report no_name no_file = absurd (no_name comes)
  by_form (Err (stops.Publish fault)) can comes rejects few no_read no_report no_name no_file = absurd (no_file comes)
  by_form (Err stops.NoMemory) can comes rejects few no_read no_report no_name no_file = inr tt

  long_run : (kind : Kind) (fault : BridgeFault) (count : ℕ) (read put : Option FileFault) → RunComesFrom plan (Some bytes) before now count fault
      → AcceptsBy (task_under plan bytes) (read_under plan bytes)
      → (Rose before.source now.source → ⊥) → (Rose before.report now.report → ⊥) → (Rose before.folder now.folder → ⊥)
      → StopsOrLacks 8 (Err (stops.Run kind fault count read put))
  long_run kind runs.ReadFault count read put (inl rose) takes no_read no_report no_file = absurd (no_read rose)
  long_run kind runs.ReadFault count read put (inr many) takes no_read no_report no_file = inr (inr many)
  long_run kind runs.WriteFault count read put rose takes no_read no_report no_file = absurd (no_file rose)
  long_run kind runs.ReportFault count read put rose takes no_read no_report no_file = absurd (no_report rose)
  long_run kind runs.NotThisForm count read put rejects takes no_read no_report no_file = absurd (accepts_not _ _ takes rejects)
  long_run kind runs.TooLong count read put long takes no_read no_report no_file = inl refl
  long_run kind runs.NoMemory count read put none takes no_read no_report no_file = inr (inl refl)

  by_long : (result : Result Made Stop) → OnOk result (CanConvert plan bytes) → IfErr result (ComesFrom plan (Some bytes) before now)
      → AcceptsBy (task_under plan bytes) (read_under plan bytes) → 2 ^ 32 ≤ length (read_under plan bytes)
      → (Rose before.source now.source → ⊥) → (Rose before.report now.report → ⊥) → (Rose before.names now.names → ⊥)
      → (Rose before.folder now.folder → ⊥) → StopsOrLacks 8 result
  by_long (Ok made) can comes takes many no_read no_report no_name no_file = absurd (omega (arith, can.1, many))
  by_long (Err (stops.Open fault)) can comes takes many no_read no_report no_name no_file = absurd (no_file comes)
  by_long (Err (stops.Look told)) can comes takes many no_read no_report no_name no_file = absurd (no_read comes)
  by_long (Err (stops.NoConversion kind)) can comes takes many no_read no_report no_name no_file = absurd (none_accepts _ _ comes.0 takes)
  by_long (Err (stops.Begin fault)) can comes takes many no_read no_report no_name no_file = absurd (no_file comes)
  by_long (Err (stops.Run kind fault count read put)) can comes takes many no_read no_report no_name no_file =
      long_run kind fault count read put comes takes no_read no_report no_file
  by_long (Err stops.Unnamed) can comes takes many no_read no_report no_name no_file = absurd (no_name comes)
  by_long (Err (stops.Publish fault)) can comes takes many no_read no_report no_name no_file = absurd (no_file comes)
  by_long (Err stops.NoMemory) can comes takes many no_read no_report no_name no_file = inr tt

-- ---- a conversion that was not begun

pub comes_ahead : (plan : Plan) (source : Option (List ℕ)) (reads reads_new folder folder_new reports reports_new names names_new : ℕ)
    (done : Result Made Stop) → IfErr done (StopsAhead plan source reads reads_new)
    → IfErr done (ComesFrom plan source (file_errors reads folder reports names) (file_errors reads_new folder_new reports_new names_new))
comes_ahead plan source reads reads_new folder folder_new reports reports_new names names_new (Ok made) ahead = tt
comes_ahead plan source reads reads_new folder folder_new reports reports_new names names_new (Err (stops.Open fault)) ahead = absurd ahead
comes_ahead plan source reads reads_new folder folder_new reports reports_new names names_new (Err (stops.Look told)) ahead = ahead
comes_ahead plan source reads reads_new folder folder_new reports reports_new names names_new (Err (stops.NoConversion kind)) ahead = ahead.1
comes_ahead plan source reads reads_new folder folder_new reports reports_new names names_new (Err (stops.Begin fault)) ahead = absurd ahead
comes_ahead plan source reads reads_new folder folder_new reports reports_new names names_new (Err (stops.Run kind fault count read put)) ahead = absurd ahead
comes_ahead plan source reads reads_new folder folder_new reports reports_new names names_new (Err stops.Unnamed) ahead = absurd ahead
comes_ahead plan source reads reads_new folder folder_new reports reports_new names names_new (Err (stops.Publish fault)) ahead = absurd ahead
comes_ahead plan source reads reads_new folder folder_new reports reports_new names names_new (Err stops.NoMemory) ahead = tt

pub unread_ahead : (plan : Plan) (source : Option (List ℕ)) (reads reads_new : ℕ) (done : Result Made Stop) → OnOk done ⊥
    → IfErr done (StopsAhead plan source reads reads_new) → reads < reads_new → StopsWith 3 done
unread_ahead plan source reads reads_new (Ok made) never ahead rise = never
unread_ahead plan source reads reads_new (Err (stops.Open fault)) never ahead rise = absurd ahead
unread_ahead plan source reads reads_new (Err (stops.Look told)) never ahead rise = refl
unread_ahead plan source reads reads_new (Err (stops.NoConversion kind)) never ahead rise = no_rise reads reads_new ahead.0 rise
unread_ahead plan source reads reads_new (Err (stops.Begin fault)) never ahead rise = absurd ahead
unread_ahead plan source reads reads_new (Err (stops.Run kind fault count read put)) never ahead rise = absurd ahead
unread_ahead plan source reads reads_new (Err stops.Unnamed) never ahead rise = absurd ahead
unread_ahead plan source reads reads_new (Err (stops.Publish fault)) never ahead rise = absurd ahead
unread_ahead plan source reads reads_new (Err stops.NoMemory) never ahead rise = no_rise reads reads_new ahead rise

-- where nothing is begun no call of the directory fails
pub unwritten_ahead : (source : Option (List ℕ)) (Can : List ℕ → Type 0) (folder folder_new : ℕ) (A B C D : Type 0) → folder_new ≡ folder
    → IfSome source (λ bytes. Can bytes → folder < folder_new → A → B → C → D)
unwritten_ahead source Can folder folder_new A B C D same = always source _ (λ bytes can rise a b c. no_rise folder folder_new same rise)

-- nothing can be begun with, so that nothing is to be shown of a conversion that is done
pub never_accepted : (done : Result Made Stop) (A : Type 0) → OnOk done ⊥ → OnOk done A
never_accepted (Ok made) A never = absurd never
never_accepted (Err stop) A never = tt

-- ---- a file that is opened, and closed then

-- a read that failed fails the close
pub comes_file : (plan : Plan) (files : Folders) (from : List ℕ) (source : Option (List ℕ))
    (reads reads_new folder folder_open folder_mid folder_new reports reports_new names names_new : ℕ)
    (done result : Result Made Stop) (read : Option FileFault)
    → Opens files from source → result ≡ decided_by done read → reads ≡ 0 → folder_open ≡ folder → folder_open ≤ folder_mid → folder_mid ≤ folder_new
    → (Rose 0 reads_new → Rose folder_mid folder_new)
    → IfErr done (ComesFrom plan source (file_errors reads folder_open reports names) (file_errors reads_new folder_mid reports_new names_new))
    → IfErr result (ComesFrom plan (bytes_of files from) (file_errors folder folder reports names) (file_errors folder_new folder_new reports_new names_new))
comes_file plan files from source reads reads_new folder folder_open folder_mid folder_new reports reports_new names names_new done result read
    opens so zero same before later told comes =
    subst (λ (r : Result Made Stop). IfErr r (ComesFrom plan (bytes_of files from) (file_errors folder folder reports names) (file_errors folder_new folder_new reports_new names_new)))
    (sym so) (by_end done comes) where
      file_rose : Rose folder_open folder_mid → Rose folder folder_new
      file_rose rose = rose_later folder folder_open folder_mid folder_new (sym same) rose later

      read_rose : Rose reads reads_new → Rose folder folder_new
      read_rose rose =
          rose_before folder folder_open folder_mid folder_new (sym same) before (told (rose_same reads 0 reads_new reads_new zero refl rose))

      by_fault : (count : ℕ) (fault : BridgeFault)
          → RunComesFrom plan source (file_errors reads folder_open reports names) (file_errors reads_new folder_mid reports_new names_new) count fault
          → RunComesFrom plan (bytes_of files from) (file_errors folder folder reports names) (file_errors folder_new folder_new reports_new names_new) count fault
      by_fault count runs.ReadFault (inl rose) = inl (read_rose rose)
      by_fault count runs.ReadFault (inr many) = inr many
      by_fault count runs.WriteFault rose = file_rose rose
      by_fault count runs.ReportFault rose = rose
      by_fault count runs.NotThisForm rejects = of_file files from source _ opens rejects
      by_fault count runs.TooLong long = of_file files from source _ opens long
      by_fault count runs.NoMemory none = tt

      by_end : (done : Result Made Stop)
          → IfErr done (ComesFrom plan source (file_errors reads folder_open reports names) (file_errors reads_new folder_mid reports_new names_new))
          → IfErr (decided_by done read)
          (ComesFrom plan (bytes_of files from) (file_errors folder folder reports names) (file_errors folder_new folder_new reports_new names_new))
      by_end (Ok made) comes = tt
      by_end (Err (stops.Open fault)) comes = file_rose comes
      by_end (Err (stops.Look told)) comes = read_rose comes
      by_end (Err (stops.NoConversion kind)) comes = of_file files from source _ opens comes
      by_end (Err (stops.Begin fault)) comes = file_rose comes
      by_end (Err (stops.Run kind fault count told put)) comes = by_fault count fault comes
      by_end (Err stops.Unnamed) comes = comes
      by_end (Err (stops.Publish fault)) comes = file_rose comes
      by_end (Err stops.NoMemory) comes = tt

-- what its input reports changes no exit status
pub stops_told : (status : ℕ) (done result : Result Made Stop) (read : Option FileFault) → result ≡ decided_by done read → StopsWith status done
    → StopsWith status result
stops_told status done result read so has = subst (StopsWith status) (sym so) (by_end done has) where
  by_end : (done : Result Made Stop) → StopsWith status done → StopsWith status (decided_by done read)
  by_end (Ok made) never = never
  by_end (Err (stops.Open fault)) is = is
  by_end (Err (stops.Look told)) is = is
  by_end (Err (stops.NoConversion kind)) is = is
  by_end (Err (stops.Begin fault)) is = is
  by_end (Err (stops.Run kind fault count told put)) is = is
  by_end (Err stops.Unnamed) is = is
  by_end (Err (stops.Publish fault)) is = is
  by_end (Err stops.NoMemory) is = is

pub unnamed_told : (done result : Result Made Stop) (read : Option FileFault) → result ≡ decided_by done read → done ≡ Err stops.Unnamed
    → result ≡ Err stops.Unnamed
unnamed_told done result read so is = so ∙ subst (λ (d : Result Made Stop). decided_by d read ≡ Err stops.Unnamed) (sym is) refl

-- bytes that are not accepted give the reason where the directory did not fail either
pub rejected_file : (plan : Plan) (source : Option (List ℕ)) (before now : FileErrors) (result : Result Made Stop)
    → before.source ≡ before.folder → now.source ≡ now.folder
    → OnOk result (IfSome source (λ bytes. CanConvert plan bytes)) → IfErr result (ComesFrom plan source before now)
    → IfSome source (λ bytes. (Rose before.report now.report → ⊥) → (Rose before.names now.names → ⊥) → (Rose before.folder now.folder → ⊥)
    → StopsFor plan bytes result)
rejected_file plan source before now result same same_new can comes = by_bytes source (rejected_of plan source before now result can comes) where
  by_bytes : (o : Option (List ℕ))
      → IfSome o (λ bytes. (Rose before.source now.source → ⊥) → (Rose before.report now.report → ⊥) → (Rose before.names now.names → ⊥)
      → (Rose before.folder now.folder → ⊥) → StopsFor plan bytes result)
      → IfSome o (λ bytes. (Rose before.report now.report → ⊥) → (Rose before.names now.names → ⊥) → (Rose before.folder now.folder → ⊥)
      → StopsFor plan bytes result)
  by_bytes None all = tt
  by_bytes (Some bytes) each = λ no_report no_name no_file.
      each (λ rose. no_file (rose_same before.source before.folder now.source now.folder same same_new rose)) no_report no_name no_file

-- bytes that are accepted leave the directory, if neither the report nor the namer failed
pub failed_of : (plan : Plan) (source : Option (List ℕ)) (before now : FileErrors) (result : Result Made Stop)
    → IfErr result (ComesFrom plan source before now)
    → IfSome source (λ bytes. CanConvert plan bytes → (Rose before.report now.report → ⊥) → (Rose before.names now.names → ⊥)
    → IfErr result (λ stop. (status_for stop ≡ 3) ⊎ ((status_for stop ≡ 4) ⊎ IsLack stop)))
failed_of plan None before now result comes = tt
failed_of plan (Some bytes) before now result comes = λ can no_report no_name. by_end result comes can no_report no_name where
  by_fault : (kind : Kind) (fault : BridgeFault) (count : ℕ) (read put : Option FileFault) → RunComesFrom plan (Some bytes) before now count fault
      → CanConvert plan bytes → (Rose before.report now.report → ⊥)
      → (status_for (stops.Run kind fault count read put) ≡ 3)
      ⊎ ((status_for (stops.Run kind fault count read put) ≡ 4) ⊎ IsLack (stops.Run kind fault count read put))
  by_fault kind runs.ReadFault count read put comes can no_report = inl refl
  by_fault kind runs.WriteFault count read put comes can no_report = inr (inl refl)
  by_fault kind runs.ReportFault count read put rose can no_report = absurd (no_report rose)
  by_fault kind runs.NotThisForm count read put rejects can no_report = absurd (accepts_not _ _ can.0 rejects)
  by_fault kind runs.TooLong count read put long can no_report = absurd (omega (arith, long, can.1))
  by_fault kind runs.NoMemory count read put none can no_report = inr (inr (inl refl))

  by_end : (result : Result Made Stop) → IfErr result (ComesFrom plan (Some bytes) before now)
      → CanConvert plan bytes → (Rose before.report now.report → ⊥) → (Rose before.names now.names → ⊥)
      → IfErr result (λ stop. (status_for stop ≡ 3) ⊎ ((status_for stop ≡ 4) ⊎ IsLack stop))
  by_end (Ok made) comes can no_report no_name = tt
  by_end (Err (stops.Open fault)) comes can no_report no_name = inl refl
  by_end (Err (stops.Look told)) comes can no_report no_name = inl refl
  by_end (Err (stops.NoConversion kind)) comes can no_report no_name = absurd (none_accepts _ _ comes.0 can.0)
  by_end (Err (stops.Begin fault)) comes can no_report no_name = inr (inl refl)
  by_end (Err (stops.Run kind fault count read put)) comes can no_report no_name = by_fault kind fault count read put comes can no_report
  by_end (Err stops.Unnamed) comes can no_report no_name = absurd (no_name comes)
  by_end (Err (stops.Publish fault)) comes can no_report no_name = inr (inl refl)
  by_end (Err stops.NoMemory) comes can no_report no_name = inr (inr tt)
