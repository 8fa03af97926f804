-- From a source that was looked at to the conversion that is begun.
use Rattle.std.proofs.Common.{◌≡◌, ℕ, Bool, true, false, List, Option, None, Some, Result, Err, sym, ap, subst, ◌∙◌, refl}
use Rattle.std.specs.Option.{option_map}
use Rattle.std.specs.Prelude.{IfSome, if◌then◌else◌}
use Rattle.std.specs.Io.KnownBytes.{Keeps}
use Rattle.nav_io.specs.Causes.{Rose}
use Rattle.bridge_engine.specs.declared.job.Job.TheVariants as jobs
use Rattle.whole_file.specs.declared.kinds.Kind.{Kind}
use Rattle.whole_file.specs.declared.kinds.Kind.TheVariants as kinds
use Rattle.file_conversion.specs.Makes.{AcceptsBy, CanConvert, ReadsUnder, kind_under, read_under, task_under}
use Rattle.file_conversion.specs.Logs.{read_as}
use Rattle.file_conversion.specs.Steps.{IsBegun, IsLack, IsReady, IsStopped, IsUnconverted, Made}
use Rattle.file_conversion.specs.Table.{capture_task, capture_to, file3_task, file4_task, log_task, stream_task, task_for}
use Rattle.file_conversion.specs.Tasks.{reads_input}
use Rattle.file_conversion.specs.declared.ready.Ready.{Ready}
use Rattle.file_conversion.specs.declared.stops.Stop.{Stop}
use Rattle.file_conversion.specs.declared.stops.Stop.TheVariants.{NoConversion}
use Rattle.file_conversion.specs.declared.table.Plan.{Plan}
use Rattle.file_conversion.specs.declared.table.Task.{Task}
use Rattle.file_conversion.specs.declared.table.Task.TheVariants.{Does}
use Rattle.file_conversion.specs.declared.targets.Target.{Target}
use Rattle.file_conversion.specs.declared.targets.Target.TheVariants as targets

-- ---- what is done with a file reads it

abbrev Reads : Option Task → Type 0
Reads task = IfSome task (λ task. reads_input task ≡ true)

mapped : {A : Type 0} (found : Option A) (task : A → Task) → ((x : A) → reads_input (task x) ≡ true) → Reads (option_map task found)
mapped None task reads = tt
mapped (Some x) task reads = reads x

capture_reads : (plan : Plan) (week : Option ℕ) → Reads (capture_task plan week)
capture_reads plan week =
    mapped (capture_to plan.target plan.header) (λ to. Does (jobs.Capture (record { week = week; to = to }))) (λ to. refl)

log_reads : (plan : Plan) (target : Target) → Reads (log_task plan target)
log_reads plan targets.Rinex = capture_reads plan plan.week
log_reads plan targets.Rinex3 = capture_reads plan plan.week
log_reads plan targets.Rtcm = capture_reads plan plan.week
log_reads plan targets.List = capture_reads plan plan.week
log_reads plan targets.Count = capture_reads plan plan.week
log_reads plan targets.Frames = capture_reads plan plan.week
log_reads plan targets.Merged = capture_reads plan plan.week
log_reads plan targets.Merged3 = capture_reads plan plan.week
log_reads plan targets.Cover = capture_reads plan plan.week
log_reads plan targets.Capture = refl

stream_reads : (plan : Plan) (target : Target) → Reads (stream_task plan target)
stream_reads plan targets.Rinex = refl
stream_reads plan targets.Rinex3 = refl
stream_reads plan targets.Rtcm = refl
stream_reads plan targets.List = refl
stream_reads plan targets.Count = refl
stream_reads plan targets.Frames = refl
stream_reads plan targets.Merged = tt
stream_reads plan targets.Merged3 = tt
stream_reads plan targets.Cover = tt
stream_reads plan targets.Capture = tt

file4_reads : (plan : Plan) (target : Target) → Reads (file4_task plan target)
file4_reads plan targets.Rinex = refl
file4_reads plan targets.Rinex3 = refl
file4_reads plan targets.Rtcm = refl
file4_reads plan targets.List = refl
file4_reads plan targets.Count = refl
file4_reads plan targets.Frames = tt
file4_reads plan targets.Merged = refl
file4_reads plan targets.Merged3 = refl
file4_reads plan targets.Cover = refl
file4_reads plan targets.Capture = refl

file3_reads : (plan : Plan) (target : Target) → Reads (file3_task plan target)
file3_reads plan targets.Rinex = refl
file3_reads plan targets.Rinex3 = refl
file3_reads plan targets.Rtcm = refl
file3_reads plan targets.List = refl
file3_reads plan targets.Count = refl
file3_reads plan targets.Frames = tt
file3_reads plan targets.Merged = tt
file3_reads plan targets.Merged3 = tt
file3_reads plan targets.Cover = tt
file3_reads plan targets.Capture = refl

pub reads_of : (plan : Plan) (kind : Kind) → Reads (task_for plan kind)
reads_of plan kinds.Empty = tt
reads_of plan kinds.Capture1 = capture_reads plan _
reads_of plan kinds.Capture2 = capture_reads plan _
reads_of plan kinds.Rinex4 = file4_reads plan plan.target
reads_of plan kinds.Rinex3 = file3_reads plan plan.target
reads_of plan kinds.Rinex2 = file3_reads plan plan.target
reads_of plan kinds.Observations = tt
reads_of plan kinds.Hatanaka = tt
reads_of plan kinds.OtherRinex = tt
reads_of plan kinds.Stream = stream_reads plan plan.target
reads_of plan kinds.Ubx = log_reads plan plan.target
reads_of plan kinds.Sbf = log_reads plan plan.target
reads_of plan kinds.Nmea = tt
reads_of plan kinds.Gzip = tt
reads_of plan kinds.Compress = tt
reads_of plan kinds.Zip = tt
reads_of plan kinds.Marked = tt
reads_of plan kinds.Unknown = tt

-- ---- what is done with an input that was looked at, or why nothing is

-- nothing is done with a form that has no conversion
pub none_asked : (plan : Plan) (source : Option (List ℕ)) (kind : Kind) (task : Option Task) (A : Type 0) → ReadsUnder plan source kind
    → task ≡ task_for plan kind → task ≡ None → IfSome source (λ bytes. CanConvert plan bytes → A → IsLack (NoConversion kind))
none_asked plan None kind task A is found none = tt
none_asked plan (Some bytes) kind task A is found none = λ (can, few). λ a.
    let nothing : task_for plan (kind_under plan bytes) ≡ None = subst (λ (k : Kind). task_for plan k ≡ None) is (sym found ∙ none) in
    absurd (subst (λ (t : Option Task). AcceptsBy t (read_under plan bytes)) nothing can)

-- that is why
pub none_ahead : (plan : Plan) (source : Option (List ℕ)) (kind : Kind) (task : Option Task) → ReadsUnder plan source kind
    → task ≡ task_for plan kind → task ≡ None → IfSome source (λ bytes. (task_under plan bytes ≡ None) × (kind ≡ kind_under plan bytes))
none_ahead plan None kind task is found none = tt
none_ahead plan (Some bytes) kind task is found none = (subst (λ (k : Kind). task_for plan k ≡ None) is (sym found ∙ none), is)

-- ---- a conversion that is begun, or is not

kept : (bytes : List ℕ) (left : Option (List ℕ)) → Keeps (Some bytes) left → left ≡ Some bytes
kept bytes None never = absurd never
kept bytes (Some xs) same = ap Some same

begun_from : (plan : Plan) (ready : Ready) (source left read : Option (List ℕ)) → Keeps source left → IsReady plan source ready
    → read ≡ option_map (read_as ready.kind) left → IsBegun plan source read ready.task
begun_from plan ready None left read keeps is there = tt
begun_from plan ready (Some bytes) left read keeps is there = (
  there ∙ ap (option_map (read_as ready.kind)) (kept bytes left keeps) ∙ ap (λ (k : Kind). Some (read_as k bytes)) is.kind,
  subst (λ (k : Kind). task_for plan k ≡ Some ready.task) is.kind is.task,
)

pub begun_of : (plan : Plan) (ready : Ready) (source whole left read : Option (List ℕ)) → whole ≡ source → Keeps whole left
    → IsReady plan source ready → read ≡ option_map (read_as ready.kind) left → IsBegun plan source read ready.task
begun_of plan ready source whole left read same keeps is there =
    begun_from plan ready source left read (subst (λ (o : Option (List ℕ)). Keeps o left) same keeps) is there

pub stopped_of : (plan : Plan) (source : Option (List ℕ)) (reads reads_new : ℕ) (done : Result Made Stop) (stop : Stop) → done ≡ Err stop
    → IfSome source (λ bytes. CanConvert plan bytes → (Rose reads reads_new → ⊥) → IsLack stop)
    → IfSome source (λ bytes. task_under plan bytes ≡ None → (Rose reads reads_new → ⊥) → IsUnconverted (kind_under plan bytes) (Err stop))
    → IsStopped plan source reads reads_new done
stopped_of plan source reads reads_new done stop is why none = rw is (record { never = tt; lack = why; none = none })
