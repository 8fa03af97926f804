-- From a step to the conversion that it ends.
use Rattle.std.proofs.Common.{◌≡◌, ◌⊎◌, inl, inr, ◌<◌, ◌≤◌, ◌^◌, ℕ, length, List, Option, None, Some, Result, Ok, Err, refl, sym, subst, ◌∙◌, arith}
use Rattle.std.proofs.lemmas.Bool.{cases_lt}
use Rattle.std.specs.Prelude.{IfErr, IfOk, IfSome, IsSome, OnErr, OnOk}
use Rattle.nav_io.specs.Causes.{Rose}
use Rattle.one_run.specs.declared.fault.BridgeFault.{BridgeFault}
use Rattle.one_run.specs.declared.fault.BridgeFault.TheVariants.{NoMemory}
use Rattle.file_conversion.specs.declared.done.Done.{Done}
use Rattle.whole_file.specs.declared.kinds.Kind.{Kind}
use Rattle.whole_file.specs.Files.{Opens, Stays}
use Rattle.whole_file.specs.Steps.{BrokeOff, Lacks, bytes_of}
use Rattle.whole_file.specs.declared.faults.FileFault.{FileFault}
use Rattle.whole_file.specs.declared.step.StepFault.{StepFault}
use Rattle.whole_file.specs.declared.step.StepFault.TheVariants.{Begin, Run, Unnamed, Publish}
use Rattle.receiver_log.specs.Capture.{too_many}
use Rattle.file_conversion.specs.Makes.{AcceptsBy, CanConvert, ConvertsAs, CountsAs, CountsBy, Makes, MakesBy, PutsAs, ReadsUnder, kind_under, read_under, task_under}
use Rattle.file_conversion.specs.Stops.{stopped_by}
use Rattle.file_conversion.specs.Steps.{EndsSo, IsBegun, IsLack, IsMissing, IsStopped, IsUnconverted, LacksMore, Made, DecidesFormat, decided_by}
use Rattle.file_conversion.specs.Tasks.{accepts, counts_by, makes_by}
use Rattle.file_conversion.specs.declared.stops.Stop.{Stop}
use Rattle.file_conversion.specs.declared.table.Plan.{Plan}
use Rattle.file_conversion.specs.declared.table.Task.{Task}

abbrev pub Folders : Type 0
Folders = Option (List ℕ → Option (List ℕ))

pub always : (left : Option (List ℕ)) (P : List ℕ → Type 0) → ((bytes : List ℕ) → P bytes) → IfSome left P
always None P each = tt
always (Some bytes) P each = each bytes

mapped : (left : Option (List ℕ)) (P Q : List ℕ → Type 0) → ((bytes : List ℕ) → P bytes → Q bytes) → IfSome left P → IfSome left Q
mapped None P Q f all = tt
mapped (Some bytes) P Q f all = f bytes all

pub rose_same : (a b c d : ℕ) → a ≡ b → c ≡ d → Rose a c → Rose b d
rose_same a b c d e f rose = omega arith

-- ---- how the conversion has ended, by how the step has

pub on_ended : {E : Type 0} (lacks : E → Type 0) (done : Result Made E) (result : Result Made Stop) (A B : Made → Type 0) → EndsSo lacks done result
    → ((made : Made) → A made → B made) → IfOk done A → IfOk result B
on_ended lacks (Ok made) (Ok same) A B so f a = subst B (sym so) (f made a)
on_ended lacks (Ok made) (Err stop) A B so f a = tt
on_ended lacks (Err fault) (Ok made) A B so f a = absurd so
on_ended lacks (Err fault) (Err stop) A B so f a = tt

pub on_failed : {E : Type 0} (lacks : E → Type 0) (done : Result Made E) (result : Result Made Stop) (A B : Type 0) → EndsSo lacks done result
    → (A → B) → OnErr done A → OnErr result B
on_failed lacks (Ok x) (Ok y) A B so f a = tt
on_failed lacks (Ok x) (Err stop) A B so f a = absurd so
on_failed lacks (Err fault) (Ok y) A B so f a = tt
on_failed lacks (Err fault) (Err stop) A B so f a = f a

pub lack_of : {E : Type 0} (lacks : E → Type 0) (done : Result Made E) (result : Result Made Stop) → EndsSo lacks done result → IfErr done lacks
    → IfErr result IsLack
lack_of lacks (Ok x) (Ok y) so lack = tt
lack_of lacks (Ok x) (Err stop) so lack = absurd so
lack_of lacks (Err fault) (Ok y) so lack = tt
lack_of lacks (Err fault) (Err stop) so lack = so lack

no_call : {E A : Type 0} → ⊥ ⊎ (⊥ × A) → E
no_call (inl never) = absurd never
no_call (inr (never, a)) = absurd never

lack_run : (fault : BridgeFault) (count : ℕ) → (fault ≡ NoMemory) ⊎ (Unit {0} × (too_many ≤ count)) → (fault ≡ NoMemory) ⊎ (too_many ≤ count)
lack_run fault count (inl memory) = inl memory
lack_run fault count (inr (broke, many)) = inr many

-- it is done where its step is, and lacks what its step lacks
pub ended_by : (kind : Kind) (count : ℕ) (done : Result Made (StepFault BridgeFault))
    → EndsSo (LacksMore count) done (stopped_by kind done count)
ended_by kind count (Ok made) = refl
ended_by kind count (Err (Begin fault)) = no_call
ended_by kind count (Err (Run fault told)) = lack_run fault count
ended_by kind count (Err Unnamed) = no_call
ended_by kind count (Err (Publish fault)) = no_call

-- ---- a conversion that was begun

-- what was made of what was read is what the plan asks
pub made_of : (plan : Plan) (source left : Option (List ℕ)) (task : Task) (P : List ℕ → Type 0) → IsBegun plan source left task
    → IfSome left (λ read. P (makes_by task read)) → IfSome source (λ bytes. (made : List ℕ) × Makes plan bytes made × P made)
made_of plan None left task P is all = tt
made_of plan (Some bytes) left task P (reads, asks) all = (
  makes_by task (read_under plan bytes),
  subst (λ (t : Option Task). MakesBy t (read_under plan bytes) (makes_by task (read_under plan bytes))) (sym asks) refl,
  subst (λ (o : Option (List ℕ)). IfSome o (λ read. P (makes_by task read))) reads all,
)

-- and what was counted
pub counts_of : (plan : Plan) (source left : Option (List ℕ)) (task : Task) (done : Option Done) → IsBegun plan source left task
    → IfSome left (λ read. done ≡ counts_by task read) → IfSome source (λ bytes. CountsAs plan bytes done)
counts_of plan None left task done is all = tt
counts_of plan (Some bytes) left task done (reads, asks) all =
    subst (λ (t : Option Task). CountsBy t (read_under plan bytes) done) (sym asks)
    (subst (λ (o : Option (List ℕ)). IfSome o (λ read. done ≡ counts_by task read)) reads all)

-- the task takes what is read, where it can be converted
takes : (plan : Plan) (bytes : List ℕ) (task : Option Task) (one : Task) → task ≡ Some one → AcceptsBy task (read_under plan bytes)
    → accepts one (read_under plan bytes)
takes plan bytes task one asks can = subst (λ (t : Option Task). AcceptsBy t (read_under plan bytes)) asks can

-- where so many bytes are too many, it is that which is wanting
by_count : (count : ℕ) (N F : Type 0) (done : Result Made (StepFault BridgeFault)) → (count < too_many) ⊎ (too_many ≤ count)
    → IfErr done (λ fault. BrokeOff fault ⊎ (N ⊎ F)) → (N → ⊥) → (F → ⊥)
    → (count < too_many → IfErr done (Lacks (λ fault. fault ≡ NoMemory))) → IfErr done (LacksMore count)
by_count count N F (Ok made) either why named none few = tt
by_count count N F (Err fault) (inl short) why named none few = inl (few short)
by_count count N F (Err fault) (inr many) (inl broke) named none few = inr (broke, many)
by_count count N F (Err fault) (inr many) (inr (inl rose)) named none few = absurd (named rose)
by_count count N F (Err fault) (inr many) (inr (inr rose)) named none few = absurd (none rose)

-- what is told is the form under which it was begun
pub tells : (plan : Plan) (source : Option (List ℕ)) (done : Result Made Stop) (kind : Kind) (told : Option Kind) → told ≡ Some kind
    → ReadsUnder plan source kind → DecidesFormat plan source done told
tells plan source done kind told is under = rw is (record { some = all_ok done _ refl; is = under }) where
  all_ok : (done : Result Made Stop) (A : Type 0) → A → OnOk done A
  all_ok (Ok made) A a = a
  all_ok (Err stop) A a = tt

-- It is done, or something is wanting, where the bytes are accepted, the output has a name and nothing fails. What is read of a log
-- fails as the source does only while its bytes are not too many.
pub lacks_of : (plan : Plan) (source left : Option (List ℕ)) (task : Task) (N F : Type 0)
    (reads reads_new inner inner_new reports reports_new told told_new count : ℕ)
    (done : Result Made (StepFault BridgeFault)) (result : Result Made Stop)
    → IsBegun plan source left task → EndsSo (LacksMore count) done result
    → inner ≡ reads → (count < too_many → inner_new ≡ reads_new) → told ≡ reports → reports_new ≡ told_new
    → IfErr done (λ fault. BrokeOff fault ⊎ (N ⊎ F))
    → IfSome left (λ read. accepts task read × (length read < 2 ^ 32) → (Rose inner inner_new → ⊥) → (Rose told told_new → ⊥)
    → (N → ⊥) → (F → ⊥) → IfErr done (Lacks (λ fault. fault ≡ NoMemory)))
    → IfSome source (λ bytes. CanConvert plan bytes → (Rose reads reads_new → ⊥) → (Rose reports reports_new → ⊥)
    → (N → ⊥) → (F → ⊥) → IfErr result IsLack)
lacks_of plan None left task N F reads reads_new inner inner_new reports reports_new told told_new count done result
    is so same same_new report report_new failed complete = tt
lacks_of plan (Some bytes) left task N F reads reads_new inner inner_new reports reports_new told told_new count done result
    (is, asks) so same same_new report report_new failed complete = λ can no_read no_report named no_file.
    let each = subst (λ (o : Option (List ℕ)). IfSome o (λ read. accepts task read × (length read < 2 ^ 32) → (Rose inner inner_new → ⊥)
    → (Rose told told_new → ⊥) → (N → ⊥) → (F → ⊥) → IfErr done (Lacks (λ fault. fault ≡ NoMemory)))) is complete in
    lack_of (LacksMore count) done result so
    (by_count count N F done (cases_lt count too_many) failed named no_file (λ few.
    each (takes plan bytes _ task asks can.0, can.1)
    (λ rose. no_read (rose_same inner reads inner_new reads_new same (same_new few) rose))
    (λ rose. no_report (rose_same told reports told_new reports_new report (sym report_new) rose))
    named no_file))

-- ---- one that was not

pub none_ok : (done : Result Made Stop) (A : Made → Type 0) → OnOk done ⊥ → IfOk done A
none_ok (Ok made) A never = absurd never
none_ok (Err stop) A never = tt

pub none_told : (done : Result Made Stop) (A : Type 0) → OnOk done ⊥ → OnOk done A
none_told (Ok made) A never = absurd never
none_told (Err stop) A never = tt

pub untold : (plan : Plan) (source : Option (List ℕ)) (done : Result Made Stop) (told : Option Kind) → OnOk done ⊥ → told ≡ None
    → DecidesFormat plan source done told
untold plan source done told never is = record {
  some = none_told done (IsSome told) never;
  is = subst (λ (k : Option Kind). IfSome k (ReadsUnder plan source)) (sym is) tt;
}

pub unmade : (done : Result Made Stop) (stop : Stop) → done ≡ Err stop → OnOk done ⊥
unmade done stop is = subst (λ (d : Result Made Stop). OnOk d ⊥) (sym is) tt

stays_same : (files : Folders) (part : List ℕ) → Stays files files part
stays_same None part = tt
stays_same (Some files) part = λ name other. refl

pub stays_still : (done : Result Made Stop) (old new : Folders) (part : List ℕ) → new ≡ old → OnErr done (Stays old new part)
stays_still (Ok x) old new part same = tt
stays_still (Err stop) old new part same = subst (λ (f : Folders). Stays old f part) (sym same) (stays_same old part)

pub stopped_lack : (plan : Plan) (source : Option (List ℕ)) (reads reads_new : ℕ) (done : Result Made Stop) (A B C : Type 0)
    → IsStopped plan source reads reads_new done
    → IfSome source (λ bytes. CanConvert plan bytes → (Rose reads reads_new → ⊥) → A → B → C → IfErr done IsLack)
stopped_lack plan source reads reads_new done A B C is = mapped source _ _ (λ bytes each can no_read a b c. each can no_read) is.lack

-- ---- a file that is opened, and closed then

pub converts_of : (plan : Plan) (old opened put new : Folders) (from part name : List ℕ) (source : Option (List ℕ))
    → opened ≡ old → new ≡ put → Opens old from source → IfSome source (λ bytes. PutsAs plan bytes opened put part name)
    → ConvertsAs plan old new from part name
converts_of plan old opened put new from part name source same same_new opens puts =
    by_files old new opens (subst (λ (f : Folders). IfSome source (λ bytes. PutsAs plan bytes f new part name)) same
    (subst (λ (f : Folders). IfSome source (λ bytes. PutsAs plan bytes opened f part name)) (sym same_new) puts)) where
      named : (old : List ℕ → Option (List ℕ)) (new : Folders) (bytes : List ℕ) → old from ≡ Some bytes
          → PutsAs plan bytes (Some old) new part name → ConvertsAs plan (Some old) new from part name
      named old None bytes there (text, makes, never) = absurd never
      named old (Some new) bytes there (text, makes, puts) = (bytes, there, (text, makes, puts))

      by_files : (old new : Folders) → Opens old from source → IfSome source (λ bytes. PutsAs plan bytes old new part name)
          → ConvertsAs plan old new from part name
      by_files None new opens puts = tt
      by_files (Some old) new (bytes, there, has) puts =
          named old new bytes there (subst (λ (o : Option (List ℕ)). IfSome o (λ l. PutsAs plan l (Some old) new part name)) has puts)

pub stays_of : (old opened put new : Folders) (part : List ℕ) → opened ≡ old → new ≡ put → Stays opened put part → Stays old new part
stays_of old opened put new part same same_new stays =
    subst (λ (f : Folders). Stays f new part) same (subst (λ (f : Folders). Stays opened f part) (sym same_new) stays)

-- what is so of the bytes of the source is so of those of the file
pub of_file : (files : Folders) (from : List ℕ) (source : Option (List ℕ)) (P : List ℕ → Type 0) → Opens files from source → IfSome source P
    → IfSome (bytes_of files from) P
of_file None from source P opens all = tt
of_file (Some files) from source P (bytes, there, has) all = subst (λ (o : Option (List ℕ)). IfSome o P) (has ∙ sym there) all

under_file : (plan : Plan) (files : Folders) (from : List ℕ) (source : Option (List ℕ)) (told : Option Kind) → Opens files from source
    → IfSome told (ReadsUnder plan source) → IfSome told (ReadsUnder plan (bytes_of files from))
under_file plan files from source None opens is = tt
under_file plan files from source (Some kind) opens is = of_file files from source _ opens is

pub tells_file : (plan : Plan) (files : Folders) (from : List ℕ) (source : Option (List ℕ)) (done result : Result Made Stop) (told : Option Kind)
    → Opens files from source → EndsSo IsLack done result → DecidesFormat plan source done told → DecidesFormat plan (bytes_of files from) result told
tells_file plan files from source done result told opens so form = record {
  some = told_so done result so form.some;
  is = under_file plan files from source told opens form.is;
} where
  told_so : (done result : Result Made Stop) → EndsSo IsLack done result → OnOk done (IsSome told) → OnOk result (IsSome told)
  told_so (Ok made) (Ok same) so some = some
  told_so (Ok made) (Err stop) so some = tt
  told_so (Err fault) (Ok made) so some = absurd so
  told_so (Err fault) (Err stop) so some = tt

-- what is counted of the bytes of the source is counted of those of the file
pub counts_file : (plan : Plan) (files : Folders) (from : List ℕ) (source : Option (List ℕ)) (done : Option Done) → Opens files from source
    → IfSome source (λ bytes. CountsAs plan bytes done) → IfSome (bytes_of files from) (λ bytes. CountsAs plan bytes done)
counts_file plan files from source done opens all = of_file files from source _ opens all

pub rose_later : (a b c d : ℕ) → a ≡ b → Rose b c → c ≤ d → Rose a d
rose_later a b c d same rose later = omega arith

pub rose_before : (a b c d : ℕ) → a ≡ b → b ≤ c → Rose c d → Rose a d
rose_before a b c d same before rose = omega arith

-- a read that failed fails the close
pub closed : (plan : Plan) (files : Folders) (from : List ℕ) (source : Option (List ℕ)) (R N : Type 0) (reads reads_new : ℕ)
    (faults faults_open faults_mid faults_new : ℕ) (done result : Result Made Stop)
    → Opens files from source → EndsSo IsLack done result → reads ≡ 0 → faults_open ≡ faults → faults_open ≤ faults_mid → faults_mid ≤ faults_new
    → (Rose 0 reads_new → Rose faults_mid faults_new)
    → IfSome source (λ bytes. CanConvert plan bytes → (Rose reads reads_new → ⊥) → R → N → (Rose faults_open faults_mid → ⊥) → IfErr done IsLack)
    → IfSome (bytes_of files from) (λ bytes. CanConvert plan bytes → R → N → (Rose faults faults_new → ⊥) → IfErr result IsLack)
closed plan files from source R N reads reads_new faults faults_open faults_mid faults_new done result
    opens so zero same before later told complete =
    of_file files from source _ opens (mapped source _ _ (λ bytes each can no_report named no_fault.
    lack_of IsLack done result so (each can
    (λ rose. no_fault (rose_before faults faults_open faults_mid faults_new (sym same) before (told (rose_same reads 0 reads_new reads_new zero refl rose))))
    no_report named
    (λ rose. no_fault (rose_later faults faults_open faults_mid faults_new (sym same) rose later)))) complete)

-- a file that was not opened
pub not_opened : (left : Option (List ℕ)) (Can : List ℕ → Type 0) (A B C : Type 0) (files files_new : ℕ) → Rose files files_new
    → IfSome left (λ bytes. Can bytes → A → B → (Rose files files_new → ⊥) → C)
not_opened left Can A B C files files_new rose = always left _ (λ bytes can a b none. absurd (none rose))

-- ---- a cause that the bytes or the names decide

-- a conversion that was begun has a task
pub none_begun : (plan : Plan) (source left : Option (List ℕ)) (task : Task) (A : Type 0) (P : List ℕ → Type 0) → IsBegun plan source left task
    → IfSome source (λ bytes. task_under plan bytes ≡ None → A → P bytes)
none_begun plan None left task A P is = tt
none_begun plan (Some bytes) left task A P (reads, asks) = λ none a. absurd (let no : Some task ≡ None = sym asks ∙ none in cc)

unconverted_told : (kind : Kind) (done : Result Made Stop) (read : Option FileFault) → IsUnconverted kind done → IsUnconverted kind (decided_by done read)
unconverted_told kind (Ok made) read never = absurd never
unconverted_told kind (Err stop) read (inl is) = subst (λ (s : Stop). IsUnconverted kind (decided_by (Err s) read)) (sym is) (inl refl)
unconverted_told kind (Err stop) read (inr is) = subst (λ (s : Stop). IsUnconverted kind (decided_by (Err s) read)) (sym is) (inr refl)

-- what is so of the bytes of the source is so of those of the file, and a read that failed fails the close
pub closed_none : (plan : Plan) (files : Folders) (from : List ℕ) (source : Option (List ℕ)) (reads reads_new : ℕ)
    (faults faults_open faults_mid faults_new : ℕ) (done result : Result Made Stop) (read : Option FileFault)
    → Opens files from source → result ≡ decided_by done read → reads ≡ 0 → faults_open ≡ faults → faults_open ≤ faults_mid
    → (Rose 0 reads_new → Rose faults_mid faults_new)
    → IfSome source (λ bytes. task_under plan bytes ≡ None → (Rose reads reads_new → ⊥) → IsUnconverted (kind_under plan bytes) done)
    → IfSome (bytes_of files from) (λ bytes. task_under plan bytes ≡ None → (Rose faults faults_new → ⊥)
    → IsUnconverted (kind_under plan bytes) result)
closed_none plan files from source reads reads_new faults faults_open faults_mid faults_new done result read opens is zero same before told each =
    of_file files from source _ opens (mapped source _ _ (λ bytes why none no_fault.
    subst (IsUnconverted (kind_under plan bytes)) (sym is) (unconverted_told (kind_under plan bytes) done read (why none
    (λ rose. no_fault (rose_before faults faults_open faults_mid faults_new (sym same) before (told (rose_same reads 0 reads_new reads_new zero refl rose))))))) each)

pub not_opened_none : (left : Option (List ℕ)) (Can C : List ℕ → Type 0) (files files_new : ℕ) → Rose files files_new
    → IfSome left (λ bytes. Can bytes → (Rose files files_new → ⊥) → C bytes)
not_opened_none left Can C files files_new rose = always left _ (λ bytes can none. absurd (none rose))

-- what was opened is there
pub not_missing : (files : Folders) (from : List ℕ) (source : Option (List ℕ)) (A : Type 0) → Opens files from source → IsMissing files from → A
not_missing None from source A opens never = absurd never
not_missing (Some files) from source A (bytes, there, has) none = absurd (let no : Some bytes ≡ None = sym there ∙ none in cc)
