-- The contract of a run: what it writes and reports of its input, and how it ended.
use Rattle.std.specs.Prelude.{◌≡◌, ◌<◌, ◌⊎◌, ℕ, Bool, true, false, List, [], length, Option, None, Some, Result, Ok, Err, IfSome, IsSome, IsTrue, if◌then◌else◌}
use Rattle.std.specs.Io.KnownBytes.{Appends, Consumes, IsAtEnd}
use Rattle.nav_io.specs.Causes.{Rose}
use Rattle.nav_io.specs.Prefix.{AppendsPrefix, IsPrefix}
use Rattle.one_run.specs.Causes.{Faults, HasItsCause, faults_of}
use Rattle.one_run.specs.declared.fault.BridgeFault.{BridgeFault}
use Rattle.one_run.specs.declared.fault.BridgeFault.TheVariants.{ReadFault, WriteFault, ReportFault, NotThisForm, TooLong, NoMemory}

-- what is written and reported of some bytes
pub record Texts : Type 0 where
  pub output : List ℕ → List ℕ
  pub report : List ℕ → List ℕ

-- what a run makes of its input
pub record Meaning (C : Type 0) : Type 0 where
  -- whether it reads the input
  pub reads : Bool
  -- whether it writes to the report
  pub reports : Bool
  -- whether it allocates memory
  pub memory : Bool
  -- the number of bytes at which an input is too long
  pub limit : ℕ
  -- what it counts in the bytes; none if they do not begin as the format requires
  pub counts : List ℕ → Option C
  -- what it writes and reports of a complete input
  pub whole : Texts
  -- what it reports of a complete input before the counts
  pub rejections : List ℕ → List ℕ
  -- what it has written and reported at least once these bytes were read, whatever fails
  pub least : Texts
  -- exactly what is written and reported of bytes before more is read, if the meaning determines it
  pub flushed : Option Texts

-- nothing: the least output or report if no more is guaranteed
abbrev pub no_least : List ℕ → List ℕ
no_least bytes = []

-- known bytes grew by a prefix of whole that has least as a prefix
pub record AppendsBetween (old new : Option (List ℕ)) (least whole : List ℕ) : Type 0 where
  pub prefix : List ℕ
  pub within : IsPrefix prefix whole
  pub no_less : IsPrefix least prefix
  pub grew : Appends old new prefix

-- known bytes grew by a text that begins with this one
abbrev pub AppendsAll : Option (List ℕ) → Option (List ℕ) → List ℕ → Type 0
AppendsAll old new text = (all : List ℕ) × IsPrefix text all × Appends old new all

-- Input, output and report as a run sees them: the objects, the bytes known of them, whether the
-- input is known not to fail, and the counts of errors.
pub record World (S T U : Type 0) : Type 0 where
  pub input : S
  pub output : T
  pub report : U
  pub left : Option (List ℕ)
  pub never_fails : Bool
  pub written : Option (List ℕ)
  pub reported : Option (List ℕ)
  pub reads_failed : ℕ
  pub writes_failed : ℕ
  pub reports_failed : ℕ

-- the three objects, each with what is known of it
abbrev pub world : {S T U : Type 0} → S → Option (List ℕ) → Bool → ℕ → T → Option (List ℕ) → ℕ → U → Option (List ℕ) → ℕ → World S T U
world input left never_fails reads_failed output written writes_failed report reported reports_failed = record {
  input = input;
  output = output;
  report = report;
  left = left;
  never_fails = never_fails;
  written = written;
  reported = reported;
  reads_failed = reads_failed;
  writes_failed = writes_failed;
  reports_failed = reports_failed;
}

-- the bytes that a run has to read, if they are known; empty for a run that reads nothing
abbrev pub bytes_for : {C S T U : Type 0} → Meaning C → World S T U → Option (List ℕ)
bytes_for m w = if m.reads then w.left else Some []

-- the bytes are known, and begin as the run's format requires
abbrev pub Accepts : {C S T U : Type 0} → Meaning C → World S T U → Type 0
Accepts m before = IfSome (bytes_for m before) (λ bytes. IsSome (m.counts bytes))

-- the bytes are known, and do not
abbrev pub Refuses : {C S T U : Type 0} → Meaning C → World S T U → Type 0
Refuses m before = IfSome (bytes_for m before) (λ bytes. m.counts bytes ≡ None)

-- the counts of errors of the three objects
abbrev pub faults_in : {S T U : Type 0} → World S T U → Faults
faults_in w = faults_of w.reads_failed w.writes_failed w.reports_failed

-- what was written and reported is a prefix of what the complete input gives, unread bytes included
abbrev pub IsAheadOf : Texts → Option (List ℕ) → Option (List ℕ) → Option (List ℕ) → Option (List ℕ) → Option (List ℕ) → Type 0
IsAheadOf whole input written written_new reported reported_new =
    IfSome input (λ bytes. AppendsPrefix written written_new (whole.output bytes) × AppendsPrefix reported reported_new (whole.report bytes))

-- output and report stop at one place: of each beginning of the input both have all that it decides, or neither has more
abbrev pub StopAtOnePlace : Option Texts → Option (List ℕ) → Option (List ℕ) → Option (List ℕ) → Option (List ℕ) → Option (List ℕ) → Type 0
StopAtOnePlace None input written written_new reported reported_new = Unit {0}
StopAtOnePlace (Some decided) input written written_new reported reported_new =
    IfSome input (λ bytes. (front : List ℕ) → IsPrefix front bytes
    → (AppendsAll written written_new (decided.output front) × AppendsAll reported reported_new (decided.report front))
    ⊎ (AppendsPrefix written written_new (decided.output front) × AppendsPrefix reported reported_new (decided.report front)))

-- no counts were reported, or the report failed after the input was read to its end and the whole output written
abbrev pub CountsAreLast : {C S T U : Type 0} → Meaning C → List ℕ → World S T U → World S T U → BridgeFault → Type 0
CountsAreLast m taken before after fault =
    IfSome (bytes_for m before) (λ bytes. AppendsPrefix before.reported after.reported (m.rejections bytes))
    ⊎ ((fault ≡ ReportFault) × IsAtEnd (bytes_for m after) × Appends before.written after.written (m.whole.output taken))

-- an object that the run does not use is unchanged
pub record Leaves {C S T U : Type 0} (m : Meaning C) (before after : World S T U) : Type 0 where
  pub unread : m.reads ≡ false → after.input ≡ before.input
  pub silent : m.reports ≡ false → after.report ≡ before.report

-- The run is done: the input was read to its end, nothing failed, and its bytes were counted, written and reported.
pub record IsDone {C S T U : Type 0} (m : Meaning C) (before after : World S T U) (counts : C) : Type 0 where
  pub taken : List ℕ
  pub consumes : Consumes (bytes_for m before) (bytes_for m after) taken
  pub end : IsAtEnd (bytes_for m after)
  pub fits : length taken < m.limit
  pub counted : m.counts taken ≡ Some counts
  pub text : Appends before.written after.written (m.whole.output taken)
  pub told : Appends before.reported after.reported (m.whole.report taken)
  pub leaves : Leaves m before after
  pub reads : after.reads_failed ≡ before.reads_failed
  pub writes : after.writes_failed ≡ before.writes_failed
  pub reports : after.reports_failed ≡ before.reports_failed

-- exactly what was written and reported of the bytes read when a read fails, if the meaning determines it
abbrev pub Flushes : {S T U : Type 0} → Option Texts → List ℕ → World S T U → World S T U → Type 0
Flushes None taken before after = Unit {0}
Flushes (Some texts) taken before after =
    Appends before.written after.written (texts.output taken) × Appends before.reported after.reported (texts.report taken)

-- what each error means for a run that read these bytes
abbrev pub Says : {C S T U : Type 0} → Meaning C → List ℕ → World S T U → World S T U → BridgeFault → Type 0
Says m taken before after ReadFault =
    (m.reads ≡ true) × Rose before.reads_failed after.reads_failed × (IsTrue before.never_fails → ⊥) × Flushes m.flushed taken before after
Says m taken before after WriteFault = Rose before.writes_failed after.writes_failed × Accepts m before
Says m taken before after ReportFault = (m.reports ≡ true) × Rose before.reports_failed after.reports_failed × Accepts m before
Says m taken before after NotThisForm =
    (m.counts taken ≡ None) × Refuses m before × (after.output ≡ before.output) × (after.report ≡ before.report)
Says m taken before after TooLong = length taken ≡ m.limit
Says m taken before after NoMemory = (m.memory ≡ true) × Accepts m before × (length taken < m.limit)

-- The run ended early with an error: a prefix of the output of the bytes read was written, and a
-- prefix of their report, neither less than its least; both are prefixes of what the complete input
-- gives. Both stop at one place, and counts are reported last. Nothing else failed.
pub record IsBroken {C S T U : Type 0} (m : Meaning C) (before after : World S T U) (fault : BridgeFault) : Type 0 where
  pub taken : List ℕ
  pub consumes : Consumes (bytes_for m before) (bytes_for m after) taken
  pub text : AppendsBetween before.written after.written (m.least.output taken) (m.whole.output taken)
  pub told : AppendsBetween before.reported after.reported (m.least.report taken) (m.whole.report taken)
  pub ahead : IsAheadOf m.whole (bytes_for m before) before.written after.written before.reported after.reported
  pub stopped : StopAtOnePlace m.flushed (bytes_for m before) before.written after.written before.reported after.reported
  pub counts_last : CountsAreLast m taken before after fault
  pub cause : HasItsCause {T = Unit {0}} (faults_in before) (faults_in after) (Err fault)
  pub leaves : Leaves m before after
  pub says : Says m taken before after fault

-- how a run of this meaning ended
abbrev pub Ended : {C S T U : Type 0} → Meaning C → World S T U → World S T U → Result C BridgeFault → Type 0
Ended m before after (Ok counts) = IsDone m before after counts
Ended m before after (Err fault) = IsBroken m before after fault

-- The same by what input, output and report state: the bytes left, whether no read fails, the bytes
-- written, and the counts of errors; then each object before and after.
abbrev pub Ran : {C S T U : Type 0} → Meaning C
    → (S → Option (List ℕ)) → (S → Bool) → (S → ℕ) → (T → Option (List ℕ)) → (T → ℕ) → (U → Option (List ℕ)) → (U → ℕ)
    → S → S → T → T → U → U → Result C BridgeFault → Type 0
Ran m left never_fails reads_failed written writes_failed reported reports_failed input input_new output output_new report report_new result =
    Ended m
    (world input (left input) (never_fails input) (reads_failed input) output (written output) (writes_failed output) report (reported report) (reports_failed report))
    (world input_new (left input_new) (never_fails input_new) (reads_failed input_new) output_new (written output_new) (writes_failed output_new)
    report_new (reported report_new) (reports_failed report_new)) result
