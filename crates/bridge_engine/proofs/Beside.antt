-- A run that is given no report, or no input, seen as one whose report or input stays unchanged.
use Rattle.std.proofs.Common.{◌≡◌, ◌⊎◌, inl, inr, ℕ, Bool, false, true, List, [], Option, None, Some, Result, Ok, Err, refl, sym, ap, subst, ◌∙◌}
use Rattle.std.specs.Prelude.{IfSome, IsSome, OnErr, if◌then◌else◌}
use Rattle.std.specs.Io.KnownBytes.{Appends, Consumes, IsAtEnd}
use Rattle.std.proofs.KnownBytes.{Appends-nil}
use Rattle.one_run.specs.declared.fault.BridgeFault.{BridgeFault}
use Rattle.one_run.specs.declared.fault.BridgeFault.TheVariants.{ReadFault, WriteFault, ReportFault, NotThisForm, TooLong, NoMemory}
use Rattle.nav_io.specs.Prefix.{AppendsPrefix, IsPrefix}
use Rattle.one_run.specs.Causes.{Faults, HasItsCause}
use Rattle.one_run.specs.Runs.{AppendsAll, AppendsBetween, CountsAreLast, Ended, IsAheadOf, Meaning, Says, StopAtOnePlace, Flushes, Texts, World, bytes_for, faults_in, world}
use Rattle.one_run.proofs.Surface.{no_prefix, none_failed, nothing_told, prefix_nil, read_failed, report_failed, write_failed}

no_such : (b : Bool) → b ≡ true → b ≡ false → ⊥
no_such b is not = cc

-- ---- a report

-- the same input and output together with a report
abbrev pub with_report : {S T U V : Type 0} → World S T V → U → Option (List ℕ) → ℕ → World S T U
with_report w report reported failed = world w.input w.left w.never_fails w.reads_failed w.output w.written w.writes_failed report reported failed

-- nothing is known to be reported
abbrev pub IsSilent : {S T V : Type 0} → World S T V → Type 0
IsSilent w = w.reported ≡ Some []

-- so nothing is reported
no_text : (o o' : Option (List ℕ)) (text : List ℕ) → o ≡ Some [] → o' ≡ Some [] → Appends o o' text → text ≡ []
no_text o o' text is is' grew = sym (subst (λ (x : Option (List ℕ)). Appends (Some []) x text) is' (subst (λ (x : Option (List ℕ)). Appends x o' text) is grew))

told_none : (o o' : Option (List ℕ)) (text : List ℕ) (u : Option (List ℕ)) → o ≡ Some [] → o' ≡ Some [] → Appends o o' text → Appends u u text
told_none o o' text u is is' grew = subst (Appends u u) (sym (no_text o o' text is is' grew)) (Appends-nil u)

-- nor need be more
between_none : (o o' : Option (List ℕ)) (least whole : List ℕ) (u : Option (List ℕ)) → o ≡ Some [] → o' ≡ Some [] → AppendsBetween o o' least whole → AppendsBetween u u least whole
between_none o o' least whole u is is' grew = record {
  prefix = [];
  within = prefix_nil whole;
  no_less = subst (IsPrefix least) (no_text o o' grew.prefix is is' grew.grew) grew.no_less;
  grew = Appends-nil u;
}

flushes_beside : {S T U V : Type 0} (o : Option Texts) (taken : List ℕ) (b a : World S T V) (report : U) (u : Option (List ℕ)) (failed : ℕ) → IsSilent b → IsSilent a
    → Flushes o taken b a → Flushes o taken (with_report b report u failed) (with_report a report u failed)
flushes_beside None taken b a report u failed before after says = tt
flushes_beside (Some texts) taken b a report u failed before after says = (says.0, told_none b.reported a.reported (texts.report taken) u before after says.1)

says_beside : {C S T U V : Type 0} (m : Meaning C) (taken : List ℕ) (b a : World S T V) (report : U) (u : Option (List ℕ)) (failed : ℕ) (fault : BridgeFault)
    → m.reports ≡ false → IsSilent b → IsSilent a → Says m taken b a fault → Says m taken (with_report b report u failed) (with_report a report u failed) fault
says_beside m taken b a report u failed ReadFault none before after says = (says.0, says.1, says.2, flushes_beside m.flushed taken b a report u failed before after says.3)
says_beside m taken b a report u failed WriteFault none before after says = says
says_beside m taken b a report u failed ReportFault none before after says = absurd (no_such m.reports says.0 none)
says_beside m taken b a report u failed NotThisForm none before after says = (says.0, says.1, says.2, refl)
says_beside m taken b a report u failed TooLong none before after says = says
says_beside m taken b a report u failed NoMemory none before after says = says

ahead_beside : (whole : Texts) (o w w' v v' u : Option (List ℕ)) → IsAheadOf whole o w w' v v' → IsAheadOf whole o w w' u u
ahead_beside whole None w w' v v' u h = tt
ahead_beside whole (Some bytes) w w' v v' u h = (h.0, no_prefix u (whole.report bytes))

-- output and report still stop at one place: nothing is decided of the report that is nowhere
all_none : (o o' : Option (List ℕ)) (text : List ℕ) (u : Option (List ℕ)) → o ≡ Some [] → o' ≡ Some [] → AppendsAll o o' text → AppendsAll u u text
all_none o o' text u is is' (all, begins, grew) = ([], subst (IsPrefix text) (no_text o o' all is is' grew) begins, Appends-nil u)

stopped_beside : (decided : Option Texts) (o w w' v v' u : Option (List ℕ)) → v ≡ Some [] → v' ≡ Some [] → StopAtOnePlace decided o w w' v v' → StopAtOnePlace decided o w w' u u
stopped_beside None o w w' v v' u is is' h = tt
stopped_beside (Some decided) None w w' v v' u is is' h = tt
stopped_beside (Some decided) (Some bytes) w w' v v' u is is' h = λ front begins. by front (h front begins)
  where
    by : (front : List ℕ) → (AppendsAll w w' (decided.output front) × AppendsAll v v' (decided.report front)) ⊎ (AppendsPrefix w w' (decided.output front) × AppendsPrefix v v' (decided.report front))
        → (AppendsAll w w' (decided.output front) × AppendsAll u u (decided.report front)) ⊎ (AppendsPrefix w w' (decided.output front) × AppendsPrefix u u (decided.report front))
    by front (inl both) = inl (both.0, all_none v v' (decided.report front) u is is' both.1)
    by front (inr neither) = inr (neither.0, no_prefix u (decided.report front))

quiet_beside : {S T U V : Type 0} (b a : World S T V) (report : U) (u : Option (List ℕ)) (failed : ℕ) → faults_in a ≡ faults_in b
    → faults_in (with_report a report u failed) ≡ faults_in (with_report b report u failed)
quiet_beside b a report u failed quiet =
    none_failed (with_report b report u failed) (with_report a report u failed) (ap (λ (f : Faults). f.input) quiet) (ap (λ (f : Faults). f.output) quiet) refl

cause_beside : {C S T U V : Type 0} (m : Meaning C) (taken : List ℕ) (b a : World S T V) (report : U) (u : Option (List ℕ)) (failed : ℕ) (fault : BridgeFault)
    → m.reports ≡ false → Says m taken b a fault → HasItsCause {T = Unit {0}} (faults_in b) (faults_in a) (Err fault)
    → HasItsCause {T = Unit {0}} (faults_in (with_report b report u failed)) (faults_in (with_report a report u failed)) (Err fault)
cause_beside m taken b a report u failed ReadFault none says cause =
    read_failed (with_report b report u failed) (with_report a report u failed) cause.0 (ap (λ (f : Faults). f.output) cause.1) refl
cause_beside m taken b a report u failed WriteFault none says cause =
    write_failed (with_report b report u failed) (with_report a report u failed) cause.0 (ap (λ (f : Faults). f.input) cause.1) refl
cause_beside m taken b a report u failed ReportFault none says cause = absurd (no_such m.reports says.0 none)
cause_beside m taken b a report u failed NotThisForm none says cause = quiet_beside b a report u failed cause
cause_beside m taken b a report u failed TooLong none says cause = quiet_beside b a report u failed cause
cause_beside m taken b a report u failed NoMemory none says cause = quiet_beside b a report u failed cause

pub beside_report : {C S T U V : Type 0} (m : Meaning C) (b a : World S T V) (report : U) (u : Option (List ℕ)) (failed : ℕ) (r : Result C BridgeFault)
    → m.reports ≡ false → IsSilent b → IsSilent a → Ended m b a r → Ended m (with_report b report u failed) (with_report a report u failed) r
beside_report m b a report u failed (Ok counts) none before after done = record {
  taken = done.taken;
  consumes = done.consumes;
  end = done.end;
  fits = done.fits;
  counted = done.counted;
  text = done.text;
  told = told_none b.reported a.reported (m.whole.report done.taken) u before after done.told;
  leaves = record { unread = done.leaves.unread; silent = λ same. refl };
  reads = done.reads;
  writes = done.writes;
  reports = refl;
}
beside_report m b a report u failed (Err fault) none before after broke = record {
  taken = broke.taken;
  consumes = broke.consumes;
  text = broke.text;
  told = between_none b.reported a.reported (m.least.report broke.taken) (m.whole.report broke.taken) u before after broke.told;
  ahead = ahead_beside m.whole (bytes_for m b) b.written a.written b.reported a.reported u broke.ahead;
  stopped = stopped_beside m.flushed (bytes_for m b) b.written a.written b.reported a.reported u before after broke.stopped;
  counts_last = inl (nothing_told m.rejections (bytes_for m b) u u refl);
  cause = cause_beside m broke.taken b a report u failed fault none broke.says broke.cause;
  leaves = record { unread = broke.leaves.unread; silent = λ same. refl };
  says = says_beside m broke.taken b a report u failed fault none before after broke.says;
}

-- ---- an input

-- the same output and report together with an input
abbrev pub with_input : {R S T U : Type 0} → World R T U → S → Option (List ℕ) → Bool → ℕ → World S T U
with_input w input left never failed = world input left never failed w.output w.written w.writes_failed w.report w.reported w.reports_failed

-- a run that reads nothing has no bytes to read, whatever the input
none_for : {C R S T U : Type 0} (m : Meaning C) (v : World R T U) (w : World S T U) → m.reads ≡ false → bytes_for m v ≡ bytes_for m w
none_for m v w none =
    ap (λ (x : Bool). if x then v.left else Some []) none ∙ sym (ap (λ (x : Bool). if x then w.left else Some []) none)

says_of_none : {C R S T U : Type 0} (m : Meaning C) (taken : List ℕ) (b a : World R T U) (input : S) (left : Option (List ℕ)) (never : Bool) (failed : ℕ) (fault : BridgeFault)
    → m.reads ≡ false → Says m taken b a fault → Says m taken (with_input b input left never failed) (with_input a input left never failed) fault
says_of_none m taken b a input left never failed ReadFault none says = absurd (no_such m.reads says.0 none)
says_of_none m taken b a input left never failed WriteFault none says =
    (says.0, subst (λ (o : Option (List ℕ)). IfSome o (λ bytes. IsSome (m.counts bytes))) (none_for m b (with_input b input left never failed) none) says.1)
says_of_none m taken b a input left never failed ReportFault none says =
    (says.0, says.1, subst (λ (o : Option (List ℕ)). IfSome o (λ bytes. IsSome (m.counts bytes))) (none_for m b (with_input b input left never failed) none) says.2)
says_of_none m taken b a input left never failed NotThisForm none says =
    (says.0, subst (λ (o : Option (List ℕ)). IfSome o (λ bytes. m.counts bytes ≡ None)) (none_for m b (with_input b input left never failed) none) says.1, says.2, says.3)
says_of_none m taken b a input left never failed TooLong none says = says
says_of_none m taken b a input left never failed NoMemory none says =
    (says.0, subst (λ (o : Option (List ℕ)). IfSome o (λ bytes. IsSome (m.counts bytes))) (none_for m b (with_input b input left never failed) none) says.1, says.2)

counts_last_of_none : {C R S T U : Type 0} (m : Meaning C) (taken : List ℕ) (b a : World R T U) (input : S) (left : Option (List ℕ)) (never : Bool) (failed : ℕ) (fault : BridgeFault)
    → m.reads ≡ false → CountsAreLast m taken b a fault → CountsAreLast m taken (with_input b input left never failed) (with_input a input left never failed) fault
counts_last_of_none m taken b a input left never failed fault none (inl no_counts) =
    inl (subst (λ (o : Option (List ℕ)). IfSome o (λ bytes. AppendsPrefix b.reported a.reported (m.rejections bytes))) (none_for m b (with_input b input left never failed) none) no_counts)
counts_last_of_none m taken b a input left never failed fault none (inr last) =
    inr (last.0, subst IsAtEnd (none_for m a (with_input a input left never failed) none) last.1, last.2)

quiet_of_none : {R S T U : Type 0} (b a : World R T U) (input : S) (left : Option (List ℕ)) (never : Bool) (failed : ℕ) → faults_in a ≡ faults_in b
    → faults_in (with_input a input left never failed) ≡ faults_in (with_input b input left never failed)
quiet_of_none b a input left never failed quiet =
    none_failed (with_input b input left never failed) (with_input a input left never failed) refl (ap (λ (f : Faults). f.output) quiet) (ap (λ (f : Faults). f.report) quiet)

cause_of_none : {C R S T U : Type 0} (m : Meaning C) (taken : List ℕ) (b a : World R T U) (input : S) (left : Option (List ℕ)) (never : Bool) (failed : ℕ) (fault : BridgeFault)
    → m.reads ≡ false → Says m taken b a fault → HasItsCause {T = Unit {0}} (faults_in b) (faults_in a) (Err fault)
    → HasItsCause {T = Unit {0}} (faults_in (with_input b input left never failed)) (faults_in (with_input a input left never failed)) (Err fault)
cause_of_none m taken b a input left never failed ReadFault none says cause = absurd (no_such m.reads says.0 none)
cause_of_none m taken b a input left never failed WriteFault none says cause =
    write_failed (with_input b input left never failed) (with_input a input left never failed) cause.0 refl (ap (λ (f : Faults). f.report) cause.1)
cause_of_none m taken b a input left never failed ReportFault none says cause =
    report_failed (with_input b input left never failed) (with_input a input left never failed) cause.0 refl (ap (λ (f : Faults). f.output) cause.1)
cause_of_none m taken b a input left never failed NotThisForm none says cause = quiet_of_none b a input left never failed cause
cause_of_none m taken b a input left never failed TooLong none says cause = quiet_of_none b a input left never failed cause
cause_of_none m taken b a input left never failed NoMemory none says cause = quiet_of_none b a input left never failed cause

consumes_none : {C R S T U : Type 0} (m : Meaning C) (v v' : World R T U) (w w' : World S T U) (taken : List ℕ) → m.reads ≡ false
    → Consumes (bytes_for m v) (bytes_for m v') taken → Consumes (bytes_for m w) (bytes_for m w') taken
consumes_none m v v' w w' taken none takes =
    subst (λ (o : Option (List ℕ)). Consumes o (bytes_for m w') taken) (none_for m v w none) (subst (λ (o : Option (List ℕ)). Consumes (bytes_for m v) o taken) (none_for m v' w' none) takes)

pub beside_input : {C R S T U : Type 0} (m : Meaning C) (b a : World R T U) (input : S) (left : Option (List ℕ)) (never : Bool) (failed : ℕ) (r : Result C BridgeFault)
    → m.reads ≡ false → Ended m b a r → Ended m (with_input b input left never failed) (with_input a input left never failed) r
beside_input m b a input left never failed (Ok counts) none done = record {
  taken = done.taken;
  consumes = consumes_none m b a (with_input b input left never failed) (with_input a input left never failed) done.taken none done.consumes;
  end = subst IsAtEnd (none_for m a (with_input a input left never failed) none) done.end;
  fits = done.fits;
  counted = done.counted;
  text = done.text;
  told = done.told;
  leaves = record { unread = λ same. refl; silent = done.leaves.silent };
  reads = refl;
  writes = done.writes;
  reports = done.reports;
}
beside_input m b a input left never failed (Err fault) none broke = record {
  taken = broke.taken;
  consumes = consumes_none m b a (with_input b input left never failed) (with_input a input left never failed) broke.taken none broke.consumes;
  text = broke.text;
  told = broke.told;
  ahead = subst (λ (o : Option (List ℕ)). IsAheadOf m.whole o b.written a.written b.reported a.reported) (none_for m b (with_input b input left never failed) none) broke.ahead;
  stopped = subst (λ (o : Option (List ℕ)). StopAtOnePlace m.flushed o b.written a.written b.reported a.reported) (none_for m b (with_input b input left never failed) none) broke.stopped;
  counts_last = counts_last_of_none m broke.taken b a input left never failed fault none broke.counts_last;
  cause = cause_of_none m broke.taken b a input left never failed fault none broke.says broke.cause;
  leaves = record { unread = λ same. refl; silent = broke.leaves.silent };
  says = says_of_none m broke.taken b a input left never failed fault none broke.says;
}

-- what does not depend on the bytes holds whatever they are
pub whatever_bytes : {C : Type 0} (P : Type 0) (o : Option (List ℕ)) (r : Result C BridgeFault) → OnErr r P → OnErr r (IfSome o (λ bytes. P))
whatever_bytes P o (Ok counts) h = tt
whatever_bytes P None (Err fault) h = tt
whatever_bytes P (Some bytes) (Err fault) h = h
