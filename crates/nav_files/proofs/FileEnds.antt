-- How a run over a file ends: in the header, after it, after its records, or well. What is written, reported and counted of the
-- records is the job's.
use Rattle.std.proofs.Common.{◌≡◌, ◌⊎◌, inl, inr, ◌^◌, ◌<◌, ℕ, Bool, true, false, List, [], ◌∷◌, ◌++◌, length, refl, sym, ap, subst, ◌∙◌, arith, append_assoc, append-nil, length-append}
use Rattle.std.specs.Prelude.{Option, None, Some, Result, Ok, Err, IfSome, IsSome, IsTrue, IsErrOf}
use Rattle.std.specs.List.{flat_map}
use Rattle.std.specs.Io.KnownBytes.{Appends, IsAtEnd}
use Rattle.std.proofs.KnownBytes.{Appends-nil, Consumes-trans}
use Rattle.std.proofs.lemmas.Grind.{flat_map-append}
use Rattle.nav_io.specs.Causes.{Rose}
use Rattle.nav_io.specs.Prefix.{AppendsPrefix, IsPrefix}
use Rattle.rinex_read.specs.Forms.{Form}
use Rattle.rinex_read.specs.Files.{BeginWith, but_last, early_reads, file_reads, whole_reads}
use Rattle.rinex_read.specs.Lines.{lines_stated}
use Rattle.rinex_read.specs.States.{AreEarly, NearSteps, RecordsState, Steps, HeaderSteps, PassesHeader, IsNew, IsPaused, MayCome, file_by, file_to_come, is_waiting, records_to_come}
use Rattle.rinex_read.specs.declared.judged.HeaderState.{HeaderState}
use Rattle.rinex_read.specs.declared.judged.HeaderState.TheVariants.{NotRinexNav, OtherVersion, Passed}
use Rattle.rinex_read.specs.declared.judged.HeaderFault.{HeaderFault}
use Rattle.one_run.specs.declared.fault.BridgeFault.{BridgeFault}
use Rattle.one_run.specs.declared.fault.BridgeFault.TheVariants.{ReadFault, WriteFault, ReportFault, NotThisForm, TooLong, NoMemory}
use Rattle.one_run.specs.Causes.{Faults, HasItsCause, faults_of}
use Rattle.one_run.specs.Runs.{AppendsBetween, IsBroken, CountsAreLast, IsDone, IsAheadOf, Leaves, Meaning, Says, StopAtOnePlace, World, faults_in}
use Rattle.one_run.proofs.Surface.{ahead_at_end, ahead_by, all_of, between, between_within, no_prefix, none_failed, nothing_ahead, nothing_stopped, nothing_told, prefix_nil, prefix_of, prefix_within, read_failed, report_failed, taken_all, with_rest, write_failed}
use Rattle.nav_files.specs.Files.{counted_in, file_meaning, text_before, text_in}
use Rattle.nav_files.specs.Mirrors.{HeaderFaultOf, NoHeader}
use Rattle.nav_files.specs.Taken.{AtEnd}
use Rattle.nav_files.proofs.RecordLemmas.{AreNear}
use Rattle.nav_files.proofs.TakenLemmas.{least_all, least_before}
use Rattle.nav_files.proofs.Stopping.{Firsts, Grows, stopped_after, stopped_before, stopped_in}
use Rattle.nav_files.proofs.FileLemmas.{Begins, Earlies, NoEarlies, Opens, Wholes, ends_there, file_prefix, file_taken, file_whole, none_left}

-- ---- what failed

-- what failed after the header, and nothing else
pub record Fails {S T U : Type 0} (b a : World S T U) (fault : BridgeFault) : Type 0 where
  pub cause : HasItsCause {T = Unit {0}} (faults_in b) (faults_in a) (Err fault)
  pub never : fault ≡ ReadFault → IsTrue b.never_fails → ⊥
  pub form : fault ≡ NotThisForm → ⊥

-- the cause of a call that broke off
abbrev pub Cause : Faults → Faults → BridgeFault → Type 0
Cause before now fault = HasItsCause {T = Unit {0}} before now (Err fault)

-- nothing had failed before
pub fails_of : {S T U : Type 0} (b a : World S T U) (fault : BridgeFault) (reads writes reports : ℕ)
    → reads ≡ b.reads_failed → writes ≡ b.writes_failed → reports ≡ b.reports_failed
    → HasItsCause {T = Unit {0}} (faults_of reads writes reports) (faults_of a.reads_failed a.writes_failed a.reports_failed) (Err fault)
    → (IsTrue b.never_fails → IsErrOf {T = Unit {0}} {E = BridgeFault} (Err fault) ReadFault → ⊥) → (fault ≡ NotThisForm → ⊥) → Fails b a fault
fails_of b a fault reads writes reports r w u cause never form = record {
  cause = subst (λ (n : ℕ). Cause (faults_of b.reads_failed b.writes_failed n) (faults_in a) fault) u
      (subst (λ (n : ℕ). Cause (faults_of b.reads_failed n reports) (faults_in a) fault) w
      (subst (λ (n : ℕ). Cause (faults_of n writes reports) (faults_in a) fault) r cause));
  never = λ is quiet. never quiet (ap Err is);
  form = form;
}

-- a write of the output failed, or one of the report
pub fails_write : {S T U : Type 0} (b a : World S T U) → Rose b.writes_failed a.writes_failed → a.reads_failed ≡ b.reads_failed → a.reports_failed ≡ b.reports_failed → Fails b a WriteFault
fails_write b a rose reads reports = record {
  cause = write_failed b a rose reads reports;
  never = λ is. absurd (let none : WriteFault ≡ ReadFault = is in cc);
  form = λ is. let none : WriteFault ≡ NotThisForm = is in cc;
}

pub fails_report : {S T U : Type 0} (b a : World S T U) → Rose b.reports_failed a.reports_failed → a.reads_failed ≡ b.reads_failed → a.writes_failed ≡ b.writes_failed → Fails b a ReportFault
fails_report b a rose reads writes = record {
  cause = report_failed b a rose reads writes;
  never = λ is. absurd (let none : ReportFault ≡ ReadFault = is in cc);
  form = λ is. let none : ReportFault ≡ NotThisForm = is in cc;
}

-- by the cause of reading the header
header_rose : (fault : BridgeFault) (reads reads_new : ℕ) → Cause (faults_of reads 0 0) (faults_of reads_new 0 0) fault → fault ≡ ReadFault → Rose reads reads_new
header_rose fault reads reads_new cause is = (subst (Cause (faults_of reads 0 0) (faults_of reads_new 0 0)) is cause).0

header_cause : {S T U : Type 0} (b a : World S T U) (fault : BridgeFault) (s : RecordsState) → HeaderFaultOf fault s → Cause (faults_of b.reads_failed 0 0) (faults_of a.reads_failed 0 0) fault
    → a.writes_failed ≡ b.writes_failed → a.reports_failed ≡ b.reports_failed → Cause (faults_in b) (faults_in a) fault
header_cause b a ReadFault s by cause writes reports = read_failed b a cause.0 writes reports
header_cause b a NotThisForm s by cause writes reports = none_failed b a (ap (λ (f : Faults). f.input) cause) writes reports
header_cause b a TooLong s by cause writes reports = none_failed b a (ap (λ (f : Faults). f.input) cause) writes reports
header_cause b a WriteFault s by cause writes reports = absurd by
header_cause b a ReportFault s by cause writes reports = absurd by
header_cause b a NoMemory s by cause writes reports = absurd by

-- ---- the header, whatever follows it

no_end : (s : RecordsState) → s.lines.ended ≡ false → s.lines.ended ≡ true → ⊥
no_end s more ended = cc

-- what is left may come
rest_comes : {R : Type 0} (f : Form R) (left left_new : Option (List ℕ)) (s0 s1 : RecordsState) → IsNew s0 → (steps : HeaderSteps f left left_new s0 s1)
    → (rest : List ℕ) → left_new ≡ Some rest → MayCome s1 rest
rest_comes f left left_new s0 s1 new steps rest is ended = at_end (steps.reads.at_end ended) where
  at_end : (s0.lines.ended ≡ true) ⊎ IsAtEnd left_new → rest ≡ []
  at_end (inl early) = absurd (no_end s0 new.ended early)
  at_end (inr end) = subst IsAtEnd is end

-- what is read of all bytes, and of those that were taken
all_reads : {R : Type 0} (f : Form R) (left left_new : Option (List ℕ)) (s0 s1 : RecordsState) (P : Result (List R) HeaderFault → Type 0)
    → Begins f → IsNew s0 → HeaderSteps f left left_new s0 s1 → ((following : List ℕ) → P (file_to_come f s1 following)) → IfSome left (λ bytes. P (file_reads f bytes))
all_reads f left left_new s0 s1 P begins new steps each =
    with_rest left left_new steps.reads.taken (λ bytes. P (file_reads f bytes)) steps.reads.consumes
    (λ rest is. subst P (sym (steps.stream rest (rest_comes f left left_new s0 s1 new steps rest is)) ∙ begins s0 (steps.reads.taken ++ rest) new) (each rest))

taken_reads : {R : Type 0} (f : Form R) (left left_new : Option (List ℕ)) (s0 s1 : RecordsState) (P : Result (List R) HeaderFault → Type 0)
    → Begins f → IsNew s0 → (steps : HeaderSteps f left left_new s0 s1) → ((following : List ℕ) → P (file_to_come f s1 following)) → P (file_reads f steps.reads.taken)
taken_reads f left left_new s0 s1 P begins new steps each =
    subst P (sym (steps.stream [] (λ ended. refl)) ∙ begins s0 (steps.reads.taken ++ []) new ∙ ap (file_reads f) (append-nil steps.reads.taken)) (each [])

-- the header is accepted
accepted : {C R : Type 0} (f : Form R) (count : List R → C) (left left_new : Option (List ℕ)) (s0 s1 : RecordsState) → Begins f → IsNew s0
    → PassesHeader f left left_new s0 s1 → IfSome left (λ bytes. IsSome (counted_in count (file_reads f bytes)))
accepted f count left left_new s0 s1 begins new header =
    all_reads f left left_new s0 s1 (λ r. IsSome (counted_in count r)) begins new header.steps
    (λ following. subst (λ (h : HeaderState). IsSome (counted_in count (file_by f h s1 (lines_stated (s1.lines.rest ++ following))))) (sym header.header) refl)

-- it is refused
refused : {C R : Type 0} (f : Form R) (count : List R → C) (s : RecordsState) → (s.header ≡ NotRinexNav) ⊎ (s.header ≡ OtherVersion)
    → (following : List ℕ) → counted_in count (file_to_come f s following) ≡ None
refused f count s (inl is) following = subst (λ (h : HeaderState). counted_in count (file_by f h s (lines_stated (s.lines.rest ++ following))) ≡ None) (sym is) refl
refused f count s (inr is) following = subst (λ (h : HeaderState). counted_in count (file_by f h s (lines_stated (s.lines.rest ++ following))) ≡ None) (sym is) refl

-- ---- the ends

-- the texts of records, and of more
pub texts_prefix : {X : Type 0} (text : X → List ℕ) (some more : List X) → IsPrefix (flat_map text some) (flat_map text (some ++ more))
texts_prefix text some more = (flat_map text more, flat_map-append text some more)

reading : {C S T U : Type 0} (m : Meaning C) (b a : World S T U) → m.reads ≡ true → m.reports ≡ true → Leaves m b a
reading m b a reads reports = record {
  unread = λ none. absurd (never m.reads reads none);
  silent = λ none. absurd (never m.reports reports none);
}
  where
    never : (is : Bool) → is ≡ true → is ≡ false → ⊥
    never is some none = cc

-- where a read failed, exactly what the records give that are whole in the bytes was written and reported
abbrev Flushed : {R S T U : Type 0} → Form R → (List R → List ℕ) → (List R → List ℕ) → List ℕ → World S T U → World S T U → BridgeFault → Type 0
Flushed f wrote tells taken b a fault =
    fault ≡ ReadFault → Appends b.written a.written (text_in wrote (whole_reads f taken)) × Appends b.reported a.reported (text_in tells (whole_reads f taken))

-- in the header there is none
flushed_header : {R S T U : Type 0} (f : Form R) (wrote tells : List R → List ℕ) (b a : World S T U) (s0 s1 : RecordsState) (fault : BridgeFault) → Opens f → IsNew s0
    → (steps : HeaderSteps f b.left a.left s0 s1) → HeaderFaultOf fault s1 → a.written ≡ b.written → a.reported ≡ b.reported → Flushed f wrote tells steps.reads.taken b a fault
flushed_header f wrote tells b a s0 s1 fault opens new steps by written reported is =
    let broke = subst (λ (x : BridgeFault). HeaderFaultOf x s1) is by in
    let none = opens b.left a.left s0 s1 new steps broke.0 (record { more = broke.1.0; none = broke.1.2 }) in (
      subst (λ (w : Option (List ℕ)). Appends b.written w (text_in wrote (whole_reads f steps.reads.taken))) (sym written)
          (subst (λ r. Appends b.written b.written (text_in wrote r)) (sym none) (Appends-nil b.written)),
      subst (λ (u : Option (List ℕ)). Appends b.reported u (text_in tells (whole_reads f steps.reads.taken))) (sym reported)
          (subst (λ r. Appends b.reported b.reported (text_in tells r)) (sym none) (Appends-nil b.reported)),
    )

-- after the header these records are complete
flushed_file : {R S T U : Type 0} (f : Form R) (wrote tells : List R → List ℕ) (b a : World S T U) (l1 : Option (List ℕ)) (s0 s1 s2 : RecordsState) (given : List R) (fault : BridgeFault)
    → Wholes f → IsNew s0 → (header : PassesHeader f b.left l1 s0 s1) → (steps : Steps f l1 a.left s1 s2 given)
    → (fault ≡ ReadFault → IsPaused s2 × Appends b.written a.written (wrote given) × Appends b.reported a.reported (tells given))
    → Flushed f wrote tells (header.steps.reads.taken ++ steps.reads.taken) b a fault
flushed_file f wrote tells b a l1 s0 s1 s2 given fault wholes new header steps exact is =
    let all = exact is in
    let whole = wholes b.left l1 a.left s0 s1 s2 given new header steps all.0 in (
      subst (λ r. Appends b.written a.written (text_in wrote r)) (sym whole) all.1,
      subst (λ r. Appends b.reported a.reported (text_in tells r)) (sym whole) all.2,
    )

says_header : {C R S T U : Type 0} (f : Form R) (memory : Bool) (wrote tells output report : List R → List ℕ) (count : List R → C) (b a : World S T U) (s0 s1 : RecordsState) (fault : BridgeFault)
    → Begins f → IsNew s0 → (steps : HeaderSteps f b.left a.left s0 s1) → HeaderFaultOf fault s1
    → (fault ≡ ReadFault → Rose b.reads_failed a.reads_failed) → (IsTrue b.never_fails → fault ≡ ReadFault → ⊥) → a.output ≡ b.output → a.report ≡ b.report
    → Flushed f wrote tells steps.reads.taken b a fault
    → Says (file_meaning f memory wrote tells output report count) steps.reads.taken b a fault
says_header f memory wrote tells output report count b a s0 s1 ReadFault begins new steps by rose never out told flushed = (refl, rose refl, (λ quiet. never quiet refl), flushed refl)
says_header f memory wrote tells output report count b a s0 s1 NotThisForm begins new steps by rose never out told flushed = (
  taken_reads f b.left a.left s0 s1 (λ r. counted_in count r ≡ None) begins new steps (refused f count s1 by),
  all_reads f b.left a.left s0 s1 (λ r. counted_in count r ≡ None) begins new steps (refused f count s1 by),
  out,
  told,
)
says_header f memory wrote tells output report count b a s0 s1 TooLong begins new steps by rose never out told flushed = omega (arith, new.taken, steps.reads.count, by.1)
says_header f memory wrote tells output report count b a s0 s1 WriteFault begins new steps by rose never out told flushed = absurd by
says_header f memory wrote tells output report count b a s0 s1 ReportFault begins new steps by rose never out told flushed = absurd by
says_header f memory wrote tells output report count b a s0 s1 NoMemory begins new steps by rose never out told flushed = absurd by

-- a header with a fault was not passed
not_passed : (fault : BridgeFault) (s : RecordsState) → HeaderFaultOf fault s → s.header ≡ Passed → ⊥
not_passed ReadFault s by is = let none : is_waiting s.header ≡ false = ap is_waiting is in let waits : is_waiting s.header ≡ true = by.0 in cc
not_passed TooLong s by is = let none : is_waiting s.header ≡ false = ap is_waiting is in let waits : is_waiting s.header ≡ true = by.0 in cc
not_passed NotThisForm s (inl refused) is = let none : Passed ≡ NotRinexNav = sym is ∙ refused in cc
not_passed NotThisForm s (inr other) is = let none : Passed ≡ OtherVersion = sym is ∙ other in cc
not_passed WriteFault s by is = absurd by
not_passed ReportFault s by is = absurd by
not_passed NoMemory s by is = absurd by

-- nothing was written, and nothing is the least
between_none : (w w1 : Option (List ℕ)) (least whole : List ℕ) → w1 ≡ w → least ≡ [] → AppendsBetween w w1 least whole
between_none w w1 least whole same none = record {
  prefix = [];
  within = prefix_nil whole;
  no_less = subst (λ (l : List ℕ). IsPrefix l []) (sym none) (prefix_nil []);
  grew = subst (λ (x : Option (List ℕ)). Appends w x []) (sym same) (Appends-nil w);
}

-- the header is refused, or the input breaks off in it
pub broke_header : {C R S T U : Type 0} (f : Form R) (memory : Bool) (wrote tells output report : List R → List ℕ) (count : List R → C) (b a : World S T U) (s0 s1 : RecordsState) (fault : BridgeFault)
    → Begins f → Opens f → NoEarlies f → IsNew s0 → NoHeader f b.left a.left s0 s1 fault
    → Cause (faults_of b.reads_failed 0 0) (faults_of a.reads_failed 0 0) fault → a.writes_failed ≡ b.writes_failed → a.reports_failed ≡ b.reports_failed
    → (IsTrue b.never_fails → fault ≡ ReadFault → ⊥)
    → a.output ≡ b.output → a.report ≡ b.report → a.written ≡ b.written → a.reported ≡ b.reported
    → IsBroken (file_meaning f memory wrote tells output report count) b a fault
broke_header f memory wrote tells output report count b a s0 s1 fault begins opens none new broken cause writes reports never out told written reported =
    let rose = header_rose fault b.reads_failed a.reads_failed cause in
    let taken = broken.steps.reads.taken in
    let early = none b.left a.left s0 s1 new broken.steps broken.early (not_passed fault s1 broken.by) in
    let m = file_meaning f memory wrote tells output report count in record {
      taken = taken;
      consumes = broken.steps.reads.consumes;
      text = between_none b.written a.written _ _ written (ap (text_before wrote) early);
      told = between_none b.reported a.reported _ _ reported (ap (text_before tells) early);
      ahead = nothing_ahead m.whole b.left b.written a.written b.reported a.reported written reported;
      stopped = nothing_stopped m.flushed b.left b.written a.written b.reported a.reported written reported;
      counts_last = inl (nothing_told m.rejections b.left b.reported a.reported reported);
      cause = header_cause b a fault s1 broken.by cause writes reports;
      leaves = reading m b a refl refl;
      says = says_header f memory wrote tells output report count b a s0 s1 fault begins new broken.steps broken.by rose never out told
          (flushed_header f wrote tells b a s0 s1 fault opens new broken.steps broken.by written reported);
    }

says_behind : {C R S T U : Type 0} (f : Form R) (memory : Bool) (wrote tells output report : List R → List ℕ) (count : List R → C) (b a : World S T U) (taken : List ℕ) (fault : BridgeFault)
    → IfSome b.left (λ bytes. IsSome (counted_in count (file_reads f bytes)))
    → Fails b a fault → (fault ≡ TooLong → length taken ≡ 2 ^ 32) → (fault ≡ NoMemory → (memory ≡ true) × (length taken < 2 ^ 32))
    → Flushed f wrote tells taken b a fault
    → Says (file_meaning f memory wrote tells output report count) taken b a fault
says_behind f memory wrote tells output report count b a taken ReadFault some fails long wants flushed = (refl, fails.cause.0, fails.never refl, flushed refl)
says_behind f memory wrote tells output report count b a taken WriteFault some fails long wants flushed = (fails.cause.0, some)
says_behind f memory wrote tells output report count b a taken ReportFault some fails long wants flushed = (refl, fails.cause.0, some)
says_behind f memory wrote tells output report count b a taken NotThisForm some fails long wants flushed = absurd (fails.form refl)
says_behind f memory wrote tells output report count b a taken TooLong some fails long wants flushed = long refl
says_behind f memory wrote tells output report count b a taken NoMemory some fails long wants flushed = let low = wants refl in (low.0, some, low.1)

-- the run breaks off after the header, once these records were read: a prefix was written and reported of what these give
pub broke_file : {C R S T U : Type 0} (f : Form R) (memory : Bool) (wrote tells output report : List R → List ℕ) (count : List R → C) (b a : World S T U) (l1 : Option (List ℕ)) (s0 s1 s2 : RecordsState)
    (given : List R) (some text few told : List ℕ) (fault : BridgeFault)
    → Begins f → IsNew s0 → (header : PassesHeader f b.left l1 s0 s1) → (steps : Steps f l1 a.left s1 s2 given)
    → IsPrefix (text_before wrote (early_reads f (header.steps.reads.taken ++ steps.reads.taken))) some
    → IsPrefix (text_before tells (early_reads f (header.steps.reads.taken ++ steps.reads.taken))) few
    → AppendsBetween b.written a.written some text → IsPrefix text (output (given ++ records_to_come f s2 []))
    → AppendsBetween b.reported a.reported few told → IsPrefix told (report (given ++ records_to_come f s2 []))
    → StopAtOnePlace (file_meaning f memory wrote tells output report count).flushed b.left b.written a.written b.reported a.reported
    → CountsAreLast (file_meaning f memory wrote tells output report count) (header.steps.reads.taken ++ steps.reads.taken) b a fault
    → IsAheadOf (file_meaning f memory wrote tells output report count).whole b.left b.written a.written b.reported a.reported
    → Fails b a fault → (fault ≡ TooLong → s2.lines.taken ≡ 2 ^ 32) → (fault ≡ NoMemory → (memory ≡ true) × (s2.lines.taken < 2 ^ 32))
    → Flushed f wrote tells (header.steps.reads.taken ++ steps.reads.taken) b a fault
    → IsBroken (file_meaning f memory wrote tells output report count) b a fault
broke_file f memory wrote tells output report count b a l1 s0 s1 s2 given some text few told fault begins new header steps least least_told written text_is reported told_is stopped last ahead fails long wants flushed =
    let m = file_meaning f memory wrote tells output report count in
    let is = file_prefix f b.left l1 a.left s0 s1 s2 given begins new header steps in
    let taken = header.steps.reads.taken ++ steps.reads.taken in record {
      taken = taken;
      consumes = Consumes-trans b.left l1 a.left _ _ header.steps.reads.consumes steps.reads.consumes;
      text = between_within b.written a.written _ some text _ least (subst (λ r. IsPrefix text (text_in output r)) (sym is) text_is) written;
      told = between_within b.reported a.reported _ few told _ least_told (subst (λ r. IsPrefix told (text_in report r)) (sym is) told_is) reported;
      ahead = ahead;
      stopped = stopped;
      counts_last = last;
      cause = fails.cause;
      leaves = reading m b a refl refl;
      says = says_behind f memory wrote tells output report count b a taken fault (accepted f count b.left l1 s0 s1 begins new header) fails
          (λ is_long. omega (arith, length-append header.steps.reads.taken steps.reads.taken, new.taken, header.steps.reads.count, steps.reads.count, long is_long))
          (λ none. let low = wants none in (low.0, omega (arith, length-append header.steps.reads.taken steps.reads.taken, new.taken, header.steps.reads.count, steps.reads.count, low.1))) flushed;
    }

-- the records of all bytes, where these are left
file_rest : {R : Type 0} (f : Form R) (left l1 l2 : Option (List ℕ)) (s0 s1 s2 : RecordsState) (given : List R)
    → Begins f → IsNew s0 → (header : PassesHeader f left l1 s0 s1) → (steps : Steps f l1 l2 s1 s2 given) → (rest : List ℕ) → l2 ≡ Some rest
    → file_reads f ((header.steps.reads.taken ++ steps.reads.taken) ++ rest) ≡ Ok (given ++ records_to_come f s2 rest)
file_rest f left l1 l2 s0 s1 s2 given begins new header steps rest is =
    ap (file_reads f) (append_assoc header.steps.reads.taken steps.reads.taken rest)
    ∙ file_taken f left l1 l2 s0 s1 s2 given begins new header steps rest
    (λ ended. subst IsAtEnd is (ends_there f left l1 l2 s0 s1 s2 given new header steps ended))

-- whatever records follow those that were read, a prefix was reported of what all give
file_told : {R : Type 0} (f : Form R) (tells : List R → List ℕ) (left l1 l2 u u1 : Option (List ℕ)) (s0 s1 s2 : RecordsState) (given : List R) (told : List ℕ)
    → Begins f → IsNew s0 → (header : PassesHeader f left l1 s0 s1) → (steps : Steps f l1 l2 s1 s2 given)
    → AppendsPrefix u u1 told → ((more : List R) → IsPrefix told (tells (given ++ more)))
    → IfSome left (λ bytes. AppendsPrefix u u1 (text_in tells (file_reads f bytes)))
file_told f tells left l1 l2 u u1 s0 s1 s2 given told begins new header steps reported told_is =
    with_rest left l2 (header.steps.reads.taken ++ steps.reads.taken) _ (Consumes-trans left l1 l2 _ _ header.steps.reads.consumes steps.reads.consumes)
    (λ rest is. prefix_within u u1 told _
    (subst (λ r. IsPrefix told (text_in tells r)) (sym (file_rest f left l1 l2 s0 s1 s2 given begins new header steps rest is)) (told_is (records_to_come f s2 rest))) reported)

-- and a prefix was written
file_ahead : {C R S T U : Type 0} (f : Form R) (memory : Bool) (wrote tells output report : List R → List ℕ) (count : List R → C) (b a : World S T U) (l1 : Option (List ℕ)) (s0 s1 s2 : RecordsState)
    (given : List R) (text told : List ℕ)
    → Begins f → IsNew s0 → (header : PassesHeader f b.left l1 s0 s1) → (steps : Steps f l1 a.left s1 s2 given)
    → AppendsPrefix b.written a.written text → ((more : List R) → IsPrefix text (output (given ++ more)))
    → AppendsPrefix b.reported a.reported told → ((more : List R) → IsPrefix told (report (given ++ more)))
    → IsAheadOf (file_meaning f memory wrote tells output report count).whole b.left b.written a.written b.reported a.reported
file_ahead f memory wrote tells output report count b a l1 s0 s1 s2 given text told begins new header steps written text_is reported told_is =
    ahead_by (file_meaning f memory wrote tells output report count).whole b.left a.left b.written a.written b.reported a.reported (header.steps.reads.taken ++ steps.reads.taken)
    (Consumes-trans b.left l1 a.left _ _ header.steps.reads.consumes steps.reads.consumes)
    (λ rest is.
    let more = records_to_come f s2 rest in
    let all = file_rest f b.left l1 a.left s0 s1 s2 given begins new header steps rest is in (
      prefix_within b.written a.written text _ (subst (λ r. IsPrefix text (text_in output r)) (sym all) (text_is more)) written,
      prefix_within b.reported a.reported told _ (subst (λ r. IsPrefix told (text_in report r)) (sym all) (told_is more)) reported,
    ))

-- output and report stop in the last of the records, or behind it
file_stopped : {R : Type 0} (f : Form R) (wrote tells : List R → List ℕ) (left l1 l2 w w1 u u1 : Option (List ℕ)) (s0 s1 s2 : RecordsState) (given : List R)
    → Begins f → Firsts f → Grows wrote → Grows tells → IsNew s0 → (header : PassesHeader f left l1 s0 s1) → (steps : Steps f l1 l2 s1 s2 given)
    → AppendsBetween w w1 (wrote (but_last given)) (wrote given) → AppendsBetween u u1 (tells (but_last given)) (tells given)
    → StopAtOnePlace (Some (record { output = λ bytes. text_in wrote (whole_reads f bytes); report = λ bytes. text_in tells (whole_reads f bytes) })) left w w1 u u1
file_stopped f wrote tells left l1 l2 w w1 u u1 s0 s1 s2 given begins firsts grows more_told new header steps written reported =
    with_rest left l2 (header.steps.reads.taken ++ steps.reads.taken) _ (Consumes-trans left l1 l2 _ _ header.steps.reads.consumes steps.reads.consumes)
    (λ rest is. stopped_in f wrote tells firsts grows more_told _ given (records_to_come f s2 rest) (file_rest f left l1 l2 s0 s1 s2 given begins new header steps rest is) w w1 u u1 written reported)

-- the same, where all was written before the last of the records; and where a read failed all of it was written and reported
pub broke_taken : {C R S T U : Type 0} (f : Form R) (memory : Bool) (wrote tells output report : List R → List ℕ) (count : List R → C) (b a : World S T U) (l1 : Option (List ℕ)) (s0 s1 s2 : RecordsState)
    (given : List R) (fault : BridgeFault)
    → Begins f → Wholes f → Earlies f → Firsts f → Grows wrote → Grows tells → IsNew s0 → PassesHeader f b.left l1 s0 s1 → (steps : Steps f l1 a.left s1 s2 given) → AreEarly s1.lines steps.reads.taken steps.lines
    → AppendsBetween b.written a.written (wrote (but_last given)) (wrote given) → ((more : List R) → IsPrefix (wrote given) (output (given ++ more)))
    → AppendsBetween b.reported a.reported (tells (but_last given)) (tells given) → ((more : List R) → IsPrefix (tells given) (report (given ++ more)))
    → Fails b a fault → (fault ≡ TooLong → s2.lines.taken ≡ 2 ^ 32) → (fault ≡ NoMemory → (memory ≡ true) × (s2.lines.taken < 2 ^ 32))
    → (fault ≡ ReadFault → IsPaused s2 × Appends b.written a.written (wrote given) × Appends b.reported a.reported (tells given))
    → IsBroken (file_meaning f memory wrote tells output report count) b a fault
broke_taken f memory wrote tells output report count b a l1 s0 s1 s2 given fault begins wholes earlies firsts grows more_told new header steps early written text_is reported told_is fails long wants exact =
    let few = earlies b.left l1 a.left s0 s1 s2 given new header steps early in
    let some_told = prefix_of b.reported a.reported _ (tells given) reported in
    broke_file f memory wrote tells output report count b a l1 s0 s1 s2 given (wrote (but_last given)) (wrote given) (tells (but_last given)) (tells given) fault begins new header steps
    (least_before wrote grows given _ few) (least_before tells more_told given _ few) written (text_is _) reported (told_is _)
    (file_stopped f wrote tells b.left l1 a.left b.written a.written b.reported a.reported s0 s1 s2 given begins firsts grows more_told new header steps written reported)
    (inl (file_told f tells b.left l1 a.left b.reported a.reported s0 s1 s2 given (tells given) begins new header steps some_told (more_told given)))
    (file_ahead f memory wrote tells output report count b a l1 s0 s1 s2 given (wrote given) (tells given) begins new header steps (prefix_of b.written a.written _ (wrote given) written) text_is some_told told_is) fails long wants
    (flushed_file f wrote tells b a l1 s0 s1 s2 given fault wholes new header steps exact)

-- they stop in the leading text
begin_stopped : {R : Type 0} (f : Form R) (wrote tells : List R → List ℕ) (left l1 l2 w w1 u u1 : Option (List ℕ)) (s0 s1 s2 : RecordsState) (given : List R)
    → Begins f → Firsts f → Grows wrote → Grows tells → IsNew s0 → (header : PassesHeader f left l1 s0 s1) → (steps : Steps f l1 l2 s1 s2 given)
    → AppendsPrefix w w1 (wrote []) → AppendsPrefix u u1 (tells [])
    → StopAtOnePlace (Some (record { output = λ bytes. text_in wrote (whole_reads f bytes); report = λ bytes. text_in tells (whole_reads f bytes) })) left w w1 u u1
begin_stopped f wrote tells left l1 l2 w w1 u u1 s0 s1 s2 given begins firsts grows more_told new header steps written reported =
    with_rest left l2 (header.steps.reads.taken ++ steps.reads.taken) _ (Consumes-trans left l1 l2 _ _ header.steps.reads.consumes steps.reads.consumes)
    (λ rest is. stopped_before f wrote tells firsts grows more_told _ w w1 u u1 written reported)

-- the leading text is not written to its end
pub broke_begin : {C R S T U : Type 0} (f : Form R) (memory : Bool) (wrote tells output report : List R → List ℕ) (count : List R → C) (b a : World S T U) (s0 s1 : RecordsState)
    → Begins f → Earlies f → Firsts f → AreNear f → Grows wrote → Grows tells → IsNew s0 → PassesHeader f b.left a.left s0 s1 → NearSteps f a.left a.left s1 s1 []
    → AppendsPrefix b.written a.written (wrote []) → ((more : List R) → IsPrefix (wrote []) (output more)) → tells [] ≡ [] → a.reported ≡ b.reported → Fails b a WriteFault
    → IsBroken (file_meaning f memory wrote tells output report count) b a WriteFault
broke_begin f memory wrote tells output report count b a s0 s1 begins earlies firsts nears grows more_told new header none written prefix_is untold same fails =
    let all = nears a.left a.left s1 s1 [] none in
    let early = none_begin _ (earlies b.left a.left a.left s0 s1 s1 [] new header all.steps all.early) in
    let silent : AppendsPrefix b.reported a.reported [] = subst (λ (u : Option (List ℕ)). AppendsPrefix b.reported u []) (sym same) (no_prefix b.reported []) in
    broke_file f memory wrote tells output report count b a a.left s0 s1 s1 [] [] (wrote []) [] [] WriteFault begins new header all.steps
    (subst (λ (l : List _). IsPrefix (text_before wrote l) []) (sym early) (prefix_nil [])) (subst (λ (l : List _). IsPrefix (text_before tells l) []) (sym early) (prefix_nil []))
    (between b.written a.written (wrote []) written) (prefix_is _) (between b.reported a.reported [] silent) (prefix_nil _)
    (begin_stopped f wrote tells b.left a.left a.left b.written a.written b.reported a.reported s0 s1 s1 [] begins firsts grows more_told new header all.steps written
    (subst (AppendsPrefix b.reported a.reported) (sym untold) silent))
    (inl (file_told f tells b.left a.left a.left b.reported a.reported s0 s1 s1 [] [] begins new header all.steps silent (λ more. prefix_nil _)))
    (file_ahead f memory wrote tells output report count b a a.left s0 s1 s1 [] (wrote []) [] begins new header all.steps written prefix_is silent (λ more. prefix_nil _)) fails (λ long. cc) (λ wants. absurd (let none : WriteFault ≡ NoMemory = wants in cc)) (λ is. absurd (let none : WriteFault ≡ ReadFault = is in cc))
  where
    none_begin : {X : Type 0} (xs : List X) → BeginWith [] xs → xs ≡ []
    none_begin [] h = refl
    none_begin (x ∷ xs) (rest, e) = absurd (cc)

-- the same where all records were given and what is written of them was
pub broke_end : {C R S T U : Type 0} (f : Form R) (memory : Bool) (wrote tells output report : List R → List ℕ) (count : List R → C) (b a : World S T U) (l1 : Option (List ℕ)) (s0 s1 s2 : RecordsState)
    (given : List R) (text told : List ℕ) (fault : BridgeFault)
    → Begins f → Earlies f → Firsts f → AreNear f → Grows wrote → Grows tells → IsNew s0 → PassesHeader f b.left l1 s0 s1 → NearSteps f l1 a.left s1 s2 given → AtEnd s2
    → AppendsBetween b.written a.written (wrote given) text → IsPrefix text (output given) → AppendsBetween b.reported a.reported (tells given) told → IsPrefix told (report given)
    → IsPrefix told (tells given) ⊎ ((fault ≡ ReportFault) × Appends b.written a.written (output given)) → Fails b a fault → (fault ≡ TooLong → ⊥) → (fault ≡ NoMemory → ⊥) → (fault ≡ ReadFault → ⊥)
    → IsBroken (file_meaning f memory wrote tells output report count) b a fault
broke_end f memory wrote tells output report count b a l1 s0 s1 s2 given text told fault begins earlies firsts nears grows more_told new header near end written text_is reported told_is last fails short wants over =
    let steps = nears l1 a.left s1 s2 given near in
    let taken = header.steps.reads.taken ++ steps.steps.reads.taken in
    let consumes = Consumes-trans b.left l1 a.left _ _ header.steps.reads.consumes steps.steps.reads.consumes in
    let over_is = ends_there f b.left l1 a.left s0 s1 s2 given new header steps.steps end.ended in
    let whole = file_whole f b.left l1 a.left s0 s1 s2 given begins new header steps.steps end.kept end.rest in
    let all : given ≡ given ++ records_to_come f s2 [] = sym (ap (λ (l : List _). given ++ l) (none_left f s2 end.kept end.rest) ∙ append-nil given) in
    let few = earlies b.left l1 a.left s0 s1 s2 given new header steps.steps steps.early in
    let some_told = prefix_of b.reported a.reported _ told reported in
    broke_file f memory wrote tells output report count b a l1 s0 s1 s2 given (wrote given) text (tells given) told fault begins new header steps.steps
    (least_all wrote grows given _ few) (least_all tells more_told given _ few)
    written (subst (λ (l : List _). IsPrefix text (output l)) all text_is) reported (subst (λ (l : List _). IsPrefix told (report l)) all told_is)
    (taken_all b.left a.left taken _ consumes over_is (stopped_after f wrote tells firsts grows more_told taken given whole b.written a.written b.reported a.reported
    (all_of b.written a.written _ text written) (all_of b.reported a.reported _ told reported)))
    (counts last)
    (ahead_at_end (file_meaning f memory wrote tells output report count).whole b.left a.left b.written a.written b.reported a.reported taken consumes over_is
    (prefix_within b.written a.written text _ (subst (λ r. IsPrefix text (text_in output r)) (sym whole) text_is) (prefix_of b.written a.written _ text written))
    (prefix_within b.reported a.reported told _ (subst (λ r. IsPrefix told (text_in report r)) (sym whole) told_is) some_told))
    fails (λ is. absurd (short is)) (λ is. absurd (wants is)) (λ is. absurd (over is))
  where
    counts : IsPrefix told (tells given) ⊎ ((fault ≡ ReportFault) × Appends b.written a.written (output given))
        → CountsAreLast (file_meaning f memory wrote tells output report count) (header.steps.reads.taken ++ (nears l1 a.left s1 s2 given near).steps.reads.taken) b a fault
    counts (inl early) =
        let steps = nears l1 a.left s1 s2 given near in
        let consumes = Consumes-trans b.left l1 a.left _ _ header.steps.reads.consumes steps.steps.reads.consumes in
        let over_is = ends_there f b.left l1 a.left s0 s1 s2 given new header steps.steps end.ended in
        let whole = file_whole f b.left l1 a.left s0 s1 s2 given begins new header steps.steps end.kept end.rest in
        inl (taken_all b.left a.left (header.steps.reads.taken ++ steps.steps.reads.taken) _ consumes over_is
        (prefix_within b.reported a.reported told _ (subst (λ r. IsPrefix told (text_in tells r)) (sym whole) early) (prefix_of b.reported a.reported _ told reported)))
    counts (inr (is, wrote_all)) =
        let steps = nears l1 a.left s1 s2 given near in
        let over_is = ends_there f b.left l1 a.left s0 s1 s2 given new header steps.steps end.ended in
        let whole = file_whole f b.left l1 a.left s0 s1 s2 given begins new header steps.steps end.kept end.rest in
        inr (is, over_is, subst (λ r. Appends b.written a.written (text_in output r)) (sym whole) wrote_all)

-- the run is done
pub done_file : {C R S T U : Type 0} (f : Form R) (memory : Bool) (wrote tells output report : List R → List ℕ) (count : List R → C) (b a : World S T U) (l1 : Option (List ℕ)) (s0 s1 s2 : RecordsState)
    (given : List R) (counts : C)
    → Begins f → IsNew s0 → PassesHeader f b.left l1 s0 s1 → Steps f l1 a.left s1 s2 given → AtEnd s2
    → Appends b.written a.written (output given) → Appends b.reported a.reported (report given) → counts ≡ count given
    → a.reads_failed ≡ b.reads_failed → a.writes_failed ≡ b.writes_failed → a.reports_failed ≡ b.reports_failed
    → IsDone (file_meaning f memory wrote tells output report count) b a counts
done_file f memory wrote tells output report count b a l1 s0 s1 s2 given counts begins new header steps end written reported counted reads writes reports =
    let m = file_meaning f memory wrote tells output report count in
    let is = file_whole f b.left l1 a.left s0 s1 s2 given begins new header steps end.kept end.rest in
    record {
      taken = header.steps.reads.taken ++ steps.reads.taken;
      consumes = Consumes-trans b.left l1 a.left _ _ header.steps.reads.consumes steps.reads.consumes;
      end = ends_there f b.left l1 a.left s0 s1 s2 given new header steps end.ended;
      fits = omega (arith, length-append header.steps.reads.taken steps.reads.taken, new.taken, header.steps.reads.count, steps.reads.count, end.low);
      counted = ap (counted_in count) is ∙ ap Some (sym counted);
      text = subst (λ (r : Result (List _) HeaderFault). Appends b.written a.written (text_in output r)) (sym is) written;
      told = subst (λ (r : Result (List _) HeaderFault). Appends b.reported a.reported (text_in report r)) (sym is) reported;
      leaves = reading m b a refl refl;
      reads = reads;
      writes = writes;
      reports = reports;
    }
