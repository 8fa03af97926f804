-- What a run that ended well has written and counted, and that it ends well where nothing fails.
use Rattle.std.proofs.Common.{◌≡◌, ◌⊎◌, inl, inr, ◌^◌, ◌<◌, ◌≤◌, ℕ, Bool, true, false, List, [], length, Option, None, Some, Result, Ok, Err, refl, sym, ap, subst, ◌∙◌, arith, length-append}
use Rattle.std.proofs.lemmas.Bool.{cases_lt}
use Rattle.std.specs.Option.{option_map}
use Rattle.std.specs.Prelude.{IfErr, IfOk, IfSome, IsErr, IsErrOf, IsOk, IsSome, OnOk, if◌then◌else◌}
use Rattle.std.specs.Io.KnownBytes.{Appends}
use Rattle.nav_io.specs.Causes.{Rose}
use Rattle.one_run.specs.Causes.{Faults, HasItsCause}
use Rattle.one_run.specs.Runs.{IsBroken, Ended, Meaning, World, bytes_for, faults_in}
use Rattle.one_run.proofs.Surface.{complete_of, counts_of, long_of, no_fault, text_of, with_rest}
use Rattle.one_run.specs.declared.fault.BridgeFault.{BridgeFault}
use Rattle.one_run.specs.declared.fault.BridgeFault.TheVariants.{ReadFault, WriteFault, ReportFault, NotThisForm, TooLong, NoMemory}
use Rattle.whole_file.specs.Steps.{EndsFor, RoseFor, error_counts}
use Rattle.file_conversion.specs.Tasks.{accepts, breaks_by, cause_in}
use Rattle.file_conversion.specs.declared.table.Task.TheVariants.{Copied}
use Rattle.file_conversion.specs.declared.done.Done.{Done}

-- ---- a run that reads its input

-- reads all that is left of it
left_of : {C S T U : Type 0} (m : Meaning C) (b : World S T U) → m.reads ≡ true → bytes_for m b ≡ b.left
left_of m b reads = ap (λ (r : Bool). if r then b.left else Some []) reads

-- it has written its whole output
pub text_by : {C S T U : Type 0} (m : Meaning C) (b a : World S T U) (r : Result C BridgeFault) → m.reads ≡ true
    → Ended m b a r → OnOk r (IfSome b.left (λ bytes. Appends b.written a.written (m.whole.output bytes)))
text_by m b a r reads ended =
    subst (λ (left : Option (List ℕ)). OnOk r (IfSome left (λ bytes. Appends b.written a.written (m.whole.output bytes))))
    (left_of m b reads) (text_of m b a r ended)

-- and counted its bytes
counted : {C S T U : Type 0} (m : Meaning C) (b a : World S T U) (r : Result C BridgeFault) → m.reads ≡ true
    → Ended m b a r → IfOk r (λ done. IfSome b.left (λ bytes. m.counts bytes ≡ Some done))
counted m b a r reads ended =
    subst (λ (left : Option (List ℕ)). IfOk r (λ done. IfSome left (λ bytes. m.counts bytes ≡ Some done)))
    (left_of m b reads) (counts_of m b a r ended)

turned : {C D : Type 0} (f : Option C → Option D) (counts : List ℕ → Option C) (done : C) (left : Option (List ℕ))
    → IfSome left (λ bytes. counts bytes ≡ Some done) → IfSome left (λ bytes. f (Some done) ≡ f (counts bytes))
turned f counts done None all = tt
turned f counts done (Some bytes) is = ap f (sym is)

-- and what a function reads of them
pub counts_read : {C D S T U : Type 0} (f : C → D) (m : Meaning C) (b a : World S T U) (done : C) → m.reads ≡ true
    → Ended m b a (Ok done) → IfSome b.left (λ bytes. Some (f done) ≡ option_map f (m.counts bytes))
counts_read f m b a done reads ended = turned (option_map f) m.counts done b.left (counted m b a (Ok done) reads ended)

-- ---- where nothing fails

if_some : (o : Option (List ℕ)) (P : List ℕ → Type 0) → ((bytes : List ℕ) → o ≡ Some bytes → P bytes) → IfSome o P
if_some None P each = tt
if_some (Some bytes) P each = each bytes refl

at_some : (o : Option (List ℕ)) (P : List ℕ → Type 0) (bytes : List ℕ) → o ≡ Some bytes → IfSome o P → P bytes
at_some o P bytes is all = subst (λ (x : Option (List ℕ)). IfSome x P) is all

one_fault : (C : Type 0) (r : Result C BridgeFault) (one other : BridgeFault) → r ≡ Err one → r ≡ Err other → one ≡ other
one_fault C r one other is too = let before : r ≡ Err one = is in let behind : r ≡ Err other = too in cc

memory_alone : (C : Type 0) (r : Result C BridgeFault) (memory : Bool) → IsOk r ⊎ (IsErrOf r NoMemory × (memory ≡ true))
    → IfErr r (λ fault. fault ≡ NoMemory)
memory_alone C (Ok done) memory end = tt
memory_alone C (Err fault) memory (inl ok) = absurd (let no : false ≡ true = ok in cc)
memory_alone C (Err fault) memory (inr (is, e)) = one_fault C (Err fault) fault NoMemory refl is

-- a run that did not end well lacked memory, where its bytes are accepted and nothing failed
pub complete_by : {C S T U : Type 0} (m : Meaning C) (b a : World S T U) (r : Result C BridgeFault) → m.reads ≡ true → m.limit ≡ 2 ^ 32
    → Ended m b a r
    → IfSome b.left (λ bytes. IsSome (m.counts bytes) × (length bytes < 2 ^ 32)
    → (Rose b.reads_failed a.reads_failed → ⊥) → (Rose b.writes_failed a.writes_failed → ⊥) → (Rose b.reports_failed a.reports_failed → ⊥)
    → IfErr r (λ fault. fault ≡ NoMemory))
complete_by m b a r reads limit ended =
    if_some b.left _ (λ bytes there can no_read no_write no_report.
    memory_alone _ r m.memory (at_some (bytes_for m b) _ bytes (left_of m b reads ∙ there) (complete_of m b a r ended)
    (subst (λ (n : ℕ). length bytes < n) (sym limit) can.1) can.0 no_read no_write (inr no_report)))

-- what ended well leaves nothing to show
pub ended_well : (left : Option (List ℕ)) (Can : List ℕ → Type 0) (A B C Shown : Type 0) → Shown
    → IfSome left (λ bytes. Can bytes → A → B → C → Shown)
ended_well None Can A B C Shown shown = tt
ended_well (Some bytes) Can A B C Shown shown = λ can a b c. shown

-- ---- what a run ended for

counts_some : {C : Type 0} (o : Option C) (done : C) → o ≡ Some done → IsSome o
counts_some {C = C} o done is = subst (λ (x : Option C). IsSome x) (sym is) refl

none_counts : {C : Type 0} (o : Option C) → o ≡ None → IsSome o → ⊥
none_counts {C = C} o none some = let no : false ≡ true = subst (λ (x : Option C). IsSome x) none some in cc

below : {C : Type 0} (n limit most : ℕ) (done : C) → limit ≡ most → (limit ≤ n → IsErr {T = C} {E = BridgeFault} (Ok done)) → n < most
below n limit most done is long = by_case (cases_lt n most) where
  by_case : (n < most) ⊎ (most ≤ n) → n < most
  by_case (inl few) = few
  by_case (inr many) = absurd (let no : false ≡ true = long (subst (λ (l : ℕ). l ≤ n) (sym is) many) in cc)

-- a run that ended well has accepted its bytes, which were not too many
pub accepts_by : {C S T U : Type 0} (m : Meaning C) (b a : World S T U) (done : C) → m.reads ≡ true → m.limit ≡ 2 ^ 32
    → Ended m b a (Ok done) → IfSome b.left (λ bytes. IsSome (m.counts bytes) × (length bytes < 2 ^ 32))
accepts_by {C = C} m b a done reads limit ended =
    if_some b.left _ (λ bytes there. (
      counts_some (m.counts bytes) done (at_some (bytes_for m b) (λ l. m.counts l ≡ Some done) bytes (left_of m b reads ∙ there) (counts_of m b a (Ok done) ended)),
      below (length bytes) m.limit (2 ^ 32) done limit
          (at_some (bytes_for m b) (λ l. m.limit ≤ length l → IsErr {T = C} {E = BridgeFault} (Ok done)) bytes (left_of m b reads ∙ there) (long_of m b a (Ok done) ended)),
    ))

-- and nothing failed
pub ended_for : {C S T U : Type 0} (m : Meaning C) (b a : World S T U) (done : C) → Ended m b a (Ok done)
    → (a.reads_failed ≡ b.reads_failed) × (a.reports_failed ≡ b.reports_failed) × (a.writes_failed ≡ b.writes_failed)
ended_for m b a done ended = let same = no_fault m b a (Ok done) ended in (same.0, same.2, same.1)

rises_for : {S T U : Type 0} (b a : World S T U) (fault : BridgeFault) → HasItsCause {T = Unit {0}} (faults_in b) (faults_in a) (Err fault)
    → RoseFor (cause_in fault) (error_counts b.reads_failed b.writes_failed b.reports_failed) (error_counts a.reads_failed a.writes_failed a.reports_failed)
rises_for b a ReadFault (rose, same) = (rose, ap (λ (f : Faults). f.report) same)
rises_for b a WriteFault (rose, same) = (ap (λ (f : Faults). f.input) same, ap (λ (f : Faults). f.report) same, rose)
rises_for b a ReportFault (rose, same) = (ap (λ (f : Faults). f.input) same, rose)
rises_for b a NotThisForm same = (ap (λ (f : Faults). f.input) same, ap (λ (f : Faults). f.report) same)
rises_for b a TooLong same = (ap (λ (f : Faults). f.input) same, ap (λ (f : Faults). f.report) same)
rises_for b a NoMemory same = (ap (λ (f : Faults). f.input) same, ap (λ (f : Faults). f.report) same)

-- one that broke off did so for the object that failed
pub broke_for : {C S T U : Type 0} (m : Meaning C) (b a : World S T U) (fault : BridgeFault) → IsBroken m b a fault
    → RoseFor (cause_in fault) (error_counts b.reads_failed b.writes_failed b.reports_failed) (error_counts a.reads_failed a.writes_failed a.reports_failed)
broke_for m b a fault broke = rises_for b a fault broke.cause

nothing_stated : (left : Option (List ℕ)) → IfSome left (λ bytes. Unit {0})
nothing_stated None = tt
nothing_stated (Some bytes) = tt

-- or for its bytes
pub breaks_of : {C S T U : Type 0} (m : Meaning C) (b a : World S T U) (fault : BridgeFault) → m.reads ≡ true → m.limit ≡ 2 ^ 32
    → IsBroken m b a fault → IfSome b.left (λ bytes. breaks_by (IsSome (m.counts bytes)) bytes fault)
breaks_of m b a ReadFault reads limit broke = nothing_stated b.left
breaks_of m b a WriteFault reads limit broke = nothing_stated b.left
breaks_of m b a ReportFault reads limit broke = nothing_stated b.left
breaks_of m b a NotThisForm reads limit broke =
    if_some b.left _ (λ bytes there.
    none_counts (m.counts bytes) (at_some (bytes_for m b) (λ l. m.counts l ≡ None) bytes (left_of m b reads ∙ there) broke.says.1))
breaks_of m b a TooLong reads limit broke =
    subst (λ (left : Option (List ℕ)). IfSome left (λ bytes. 2 ^ 32 ≤ length bytes)) (left_of m b reads)
    (with_rest (bytes_for m b) (bytes_for m a) broke.taken (λ bytes. 2 ^ 32 ≤ length bytes) broke.consumes
    (λ rest there. omega (arith, broke.says, limit, length-append broke.taken rest)))
breaks_of m b a NoMemory reads limit broke = nothing_stated b.left

-- ---- a copy

copied_bytes : (left : Option (List ℕ)) → IfSome left (λ bytes. length bytes < 2 ^ 32) → IfSome left (λ bytes. accepts Copied bytes × (length bytes < 2 ^ 32))
copied_bytes None few = tt
copied_bytes (Some bytes) few = (tt, few)

pub copy_accepts : (left : Option (List ℕ)) (r : Result (Option Done) BridgeFault) → OnOk r (IfSome left (λ bytes. length bytes < 2 ^ 32))
    → OnOk r (IfSome left (λ bytes. accepts Copied bytes × (length bytes < 2 ^ 32)))
copy_accepts left (Ok counts) few = copied_bytes left few
copy_accepts left (Err fault) few = tt

none_rises : {A : Type 0} → Rose 0 0 → A
none_rises rose = absurd (omega (arith, rose))

-- its report stays
pub copy_ends : (input input_new output output_new report : ℕ) (r : Result (Option Done) BridgeFault)
    → EndsFor cause_in (error_counts input output 0) (error_counts input_new output_new 0) r
    → EndsFor cause_in (error_counts input output report) (error_counts input_new output_new report) r
copy_ends input input_new output output_new report (Ok counts) ends = (ends.0, refl, ends.2)
copy_ends input input_new output output_new report (Err ReadFault) ends = (ends.0, refl)
copy_ends input input_new output output_new report (Err WriteFault) ends = (ends.0, refl, ends.2)
copy_ends input input_new output output_new report (Err ReportFault) ends = none_rises ends.1
copy_ends input input_new output output_new report (Err NotThisForm) ends = (ends.0, refl)
copy_ends input input_new output output_new report (Err TooLong) ends = (ends.0, refl)
copy_ends input input_new output output_new report (Err NoMemory) ends = (ends.0, refl)
