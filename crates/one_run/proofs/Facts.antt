-- What follows from how a run ended.
use Rattle.std.proofs.Common.{◌≡◌, ◌⊎◌, inl, inr, ◌<◌, ◌≤◌, ℕ, Bool, false, true, List, ◌++◌, length, Option, None, Some, Result, Ok, Err, refl, sym, ap, subst, ◌∙◌, arith, append-nil, length-append}
use Rattle.std.specs.Prelude.{IfSome, IfOk, IsSome, IsOk, IsErr, IsErrOf, OnErr, OnOk}
use Rattle.std.specs.Io.KnownBytes.{Appends, Consumes, IsAtEnd}
use Rattle.nav_io.specs.Causes.{Rose}
use Rattle.nav_io.specs.Prefix.{AppendsPrefix}
use Rattle.one_run.specs.declared.fault.BridgeFault.{BridgeFault}
use Rattle.one_run.specs.declared.fault.BridgeFault.TheVariants.{ReadFault, WriteFault, ReportFault, NotThisForm, TooLong, NoMemory}
use Rattle.one_run.specs.Causes.{HasItsCause, faults_of}
use Rattle.one_run.specs.Runs.{Accepts, IsBroken, IsDone, Ended, IsAheadOf, Leaves, Meaning, Texts, World, bytes_for, faults_in}
use Rattle.one_run.specs.Ends.{EndedBy, fault_status, status_of}
use Rattle.one_run.proofs.Prefixes.{no_prefix}

-- ---- known bytes

if_some : (o : Option (List ℕ)) (P : List ℕ → Type 0) → ((bytes : List ℕ) → o ≡ Some bytes → P bytes) → IfSome o P
if_some None P each = tt
if_some (Some bytes) P each = each bytes refl

at_some : (o : Option (List ℕ)) (P : List ℕ → Type 0) (bytes : List ℕ) → o ≡ Some bytes → IfSome o P → P bytes
at_some o P bytes is all = subst (λ (x : Option (List ℕ)). IfSome x P) is all

-- what was read up to the end is all of it
pub taken_all : (o o' : Option (List ℕ)) (taken : List ℕ) (P : List ℕ → Type 0) → Consumes o o' taken → IsAtEnd o' → P taken → IfSome o P
taken_all None o' taken P takes end p = tt
taken_all (Some bytes) None taken P takes end p = absurd takes
taken_all (Some bytes) (Some rest) taken P takes end p = subst P (sym (takes ∙ ap (λ (l : List ℕ). taken ++ l) end ∙ append-nil taken)) p

-- what holds of what was read and of what is left holds of all
pub with_rest : (o o' : Option (List ℕ)) (taken : List ℕ) (P : List ℕ → Type 0) → Consumes o o' taken → ((rest : List ℕ) → o' ≡ Some rest → P (taken ++ rest)) → IfSome o P
with_rest None o' taken P takes each = tt
with_rest (Some bytes) None taken P takes each = absurd takes
with_rest (Some bytes) (Some rest) taken P takes each = subst P (sym takes) (each rest refl)

-- no more was read than was there
taken_within : (o o' : Option (List ℕ)) (taken bytes : List ℕ) → o ≡ Some bytes → Consumes o o' taken → length taken ≤ length bytes
taken_within o o' taken bytes is takes = within o' (subst (λ (x : Option (List ℕ)). Consumes x o' taken) is takes) where
  within : (o' : Option (List ℕ)) → Consumes (Some bytes) o' taken → length taken ≤ length bytes
  within None none = absurd none
  within (Some rest) split = omega (arith, ap length split, length-append taken rest)

-- ---- the complete input

-- what is left follows what was read
pub ahead_by : (whole : Texts) (o o' w w' u u' : Option (List ℕ)) (taken : List ℕ) → Consumes o o' taken
    → ((rest : List ℕ) → o' ≡ Some rest → AppendsPrefix w w' (whole.output (taken ++ rest)) × AppendsPrefix u u' (whole.report (taken ++ rest)))
    → IsAheadOf whole o w w' u u'
ahead_by whole o o' w w' u u' taken takes each = with_rest o o' taken _ takes each

-- what was read is all
pub ahead_at_end : (whole : Texts) (o o' w w' u u' : Option (List ℕ)) (taken : List ℕ) → Consumes o o' taken → IsAtEnd o'
    → AppendsPrefix w w' (whole.output taken) → AppendsPrefix u u' (whole.report taken) → IsAheadOf whole o w w' u u'
ahead_at_end whole o o' w w' u u' taken takes end text told = taken_all o o' taken _ takes end (text, told)

-- nothing was reported
pub nothing_told : (rejections : List ℕ → List ℕ) (o u u' : Option (List ℕ)) → u' ≡ u → IfSome o (λ bytes. AppendsPrefix u u' (rejections bytes))
nothing_told rejections o u u' silent =
    if_some o _ (λ bytes is. subst (λ (x : Option (List ℕ)). AppendsPrefix u x (rejections bytes)) (sym silent) (no_prefix u (rejections bytes)))

-- nothing was written and nothing reported
pub nothing_ahead : (whole : Texts) (o w w' u u' : Option (List ℕ)) → w' ≡ w → u' ≡ u → IsAheadOf whole o w w' u u'
nothing_ahead whole o w w' u u' same silent = if_some o _ (λ bytes is. (
  subst (λ (x : Option (List ℕ)). AppendsPrefix w x (whole.output bytes)) (sym same) (no_prefix w (whole.output bytes)),
  subst (λ (x : Option (List ℕ)). AppendsPrefix u x (whole.report bytes)) (sym silent) (no_prefix u (whole.report bytes)),
))

-- ---- what failed

pub none_failed : {S T U : Type 0} (b a : World S T U) → a.reads_failed ≡ b.reads_failed → a.writes_failed ≡ b.writes_failed → a.reports_failed ≡ b.reports_failed
    → faults_in a ≡ faults_in b
none_failed b a r w u =
    ap (λ (n : ℕ). faults_of n a.writes_failed a.reports_failed) r ∙ ap (λ (n : ℕ). faults_of b.reads_failed n a.reports_failed) w
    ∙ ap (λ (n : ℕ). faults_of b.reads_failed b.writes_failed n) u

pub read_failed : {S T U : Type 0} (b a : World S T U) → Rose b.reads_failed a.reads_failed → a.writes_failed ≡ b.writes_failed → a.reports_failed ≡ b.reports_failed
    → HasItsCause {T = Unit {0}} (faults_in b) (faults_in a) (Err ReadFault)
read_failed b a rose w u =
    (rose, ap (λ (n : ℕ). faults_of a.reads_failed n a.reports_failed) w ∙ ap (λ (n : ℕ). faults_of a.reads_failed b.writes_failed n) u)

pub write_failed : {S T U : Type 0} (b a : World S T U) → Rose b.writes_failed a.writes_failed → a.reads_failed ≡ b.reads_failed → a.reports_failed ≡ b.reports_failed
    → HasItsCause {T = Unit {0}} (faults_in b) (faults_in a) (Err WriteFault)
write_failed b a rose r u =
    (rose, ap (λ (n : ℕ). faults_of n a.writes_failed a.reports_failed) r ∙ ap (λ (n : ℕ). faults_of b.reads_failed a.writes_failed n) u)

pub report_failed : {S T U : Type 0} (b a : World S T U) → Rose b.reports_failed a.reports_failed → a.reads_failed ≡ b.reads_failed → a.writes_failed ≡ b.writes_failed
    → HasItsCause {T = Unit {0}} (faults_in b) (faults_in a) (Err ReportFault)
report_failed b a rose r w =
    (rose, ap (λ (n : ℕ). faults_of n a.writes_failed a.reports_failed) r ∙ ap (λ (n : ℕ). faults_of b.reads_failed n a.reports_failed) w)

-- ---- a run that is done

pub text_of : {C S T U : Type 0} (m : Meaning C) (b a : World S T U) (r : Result C BridgeFault) → Ended m b a r
    → OnOk r (IfSome (bytes_for m b) (λ bytes. Appends b.written a.written (m.whole.output bytes)))
text_of m b a (Ok counts) done = taken_all _ _ done.taken _ done.consumes done.end done.text
text_of m b a (Err fault) broke = tt

pub outcome_of : {C S T U : Type 0} (m : Meaning C) (b a : World S T U) (r : Result C BridgeFault) → Ended m b a r
    → OnOk r (IfSome (bytes_for m b) (λ bytes. Appends b.reported a.reported (m.whole.report bytes)))
outcome_of m b a (Ok counts) done = taken_all _ _ done.taken _ done.consumes done.end done.told
outcome_of m b a (Err fault) broke = tt

pub counts_of : {C S T U : Type 0} (m : Meaning C) (b a : World S T U) (r : Result C BridgeFault) → Ended m b a r
    → IfOk r (λ counts. IfSome (bytes_for m b) (λ bytes. m.counts bytes ≡ Some counts))
counts_of m b a (Ok counts) done = taken_all _ _ done.taken _ done.consumes done.end done.counted
counts_of m b a (Err fault) broke = tt

pub end_of : {C S T U : Type 0} (m : Meaning C) (b a : World S T U) (r : Result C BridgeFault) → Ended m b a r → OnOk r (IsAtEnd (bytes_for m a))
end_of m b a (Ok counts) done = done.end
end_of m b a (Err fault) broke = tt

pub no_fault : {C S T U : Type 0} (m : Meaning C) (b a : World S T U) (r : Result C BridgeFault) → Ended m b a r
    → OnOk r ((a.reads_failed ≡ b.reads_failed) × (a.writes_failed ≡ b.writes_failed) × (a.reports_failed ≡ b.reports_failed))
no_fault m b a (Ok counts) done = (done.reads, done.writes, done.reports)
no_fault m b a (Err fault) broke = tt

-- ---- each run

pub leaves_of : {C S T U : Type 0} (m : Meaning C) (b a : World S T U) (r : Result C BridgeFault) → Ended m b a r → Leaves m b a
leaves_of m b a (Ok counts) done = done.leaves
leaves_of m b a (Err fault) broke = broke.leaves

pub long_of : {C S T U : Type 0} (m : Meaning C) (b a : World S T U) (r : Result C BridgeFault) → Ended m b a r
    → IfSome (bytes_for m b) (λ bytes. m.limit ≤ length bytes → IsErr r)
long_of {C = C} m b a (Ok counts) done =
    taken_all _ _ done.taken (λ bytes. m.limit ≤ length bytes → IsErr {T = C} {E = BridgeFault} (Ok counts)) done.consumes done.end (λ long. absurd (omega (arith, long, done.fits)))
long_of {C = C} m b a (Err fault) broke =
    if_some _ (λ bytes. m.limit ≤ length bytes → IsErr {T = C} {E = BridgeFault} (Err fault)) (λ bytes is long. refl)

pub accepted_of : {C S T U : Type 0} (m : Meaning C) (b a : World S T U) (r : Result C BridgeFault) → Ended m b a r
    → IsOk r ⊎ (IsErrOf r WriteFault ⊎ (IsErrOf r ReportFault ⊎ IsErrOf r NoMemory)) → Accepts m b
accepted_of {C = C} m b a r ended end = by_end r ended end where
  counted : (o : Option C) (counts : C) → o ≡ Some counts → IsSome o
  counted o counts is = subst (λ (x : Option C). IsSome x) (sym is) refl

  by_end : (r : Result C BridgeFault) → Ended m b a r → IsOk r ⊎ (IsErrOf r WriteFault ⊎ (IsErrOf r ReportFault ⊎ IsErrOf r NoMemory)) → Accepts m b
  by_end (Ok counts) done end = taken_all _ _ done.taken (λ bytes. IsSome (m.counts bytes)) done.consumes done.end (counted _ counts done.counted)
  by_end (Err fault) broke (inl ok) = absurd (let none : false ≡ true = ok in cc)
  by_end (Err fault) broke (inr (inl is)) = (subst (Ended m b a) is broke).says.1
  by_end (Err fault) broke (inr (inr (inl is))) = (subst (Ended m b a) is broke).says.2
  by_end (Err fault) broke (inr (inr (inr is))) = (subst (Ended m b a) is broke).says.1

-- a run succeeds, or finds no memory, where its input is accepted and nothing fails
pub complete_of : {C S T U : Type 0} (m : Meaning C) (b a : World S T U) (r : Result C BridgeFault) → Ended m b a r
    → IfSome (bytes_for m b) (λ bytes. length bytes < m.limit → IsSome (m.counts bytes)
    → (Rose b.reads_failed a.reads_failed → ⊥) → (Rose b.writes_failed a.writes_failed → ⊥)
    → (m.reports ≡ false) ⊎ (Rose b.reports_failed a.reports_failed → ⊥)
    → IsOk r ⊎ (IsErrOf r NoMemory × (m.memory ≡ true)))
complete_of {C = C} m b a r ended = if_some _ _ (λ bytes is. by_end r ended bytes is) where
  never : (reports : Bool) → reports ≡ true → reports ≡ false → ⊥
  never reports some none = cc

  none_there : (o : Option C) → o ≡ None → IsSome o → ⊥
  none_there o none some = let e : false ≡ true = subst (λ (x : Option C). IsSome x) none some in cc

  by_end : (r : Result C BridgeFault) → Ended m b a r → (bytes : List ℕ) → bytes_for m b ≡ Some bytes → length bytes < m.limit → IsSome (m.counts bytes)
      → (Rose b.reads_failed a.reads_failed → ⊥) → (Rose b.writes_failed a.writes_failed → ⊥)
      → (m.reports ≡ false) ⊎ (Rose b.reports_failed a.reports_failed → ⊥)
      → IsOk r ⊎ (IsErrOf r NoMemory × (m.memory ≡ true))
  by_end (Ok counts) done bytes is few some reads writes reports = inl refl
  by_end (Err ReadFault) broke bytes is few some reads writes reports = absurd (reads broke.says.1)
  by_end (Err WriteFault) broke bytes is few some reads writes reports = absurd (writes broke.says.0)
  by_end (Err ReportFault) broke bytes is few some reads writes (inl silent) = absurd (never m.reports broke.says.0 silent)
  by_end (Err ReportFault) broke bytes is few some reads writes (inr reports) = absurd (reports broke.says.1)
  by_end (Err NotThisForm) broke bytes is few some reads writes reports =
      absurd (none_there (m.counts bytes) (at_some _ (λ l. m.counts l ≡ None) bytes is broke.says.1) some)
  by_end (Err TooLong) broke bytes is few some reads writes reports =
      absurd (omega (arith, few, broke.says, taken_within _ _ broke.taken bytes is broke.consumes))
  by_end (Err NoMemory) broke bytes is few some reads writes reports = inr (refl, broke.says.0)

-- ---- a run that ended early

pub broke_by : {C S T U : Type 0} (m : Meaning C) (b a : World S T U) (r : Result C BridgeFault) (fault : BridgeFault) → Ended m b a r → IsErrOf r fault
    → IsBroken m b a fault
broke_by m b a r fault ended is = subst (Ended m b a) is ended

-- what was written and reported is a prefix of what the complete input gives
pub ahead_after : {C S T U : Type 0} (m : Meaning C) (b a : World S T U) (r : Result C BridgeFault) → Ended m b a r
    → OnErr r (IsAheadOf m.whole (bytes_for m b) b.written a.written b.reported a.reported)
ahead_after m b a (Ok counts) done = tt
ahead_after m b a (Err fault) broke = broke.ahead

-- ---- by its exit status

one_fault : (f g : BridgeFault) → fault_status f ≡ fault_status g → f ≡ g
one_fault f g e = search arith

some_status : (f : BridgeFault) → 0 ≡ fault_status f → ⊥
some_status f e = search arith

pub by_status : {S T U : Type 0} (m : Meaning (Unit {0})) (b a : World S T U) (status : ℕ) (fault : BridgeFault) → EndedBy m b a status
    → status ≡ fault_status fault → IsBroken m b a fault
by_status m b a status fault by is = by_end by.result by.ended (sym by.is ∙ is) where
  by_end : (r : Result (Unit {0}) BridgeFault) → Ended m b a r → status_of r ≡ fault_status fault → IsBroken m b a fault
  by_end (Ok counts) done e = absurd (some_status fault e)
  by_end (Err other) broke e = subst (λ (f : BridgeFault). IsBroken m b a f) (one_fault other fault e) broke

pub done_by : {S T U : Type 0} (m : Meaning (Unit {0})) (b a : World S T U) (status : ℕ) → EndedBy m b a status → status ≡ 0 → IsDone m b a tt
done_by m b a status by is = by_end by.result by.ended (sym by.is ∙ is) where
  by_end : (r : Result (Unit {0}) BridgeFault) → Ended m b a r → status_of r ≡ 0 → IsDone m b a tt
  by_end (Ok counts) done e = done
  by_end (Err fault) broke e = absurd (some_status fault (sym e))
