-- How the counting of a text ends, from how the run over its bytes in memory ends.
use Rattle.std.proofs.Common.{◌≡◌, ◌⊎◌, inl, inr, ⊎_elim, ◌<◌, ◌^◌, ℕ, List, length, length-append, refl, sym, ap, subst, ◌∙◌, arith}
use Rattle.std.specs.Prelude.{Option, None, Some, IfSome, IsSome, IsTrue, Ok}
use Rattle.std.proofs.lemmas.Bool.{true≢false}
use Rattle.std.specs.Io.KnownBytes.{Appends, Consumes, IsAtEnd}
use Rattle.nav_io.specs.Prefix.{AppendsPrefix}
use Rattle.one_run.specs.Causes.{Faults, faults_of}
use Rattle.one_run.specs.Runs.{IsBroken, IsDone, World}
use Rattle.one_run.specs.declared.fault.BridgeFault.{BridgeFault}
use Rattle.one_run.specs.declared.fault.BridgeFault.TheVariants.{ReadFault, WriteFault, ReportFault, TooLong, NoMemory, NotThisForm}
use Rattle.one_run.proofs.Surface.{counts_of, taken_all, outcome_of, text_of}
use Rattle.streams.specs.declared.target.Target.TheVariants.{Count}
use Rattle.captures.specs.declared.counts.CaptureCounts.{CaptureCounts}
use Rattle.captures.specs.Captures.{Capture, capture_of, counts_in, output_of, refusals_text, report_of_capture, target_meaning}
use Rattle.captures.specs.Converts.{CaptureAhead}
use Rattle.captures.specs.declared.seed_target.SeedCounts.TheVariants.{Counted}
use Rattle.captures.specs.Counting.{CountBroke, CountDone, IsSeedFault}

-- ---- done

pub count_done : {S T U : Type 0} (r : ℕ) (text left : List ℕ) (b a : World S T U) (counts : CaptureCounts) → left ≡ text → b.left ≡ Some left → IsDone (target_meaning Count (Some r)) b a counts
    → CountDone r text b.written a.written b.reported a.reported (faults_of 0 b.writes_failed b.reports_failed) (faults_of 0 a.writes_failed a.reports_failed) (Counted counts)
count_done r text left b a counts same known done =
    let m = target_meaning Count (Some r) in
    let all : b.left ≡ Some text = known ∙ ap Some same in
    record {
      wrote = subst (λ (o : Option (List ℕ)). IfSome o (λ bytes. Appends b.written a.written (output_of Count (Some r) bytes))) all (text_of m b a (Ok counts) done);
      told = subst (λ (o : Option (List ℕ)). IfSome o (λ bytes. Appends b.reported a.reported (report_of_capture (Some r) bytes))) all (outcome_of m b a (Ok counts) done);
      of = counts;
      of_is = subst (λ (o : Option (List ℕ)). IfSome o (λ bytes. counts_in (capture_of (Some r) bytes) ≡ Some counts)) all (counts_of m b a (Ok counts) done);
      counted = refl;
      quiet = ap (λ (n : ℕ). faults_of 0 n a.reports_failed) done.writes ∙ ap (λ (n : ℕ). faults_of 0 b.writes_failed n) done.reports;
    }

-- ---- broken off

-- more bytes than there are were not taken
not_too_many : (text taken : List ℕ) (left_new : Option (List ℕ)) → length text < 2 ^ 32 → Consumes (Some text) left_new taken → length taken ≡ 2 ^ 32 → ⊥
not_too_many text taken None low consumes long = absurd consumes
not_too_many text taken (Some rest) low consumes long = omega (arith, ap length consumes, length-append taken rest, long, low)

none_there : (capture : Option Capture) → IsSome capture → counts_in capture ≡ None → ⊥
none_there None some none = true≢false (sym some)
none_there (Some c) some none = absurd cc

cause_of : {S T U : Type 0} (r : ℕ) (text : List ℕ) (b a : World S T U) (fault : BridgeFault) → b.left ≡ Some text → length text < 2 ^ 32 → IsSome (capture_of (Some r) text) → IsTrue b.never_fails
    → IsBroken (target_meaning Count (Some r)) b a fault → IsSeedFault (faults_of 0 b.writes_failed b.reports_failed) (faults_of 0 a.writes_failed a.reports_failed) fault
cause_of r text b a ReadFault known low some never h = h.says.2 never
cause_of r text b a WriteFault known low some never h = (h.cause.0, ap (λ (n : ℕ). faults_of 0 a.writes_failed n) (ap (λ (f : Faults). f.report) h.cause.1))
cause_of r text b a ReportFault known low some never h = (h.cause.0, ap (λ (n : ℕ). faults_of 0 n a.reports_failed) (ap (λ (f : Faults). f.output) h.cause.1))
cause_of r text b a NotThisForm known low some never h = none_there (capture_of (Some r) text) some (rw known at h.says.1)
cause_of r text b a TooLong known low some never h = not_too_many text h.taken a.left low (subst (λ (o : Option (List ℕ)). Consumes o a.left h.taken) known h.consumes) h.says
cause_of r text b a NoMemory known low some never h =
    ap (λ (n : ℕ). faults_of 0 n a.reports_failed) (ap (λ (f : Faults). f.output) h.cause)
    ∙ ap (λ (n : ℕ). faults_of 0 b.writes_failed n) (ap (λ (f : Faults). f.report) h.cause)

prefix_of : (r : ℕ) (text : List ℕ) (left left_new written written_new reported reported_new : Option (List ℕ)) → left ≡ Some text
    → CaptureAhead Count (Some r) left left_new written written_new reported reported_new → CountBroke r text written written_new reported reported_new
prefix_of r text left left_new written written_new reported reported_new known h =
    (subst (λ (o : Option (List ℕ)). CaptureAhead Count (Some r) o left_new written written_new reported reported_new) known h).0

pub count_broke : {S T U : Type 0} (r : ℕ) (text left : List ℕ) (b a : World S T U) (fault : BridgeFault) → left ≡ text → b.left ≡ Some left → length text < 2 ^ 32 → IsSome (capture_of (Some r) text) → IsTrue b.never_fails
    → IsBroken (target_meaning Count (Some r)) b a fault → CaptureAhead Count (Some r) b.left a.left b.written a.written b.reported a.reported
    → CountBroke r text b.written a.written b.reported a.reported × IsSeedFault (faults_of 0 b.writes_failed b.reports_failed) (faults_of 0 a.writes_failed a.reports_failed) fault
    × (AppendsPrefix b.reported a.reported (refusals_text (capture_of (Some r) text)) ⊎ ((fault ≡ ReportFault) × Appends b.written a.written (output_of Count (Some r) text)))
count_broke r text left b a fault same known low some never broke ahead =
    let all : b.left ≡ Some text = known ∙ ap Some same in (
      prefix_of r text b.left a.left b.written a.written b.reported a.reported all ahead,
      cause_of r text b a fault all low some never broke,
      ⊎_elim
          (λ (none : IfSome b.left (λ bytes. AppendsPrefix b.reported a.reported (refusals_text (capture_of (Some r) bytes)))).
          inl (subst (λ (o : Option (List ℕ)). IfSome o (λ bytes. AppendsPrefix b.reported a.reported (refusals_text (capture_of (Some r) bytes)))) all none))
          (λ (wrote : (fault ≡ ReportFault) × IsAtEnd a.left × Appends b.written a.written (output_of Count (Some r) broke.taken)). inr (
            wrote.0,
            subst (λ (o : Option (List ℕ)). IfSome o (λ bytes. Appends b.written a.written (output_of Count (Some r) bytes))) all
                (taken_all b.left a.left broke.taken (λ bytes. Appends b.written a.written (output_of Count (Some r) bytes)) broke.consumes wrote.1 wrote.2),
          ))
          broke.counts_last,
    )
