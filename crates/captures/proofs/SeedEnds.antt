-- How a run over a generated capture ends, from how its branch ends.
use Rattle.std.proofs.Common.{◌≡◌, ◌⊎◌, inl, inr, ⊎_elim, ℕ, true, false, List, [], length, refl, sym, ap, subst, ◌∙◌, arith}
use Rattle.std.specs.Prelude.{Option, Some, IsSome, Result, Ok, Err}
use Rattle.std.proofs.lemmas.Bool.{true≢false}
use Rattle.std.specs.Io.KnownBytes.{Appends}
use Rattle.std.proofs.KnownBytes.{Appends-nil}
use Rattle.nav_io.specs.Prefix.{AppendsPrefix}
use Rattle.sent_captures.specs.Text.{capture_text}
use Rattle.one_run.specs.Causes.{Faults, HasItsCause, faults_of}
use Rattle.one_run.specs.Runs.{IsBroken, IsDone, Ended, Says, World, faults_in}
use Rattle.one_run.proofs.Surface.{between, none_failed, report_failed, write_failed}
use Rattle.one_run.specs.declared.fault.BridgeFault.{BridgeFault}
use Rattle.one_run.specs.declared.fault.BridgeFault.TheVariants.{ReadFault, WriteFault, ReportFault, TooLong, NoMemory, NotThisForm}
use Rattle.streams.specs.declared.target.Target.TheVariants.{Count}
use Rattle.captures.specs.declared.counts.CaptureCounts.{CaptureCounts}
use Rattle.captures.specs.Captures.{Capture, capture_of, counts_in, counts_of, output_of, refusals_text, report_of_capture}
use Rattle.captures.specs.declared.seed_target.SeedTo.{SeedTo}
use Rattle.captures.specs.declared.seed_target.SeedTo.TheVariants as seeds
use Rattle.captures.specs.declared.seed_target.SeedCounts.{SeedCounts}
use Rattle.captures.specs.declared.seed_target.SeedCounts.TheVariants.{Written, Counted}
use Rattle.captures.specs.Seeds.{generated, is_counted, seed_counts, seed_meaning, seed_output, seed_rejections, seed_report}
use Rattle.captures.specs.Counting.{CountsText, IsSeedFault, WritesText}

-- a run that is done
done_by : {S T U : Type 0} (to : SeedTo) (seed n r : ℕ) (b a : World S T U) (counts : SeedCounts) → a.input ≡ b.input → (is_counted to ≡ false → a.report ≡ b.report)
    → Appends b.written a.written (seed_output to seed n r) → Appends b.reported a.reported (seed_report to seed n r) → counts ≡ seed_counts to seed n r
    → a.reads_failed ≡ b.reads_failed → a.writes_failed ≡ b.writes_failed → a.reports_failed ≡ b.reports_failed → IsDone (seed_meaning to seed n r) b a counts
done_by to seed n r b a counts unread silent text told same reads writes reports = record {
  taken = [];
  consumes = refl;
  end = refl;
  fits = omega arith;
  counted = ap Some (sym same);
  text = text;
  told = told;
  leaves = record { unread = λ e. unread; silent = silent };
  reads = reads;
  writes = writes;
  reports = reports;
}

-- a run that broke off
seed_says : {S T U : Type 0} (to : SeedTo) (seed n r : ℕ) (b a : World S T U) (fault : BridgeFault) → (fault ≡ ReportFault → is_counted to ≡ true)
    → IsSeedFault (faults_of 0 b.writes_failed b.reports_failed) (faults_of 0 a.writes_failed a.reports_failed) fault → Says (seed_meaning to seed n r) [] b a fault
seed_says to seed n r b a ReadFault reports h = absurd h
seed_says to seed n r b a WriteFault reports h = (h.0, refl)
seed_says to seed n r b a ReportFault reports h = (reports refl, h.0, refl)
seed_says to seed n r b a NotThisForm reports h = absurd h
seed_says to seed n r b a TooLong reports h = absurd h
seed_says to seed n r b a NoMemory reports h = (refl, refl, omega arith)

seed_cause : {S T U : Type 0} (b a : World S T U) (fault : BridgeFault) → a.reads_failed ≡ b.reads_failed
    → IsSeedFault (faults_of 0 b.writes_failed b.reports_failed) (faults_of 0 a.writes_failed a.reports_failed) fault → HasItsCause {T = Unit {0}} (faults_in b) (faults_in a) (Err fault)
seed_cause b a ReadFault reads h = absurd h
seed_cause b a WriteFault reads h = write_failed b a h.0 reads (ap (λ (f : Faults). f.report) h.1)
seed_cause b a ReportFault reads h = report_failed b a h.0 reads (ap (λ (f : Faults). f.output) h.1)
seed_cause b a NotThisForm reads h = absurd h
seed_cause b a TooLong reads h = absurd h
seed_cause b a NoMemory reads h = none_failed b a reads (ap (λ (f : Faults). f.output) h) (ap (λ (f : Faults). f.report) h)

broke_by : {S T U : Type 0} (to : SeedTo) (seed n r : ℕ) (b a : World S T U) (fault : BridgeFault) → a.input ≡ b.input → (is_counted to ≡ false → a.report ≡ b.report) → (fault ≡ ReportFault → is_counted to ≡ true)
    → AppendsPrefix b.written a.written (seed_output to seed n r) → AppendsPrefix b.reported a.reported (seed_report to seed n r)
    → AppendsPrefix b.reported a.reported (seed_rejections to seed n r) ⊎ ((fault ≡ ReportFault) × Appends b.written a.written (seed_output to seed n r)) → a.reads_failed ≡ b.reads_failed
    → IsSeedFault (faults_of 0 b.writes_failed b.reports_failed) (faults_of 0 a.writes_failed a.reports_failed) fault → IsBroken (seed_meaning to seed n r) b a fault
broke_by to seed n r b a fault unread silent reports text told counts_last reads cause = record {
  taken = [];
  consumes = refl;
  text = between b.written a.written (seed_output to seed n r) text;
  told = between b.reported a.reported (seed_report to seed n r) told;
  ahead = (text, told);
  stopped = tt;
  counts_last = ⊎_elim
      (λ (none : AppendsPrefix b.reported a.reported (seed_rejections to seed n r)). inl none)
      (λ (wrote : (fault ≡ ReportFault) × Appends b.written a.written (seed_output to seed n r)). inr (wrote.0, refl, wrote.1))
      counts_last;
  cause = seed_cause b a fault reads cause;
  leaves = record { unread = λ e. unread; silent = silent };
  says = seed_says to seed n r b a fault reports cause;
}

-- nothing was written and nothing reported
pub no_memory : {S T U : Type 0} (to : SeedTo) (seed n r : ℕ) (b : World S T U) → IsBroken (seed_meaning to seed n r) b b NoMemory
no_memory to seed n r b =
    broke_by to seed n r b b NoMemory refl (λ e. refl) (λ e. absurd cc) ([], (seed_output to seed n r, refl), Appends-nil b.written) ([], (seed_report to seed n r, refl), Appends-nil b.reported)
    (inl ([], (seed_rejections to seed n r, refl), Appends-nil b.reported)) refl refl

-- ---- the capture

written_by : {S T U : Type 0} (seed n r : ℕ) (text : List ℕ) (b a : World S T U) (result : Result SeedCounts BridgeFault) → text ≡ capture_text seed n r → a.input ≡ b.input → a.report ≡ b.report
    → a.reads_failed ≡ b.reads_failed → a.reports_failed ≡ b.reports_failed → Appends b.reported a.reported []
    → WritesText text b.written a.written (faults_of 0 b.writes_failed 0) (faults_of 0 a.writes_failed 0) result → Ended (seed_meaning seeds.Capture seed n r) b a result
written_by seed n r text b a (Ok counts) same unread unsaid reads reports told h =
    done_by seeds.Capture seed n r b a counts unread (λ e. unsaid) (subst (Appends b.written a.written) same h.0) told (h.1 ∙ ap (λ (l : List ℕ). Written (length l)) same) reads
    (ap (λ (f : Faults). f.output) h.2) reports
written_by seed n r text b a (Err WriteFault) same unread unsaid reads reports told h =
    broke_by seeds.Capture seed n r b a WriteFault unread (λ e. unsaid) (λ e. absurd cc) (subst (AppendsPrefix b.written a.written) same h.0) ([], ([], refl), told)
    (inl ([], ([], refl), told)) reads (h.1, ap (λ (n : ℕ). faults_of 0 a.writes_failed n) reports)
written_by seed n r text b a (Err ReadFault) same unread unsaid reads reports told h = absurd h
written_by seed n r text b a (Err ReportFault) same unread unsaid reads reports told h = absurd h
written_by seed n r text b a (Err NotThisForm) same unread unsaid reads reports told h = absurd h
written_by seed n r text b a (Err TooLong) same unread unsaid reads reports told h = absurd h
written_by seed n r text b a (Err NoMemory) same unread unsaid reads reports told h = absurd h

pub ended_capture : {S T U : Type 0} (to : SeedTo) (seed n r : ℕ) (text : List ℕ) (b a : World S T U) (result : Result SeedCounts BridgeFault) → to ≡ seeds.Capture → text ≡ capture_text seed n r
    → a.input ≡ b.input → a.report ≡ b.report → a.reads_failed ≡ b.reads_failed → a.reports_failed ≡ b.reports_failed → Appends b.reported a.reported []
    → WritesText text b.written a.written (faults_of 0 b.writes_failed 0) (faults_of 0 a.writes_failed 0) result → Ended (seed_meaning to seed n r) b a result
ended_capture to seed n r text b a result is same unread unsaid reads reports told h =
    subst (λ (t : SeedTo). Ended (seed_meaning t seed n r) b a result) (sym is) (written_by seed n r text b a result same unread unsaid reads reports told h)

-- ---- the counts

pub is_accepted : (capture : Option Capture) (c : Capture) → capture ≡ Some c → IsSome capture
is_accepted capture c e = subst (λ (o : Option Capture). IsSome o) (sym e) refl

some_is : (x y : CaptureCounts) → Some x ≡ Some y → x ≡ y
some_is x y e = cc

known_counts : (counts : SeedCounts) (capture : Option Capture) (c : Capture) (of : CaptureCounts) → capture ≡ Some c → counts_in capture ≡ Some of → counts ≡ Counted of → counts ≡ Counted (counts_of c)
known_counts counts capture c of e is h = h ∙ ap Counted (some_is of (counts_of c) (sym is ∙ ap counts_in e))

counted_by : {S T U : Type 0} (seed n r : ℕ) (b a : World S T U) (result : Result SeedCounts BridgeFault)
    → capture_of (Some r) (capture_text seed n r) ≡ Some (generated seed n r)
    → output_of Count (Some r) (capture_text seed n r) ≡ seed_output seeds.Count seed n r
    → report_of_capture (Some r) (capture_text seed n r) ≡ seed_report seeds.Count seed n r
    → a.input ≡ b.input → a.reads_failed ≡ b.reads_failed
    → CountsText r (capture_text seed n r) b.written a.written b.reported a.reported (faults_of 0 b.writes_failed b.reports_failed) (faults_of 0 a.writes_failed a.reports_failed) result
    → Ended (seed_meaning seeds.Count seed n r) b a result
counted_by seed n r b a (Ok counts) capture output report unread reads h =
    done_by seeds.Count seed n r b a counts unread (λ e. absurd (true≢false e)) (subst (Appends b.written a.written) output h.wrote) (subst (Appends b.reported a.reported) report h.told)
    (known_counts counts (capture_of (Some r) (capture_text seed n r)) (generated seed n r) h.of capture h.of_is h.counted) reads (ap (λ (f : Faults). f.output) h.quiet) (ap (λ (f : Faults). f.report) h.quiet)
counted_by seed n r b a (Err fault) capture output report unread reads h =
    broke_by seeds.Count seed n r b a fault unread (λ e. absurd (true≢false e)) (λ e. refl) (subst (AppendsPrefix b.written a.written) output h.0.0) (subst (AppendsPrefix b.reported a.reported) report h.0.1)
    (⊎_elim
    (λ (none : AppendsPrefix b.reported a.reported (refusals_text (capture_of (Some r) (capture_text seed n r)))). inl (subst (AppendsPrefix b.reported a.reported) (ap refusals_text capture) none))
    (λ (wrote : (fault ≡ ReportFault) × Appends b.written a.written (output_of Count (Some r) (capture_text seed n r))). inr (wrote.0, subst (Appends b.written a.written) output wrote.1))
    h.2) reads h.1

pub ended_count : {S T U : Type 0} (to : SeedTo) (seed n r : ℕ) (text : List ℕ) (b a : World S T U) (result : Result SeedCounts BridgeFault) → to ≡ seeds.Count → text ≡ capture_text seed n r
    → capture_of (Some r) (capture_text seed n r) ≡ Some (generated seed n r)
    → output_of Count (Some r) (capture_text seed n r) ≡ seed_output seeds.Count seed n r
    → report_of_capture (Some r) (capture_text seed n r) ≡ seed_report seeds.Count seed n r
    → a.input ≡ b.input → a.reads_failed ≡ b.reads_failed
    → CountsText r text b.written a.written b.reported a.reported (faults_of 0 b.writes_failed b.reports_failed) (faults_of 0 a.writes_failed a.reports_failed) result
    → Ended (seed_meaning to seed n r) b a result
ended_count to seed n r text b a result is same capture output report unread reads h =
    subst (λ (t : SeedTo). Ended (seed_meaning t seed n r) b a result) (sym is)
    (counted_by seed n r b a result capture output report unread reads
    (subst (λ (l : List ℕ). CountsText r l b.written a.written b.reported a.reported (faults_of 0 b.writes_failed b.reports_failed) (faults_of 0 a.writes_failed a.reports_failed) result) same h))
