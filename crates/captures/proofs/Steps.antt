-- A line, processed and written: the state before, within and after it.
use Rattle.std.proofs.Common.{◌≡◌, ℕ, ◌+◌, ◌-◌, ◌<◌, ◌≤◌, ◌^◌, List, [], ◌∷◌, ◌++◌, length, Option, None, refl, sym, ap, subst, ◌∙◌, arith, length-append}
use Rattle.std.specs.Prelude.{Result, Ok, Err, OnOk, OnErr, MatchResult}
use Rattle.std.specs.Io.KnownBytes.{Appends}
use Rattle.std.proofs.KnownBytes.{Appends-trans}
use Rattle.nav_io.specs.Prefix.{AppendsPrefix}
use Rattle.nav_io.specs.Lines.{Line}
use Rattle.nav_eph.specs.declared.part.Part.{Part}
use Rattle.capture_lines.specs.declared.item.LineItem.{LineItem}
use Rattle.periods.specs.declared.closed.Closed.{Closed}
use Rattle.periods.specs.PeriodsOf.{closed_of, periods_of}
use Rattle.slot_assembly.specs.Standing.{Standing, Stood}
use Rattle.slot_assembly.specs.Given.{last_from, flushed}
use Rattle.slot_assembly.proofs.Surface.{standing, closed_of-last}
use Rattle.slot_assembly.specs.SlotStanding.{SlotsState, SlotsStandFor}
use Rattle.capture_log.specs.Events.{Known, events_of, item_line, known_with}
use Rattle.capture_log.specs.Log.{Noted, log_of, watermark_after, noted, parts_in, parts_of}
use Rattle.one_run.specs.Causes.{faults_of}
use Rattle.one_run.specs.Runs.{AppendsBetween}
use Rattle.one_run.specs.declared.fault.BridgeFault.{BridgeFault}
use Rattle.one_run.specs.declared.fault.BridgeFault.TheVariants.{ReadFault, WriteFault, ReportFault, TooLong, NoMemory, NotThisForm}
use Rattle.captures.specs.declared.accept.Accepted.{Accepted}
use Rattle.captures.specs.declared.counts.VerdictCounts.{VerdictCounts}
use Rattle.captures.specs.declared.counts.EventCounts.{EventCounts}
use Rattle.captures.specs.declared.receiving.CaptureState.{CaptureState}
use Rattle.streams.specs.declared.target.Target.{Target}
use Rattle.captures.specs.Captures.{texts_of}
use Rattle.captures.specs.Converts.{Counted, closed_texts, no_tally, period_texts}
use Rattle.captures.specs.Hearings.{Finished, IsOpenAt, IsStepFault, Stands, StandsAt, StepBroke, Takes, Unreceived}
use Rattle.captures.specs.Notes.{KeepsHalves, line_report, tallied, total}
use Rattle.captures.specs.Flushed.{HasRoom, IsWriting, Flushed, said_of}
use Rattle.one_run.proofs.Surface.{between_behind, between_whole, between_within, prefix_same}
use Rattle.captures.proofs.Prefixes.{LogLaws, counts_low, periods_low, written_line, written_still}
use Rattle.captures.proofs.CapturePrefixes.{report_prefix}
use Rattle.captures.proofs.Logs.{halves_line, known_line, known_of, log_line, parts_append, parts_line, report_append, square_next, tally_append}

-- ---- before the line

-- the watermark of the assembly is that of the lines
pub stands_open : (to : Target) (head : Accepted) (lines : List Line) (h : CaptureState) (start written told reported : Option (List ℕ))
    → Stands to head lines h start written told reported → IsOpenAt h.receiver (h.greatest - h.window)
stands_open to head lines h start written told reported s = (
  flushed head.week head.window (parts_of head.window lines) (watermark_after head.window lines),
  s.flushed.stands,
  omega (arith, s.counted.greatest_is, s.own),
)

-- one line more can be counted, since each line has a byte
pub stands_room : (to : Target) (head : Accepted) (number : ℕ) (lines : List Line) (h : CaptureState) (start written told reported : Option (List ℕ))
    → Stands to head lines h start written told reported → number ≡ 2 + length lines → number < 2 ^ 32 → total h.receiver.tally + length h.halves.kept + 1 < 2 ^ 64
stands_room to head number lines h start written told reported s e low =
    counts_low (length lines) (total h.receiver.tally) (length h.halves.kept) s.counted.room s.counted.few (omega (arith, e, low))

-- the kept page parts are those that the lines need
pub stands_keeps : (to : Target) (head : Accepted) (lines : List Line) (h : CaptureState) (start written told reported : Option (List ℕ))
    → Stands to head lines h start written told reported → KeepsHalves h.halves h.window (known_of head.window lines)
stands_keeps to head lines h start written told reported s = subst (λ (w : ℕ). KeepsHalves h.halves w (known_of head.window lines)) (sym s.own) s.counted.keeps

-- ---- the line is taken

-- the parts of one line more, and what is closed of them at the watermark before
flushed_line : (laws : LogLaws) (r window m : ℕ) (to : Target) (lines : List Line) (line : Line) (old new : CaptureState) (start written reported reported_new : Option (List ℕ)) (known : Known)
    → m ≡ 2 + length lines → Takes old new reported reported_new (noted m (events_of window (known_of window lines) (item_line line))) known
    → Flushed (SlotsStandFor old.receiver.assembly) r window to (parts_of window lines) (watermark_after window lines) start written old.said
    → Flushed (SlotsStandFor new.receiver.assembly) r window to (parts_of window (lines ++ line ∷ [])) (watermark_after window lines) start written new.said
flushed_line laws r window m to lines line old new start written reported reported_new known e takes h =
    let watermark = watermark_after window lines in
    let now = SlotsStandFor new.receiver.assembly in
    let log = noted m (events_of window (known_of window lines) (item_line line)) in
    let parts : parts_of window lines ++ parts_in log ≡ parts_of window (lines ++ line ∷ []) =
    sym (ap parts_in (log_line window m lines line e) ∙ parts_append (log_of window lines) log) in
    let closed = sym (laws.later r window lines (line ∷ [])) in
    let stands = takes.hears.notes.parts (flushed r window (parts_of window lines) watermark) h.stands in
    record {
      stands = subst (λ (cs : List Closed). now (standing (parts_of window (lines ++ line ∷ [])) watermark (last_from None cs))) closed
          (subst (λ (ps : List Part). now (standing ps watermark (last_from None (closed_of r window watermark (parts_of window lines))))) parts stands);
      text = subst (λ (cs : List Closed). Appends start written (texts_of to cs)) closed h.text;
      counts = takes.said ∙ h.counts ∙ ap said_of closed;
    }

-- the counts with one line more
counted_line : (window m : ℕ) (lines : List Line) (line : Line) (old new : CaptureState) (reported reported_new : Option (List ℕ))
    → m ≡ 2 + length lines → Takes old new reported reported_new (noted m (events_of window (known_of window lines) (item_line line))) (known_with window (known_of window lines) (item_line line))
    → old.window ≡ window → Counted window lines old.halves old.receiver.tally old.greatest → Counted window (lines ++ line ∷ []) new.halves new.receiver.tally new.greatest
counted_line window m lines line old new reported reported_new e takes own h =
    let log = noted m (events_of window (known_of window lines) (item_line line)) in
    let known = sym (known_line window lines line) in
    let size = length-append lines (line ∷ []) in
    let next = square_next (length lines) 3 (length (lines ++ line ∷ [])) (omega (arith, size)) in
    record {
      keeps = subst (λ (k : Known). KeepsHalves new.halves window k) known (subst (λ (w : ℕ). KeepsHalves new.halves w (known_with window (known_of window lines) (item_line line))) own takes.keeps);
      greatest_is = takes.greatest ∙ ap (λ (k : Known). k.greatest) known;
      counts = takes.hears.notes.counts ∙ ap (λ (t : EventCounts). tallied t log) h.counts ∙ sym (tally_append no_tally (log_of window lines) log)
          ∙ ap (tallied no_tally) (sym (log_line window m lines line e));
      few = omega (arith, h.few, takes.kept, size);
      room = omega (arith, h.room, h.few, takes.room, next, size);
      halves = halves_line window lines line h.halves;
      parts = parts_line window lines line h.halves h.parts;
    }

pub stands_taken : (laws : LogLaws) (to : Target) (head : Accepted) (number : ℕ) (lines : List Line) (line : Line) (old new : CaptureState) (start written told reported reported_new : Option (List ℕ))
    → Stands to head lines old start written told reported → number ≡ 2 + length lines
    → Takes old new reported reported_new (noted number (events_of head.window (known_of head.window lines) (item_line line))) (known_with head.window (known_of head.window lines) (item_line line))
    → StandsAt to head (watermark_after head.window lines) (lines ++ line ∷ []) new start written told reported_new
stands_taken laws to head number lines line old new start written told reported reported_new s e takes =
    let log = noted number (events_of head.window (known_of head.window lines) (item_line line)) in
    record {
      low = s.low;
      own = takes.window ∙ s.own;
      week = takes.hears.reference ∙ s.week;
      window = takes.hears.window ∙ s.window;
      flushed = flushed_line laws head.week head.window number to lines line old new start written reported reported_new _ e takes s.flushed;
      report = subst (Appends told reported_new) (sym (ap line_report (log_line head.window number lines line e) ∙ report_append (log_of head.window lines) log))
          (Appends-trans told reported reported_new (line_report (log_of head.window lines)) (line_report log) s.report takes.hears.notes.text);
      counted = counted_line head.window number lines line old new reported reported_new e takes s.own s.counted;
    }

-- the same for the item and the window of the state
pub took_line : (laws : LogLaws) (to : Target) (head : Accepted) (number : ℕ) (lines : List Line) (line : Line) (item : LineItem) (old new : CaptureState) (start written told reported reported_new : Option (List ℕ))
    → Stands to head lines old start written told reported → number ≡ 2 + length lines → item ≡ item_line line
    → Takes old new reported reported_new (noted number (events_of old.window (known_of head.window lines) item)) (known_with old.window (known_of head.window lines) item)
    → StandsAt to head (watermark_after head.window lines) (lines ++ line ∷ []) new start written told reported_new
took_line laws to head number lines line item old new start written told reported reported_new s e is takes =
    let known = known_of head.window lines in
    stands_taken laws to head number lines line old new start written told reported reported_new s e
    (subst (λ (w : ℕ). Takes old new reported reported_new (noted number (events_of w known (item_line line))) (known_with w known (item_line line))) s.own
    (subst (λ (i : LineItem). Takes old new reported reported_new (noted number (events_of old.window known i)) (known_with old.window known i)) is takes))

-- by what the item broke off
unheard_cause : (v w : Option (List ℕ)) (written before now : ℕ) (log : List Noted) (fault : BridgeFault) → Unreceived v w before now log fault
    → AppendsPrefix v w (line_report log) × IsStepFault (faults_of 0 written before) (faults_of 0 written now) fault
unheard_cause v w written before now log ReportFault h = (h.0, (h.1, refl))
unheard_cause v w written before now log NoMemory h = (h.0, ap (λ (n : ℕ). faults_of 0 written n) h.1)
unheard_cause v w written before now log ReadFault h = absurd h
unheard_cause v w written before now log WriteFault h = absurd h
unheard_cause v w written before now log TooLong h = absurd h
unheard_cause v w written before now log NotThisForm h = absurd h

-- it was not taken whole
pub broke_item : (laws : LogLaws) (to : Target) (head : Accepted) (number : ℕ) (lines : List Line) (line : Line) (item : LineItem) (h : CaptureState) (start written told reported reported_new : Option (List ℕ)) (writes before now : ℕ) (fault : BridgeFault)
    → Stands to head lines h start written told reported → number ≡ 2 + length lines → item ≡ item_line line
    → Unreceived reported reported_new before now (noted number (events_of h.window (known_of head.window lines) item)) fault
    → StepBroke to head lines line start written told reported_new (faults_of 0 writes before) (faults_of 0 writes now) fault
broke_item laws to head number lines line item h start written told reported reported_new writes before now fault s e is unheard =
    let known = known_of head.window lines in
    let log = noted number (events_of head.window known (item_line line)) in
    let own : Unreceived reported reported_new before now log fault =
    subst (λ (w : ℕ). Unreceived reported reported_new before now (noted number (events_of w known (item_line line))) fault) s.own
    (subst (λ (i : LineItem). Unreceived reported reported_new before now (noted number (events_of h.window known i)) fault) is unheard) in
    let both = unheard_cause reported reported_new writes before now log fault own in
    record {
      text = written_still laws head.week head.window to lines (line ∷ []) start written s.flushed.text;
      report = subst (AppendsBetween told reported_new (line_report (log_of head.window lines)))
          (sym (ap line_report (log_line head.window number lines line e) ∙ report_append (log_of head.window lines) log))
          (between_behind told reported reported_new (line_report (log_of head.window lines)) (line_report log) s.report both.0);
      cause = both.1;
    }

-- ---- what is closed by it is written

-- the watermark does not fall
watermark_line : (window : ℕ) (lines : List Line) (line : Line) → watermark_after window lines ≤ watermark_after window (lines ++ line ∷ [])
unfolding known_with
watermark_line window lines line =
    let known = ap (λ (k : Known). k.greatest) (known_line window lines line) in
    omega (arith, known)

pub watermark_rises : (to : Target) (head : Accepted) (before watermark : ℕ) (lines : List Line) (line : Line) (old h : CaptureState) (start written told reported started wrote toldly reporting : Option (List ℕ))
    → Stands to head lines old start written told reported → before ≡ old.greatest - old.window
    → StandsAt to head (watermark_after head.window lines) (lines ++ line ∷ []) h started wrote toldly reporting → watermark ≡ h.greatest - h.window
    → (before ≡ watermark_after head.window lines) × (watermark ≡ watermark_after head.window (lines ++ line ∷ [])) × (before ≤ watermark)
watermark_rises to head before watermark lines line old h start written told reported started wrote toldly reporting s was at is =
    let first : before ≡ watermark_after head.window lines = omega (arith, was, s.counted.greatest_is, s.own) in
    let second : watermark ≡ watermark_after head.window (lines ++ line ∷ []) = omega (arith, is, at.counted.greatest_is, at.own) in
    (first, second, omega (arith, first, second, watermark_line head.window lines line))

-- what is asked of the assembly before it is written
pub stands_stood : (to : Target) (head : Accepted) (before watermark : ℕ) (lines : List Line) (h : CaptureState) (start written told reported : Option (List ℕ))
    → StandsAt to head before lines h start written told reported → before ≤ watermark → Stood (SlotsStandFor h.receiver.assembly) (λ at. at.watermark ≤ watermark)
stands_stood to head before watermark lines h start written told reported s low =
    (flushed head.week head.window (parts_of head.window lines) before, s.flushed.stands, low)

room_at : (now : Standing → Type 0) (r s w v watermark : ℕ) (said : VerdictCounts) → r ≡ s → w ≡ v → HasRoom now r w watermark said → HasRoom now s v watermark said
room_at now r s w v watermark said e f h = subst (λ (x : ℕ). HasRoom now s x watermark said) f (subst (λ (x : ℕ). HasRoom now x w watermark said) e h)

pub stands_counted : (to : Target) (head : Accepted) (before watermark number : ℕ) (lines : List Line) (h : CaptureState) (start written told reported : Option (List ℕ))
    → StandsAt to head before lines h start written told reported → before ≤ watermark → number ≡ 1 + length lines → number < 2 ^ 32
    → HasRoom (SlotsStandFor h.receiver.assembly) h.receiver.assembly.reference h.receiver.assembly.window watermark h.said
stands_counted to head before watermark number lines h start written told reported s rising e low =
    room_at (SlotsStandFor h.receiver.assembly) _ _ _ _ watermark h.said (sym s.week) (sym s.window) (record {
      parts = parts_of head.window lines;
      before = before;
      low = rising;
      few = periods_low head.week head.window (length lines) (parts_of head.window lines) s.counted.parts (omega (arith, e, low));
      stands = s.flushed.stands;
      counts = s.flushed.counts;
    })

-- for an equal week and an equal window
flushed_at : (now : Standing → Type 0) (r s w v : ℕ) (to : Target) (parts : List Part) (watermark : ℕ) (start written : Option (List ℕ)) (said : VerdictCounts) → r ≡ s → w ≡ v
    → Flushed now r w to parts watermark start written said → Flushed now s v to parts watermark start written said
flushed_at now r s w v to parts watermark start written said e f h =
    subst (λ (x : ℕ). Flushed now s x to parts watermark start written said) f (subst (λ (x : ℕ). Flushed now x w to parts watermark start written said) e h)

-- for the week and the window of the assembly
pub own_flushed : (to : Target) (head : Accepted) (before : ℕ) (lines : List Line) (h : CaptureState) (start written told reported : Option (List ℕ))
    → StandsAt to head before lines h start written told reported
    → Flushed (SlotsStandFor h.receiver.assembly) h.receiver.assembly.reference h.receiver.assembly.window to (parts_of head.window lines) before start written h.said
own_flushed to head before lines h start written told reported s = flushed_at (SlotsStandFor h.receiver.assembly) _ _ _ _ to _ before start written h.said (sym s.week) (sym s.window) s.flushed

-- a hearing whose assembly gave periods, which were counted
abbrev pub hearing_wrote : CaptureState → SlotsState → VerdictCounts → CaptureState
hearing_wrote h assembly said = record { window = h.window; greatest = h.greatest; halves = h.halves; receiver = record { assembly = assembly; tally = h.receiver.tally }; said = said }

pub stands_written : (to : Target) (head : Accepted) (before watermark : ℕ) (lines : List Line) (h : CaptureState) (assembly : SlotsState) (said : VerdictCounts) (start written written_new told reported : Option (List ℕ))
    → StandsAt to head before lines h start written told reported → watermark ≡ watermark_after head.window lines
    → assembly.reference ≡ h.receiver.assembly.reference → assembly.window ≡ h.receiver.assembly.window
    → Flushed (SlotsStandFor assembly) h.receiver.assembly.reference h.receiver.assembly.window to (parts_of head.window lines) watermark start written_new said
    → Stands to head lines (hearing_wrote h assembly said) start written_new told reported
stands_written to head before watermark lines h assembly said start written written_new told reported s is week window wrote = record {
  low = s.low;
  own = s.own;
  week = week ∙ s.week;
  window = window ∙ s.window;
  flushed = subst (λ (m : ℕ). Flushed (SlotsStandFor assembly) head.week head.window to (parts_of head.window lines) m start written_new said) is
      (flushed_at (SlotsStandFor assembly) _ _ _ _ to _ watermark start written_new said s.week s.window wrote);
  report = s.report;
  counted = s.counted;
}

-- by what writing broke off
writing_cause : (told before now : ℕ) (fault : BridgeFault) → IsWriting {T = Unit {0}} before now (Err fault) → IsStepFault (faults_of 0 before told) (faults_of 0 now told) fault
writing_cause told before now WriteFault h = (h, refl)
writing_cause told before now NoMemory h = ap (λ (n : ℕ). faults_of 0 n told) h
writing_cause told before now ReadFault h = absurd h
writing_cause told before now ReportFault h = absurd h
writing_cause told before now TooLong h = absurd h
writing_cause told before now NotThisForm h = absurd h

-- what was written, for the week and the window of the assembly
abbrev pub ClosedBetween : ℕ → ℕ → Target → List Part → ℕ → ℕ → Option (List ℕ) → Option (List ℕ) → Type 0
ClosedBetween r w to parts before watermark start written = AppendsBetween start written (texts_of to (closed_of r w before parts)) (texts_of to (closed_of r w watermark parts))

closed_at : (r s w v : ℕ) (to : Target) (parts : List Part) (before watermark : ℕ) (start written : Option (List ℕ)) → r ≡ s → w ≡ v
    → ClosedBetween r w to parts before watermark start written → ClosedBetween s v to parts before watermark start written
closed_at r s w v to parts before watermark start written e f h =
    subst (λ (x : ℕ). ClosedBetween s x to parts before watermark start written) f (subst (λ (x : ℕ). ClosedBetween x w to parts before watermark start written) e h)

pub broke_writing : (laws : LogLaws) (to : Target) (head : Accepted) (before watermark : ℕ) (lines : List Line) (line : Line) (h : CaptureState) (start written written_new told reported : Option (List ℕ)) (reports failed now : ℕ) (fault : BridgeFault)
    → StandsAt to head (watermark_after head.window lines) (lines ++ line ∷ []) h start written told reported → before ≡ watermark_after head.window lines → watermark ≡ watermark_after head.window (lines ++ line ∷ [])
    → ClosedBetween h.receiver.assembly.reference h.receiver.assembly.window to (parts_of head.window (lines ++ line ∷ [])) before watermark start written_new
    → IsWriting {T = Unit {0}} failed now (Err fault)
    → StepBroke to head lines line start written_new told reported (faults_of 0 failed reports) (faults_of 0 now reports) fault
broke_writing laws to head before watermark lines line h start written written_new told reported reports failed now fault s was is wrote cause = record {
  text = written_line laws head.week head.window to lines (line ∷ []) start written_new _
      (subst (λ (n : ℕ). ClosedBetween head.week head.window to (parts_of head.window (lines ++ line ∷ [])) n (watermark_after head.window (lines ++ line ∷ [])) start written_new) was
      (subst (λ (n : ℕ). ClosedBetween head.week head.window to (parts_of head.window (lines ++ line ∷ [])) before n start written_new) is
      (closed_at _ _ _ _ to (parts_of head.window (lines ++ line ∷ [])) before watermark start written_new s.week s.window wrote)));
  report =
      let all = line_report (log_of head.window (lines ++ line ∷ [])) in
      between_within told reported (line_report (log_of head.window lines)) all all all (report_prefix head.window lines (line ∷ [])) (prefix_same all) (between_whole told reported all s.report);
  cause = writing_cause reports failed now fault cause;
}

-- ---- the end

-- the last watermark
abbrev pub last_watermark : ℕ
last_watermark = 18446744073709551615

last_closed : (laws : LogLaws) (head : Accepted) (lines : List Line) → head.window ≤ 14400
    → closed_of head.week head.window last_watermark (parts_of head.window lines) ≡ periods_of head.week head.window (parts_of head.window lines)
last_closed laws head lines low = closed_of-last head.week head.window last_watermark (parts_of head.window lines) (laws.values head.window lines) (omega (arith, low)) refl

pub finished_written : (laws : LogLaws) (to : Target) (head : Accepted) (lines : List Line) (h : CaptureState) (assembly : SlotsState) (said : VerdictCounts) (start written written_new told reported : Option (List ℕ))
    → Stands to head lines h start written told reported
    → Flushed (SlotsStandFor assembly) h.receiver.assembly.reference h.receiver.assembly.window to (parts_of head.window lines) last_watermark start written_new said
    → Finished to head lines h (hearing_wrote h assembly said) start written_new
finished_written laws to head lines h assembly said start written written_new told reported s wrote =
    let flushes : Flushed (SlotsStandFor assembly) head.week head.window to (parts_of head.window lines) last_watermark start written_new said =
    flushed_at (SlotsStandFor assembly) _ _ _ _ to _ last_watermark start written_new said s.week s.window wrote in
    let all = last_closed laws head lines s.low in
    record {
      text = subst (λ (cs : List Closed). Appends start written_new (texts_of to cs)) all flushes.text;
      verdicts = flushes.counts ∙ ap said_of all;
      tally = refl;
    }

pub broke_finishing : (laws : LogLaws) (to : Target) (head : Accepted) (lines : List Line) (h : CaptureState) (start written written_new told reported : Option (List ℕ))
    → Stands to head lines h start written told reported
    → ClosedBetween h.receiver.assembly.reference h.receiver.assembly.window to (parts_of head.window lines) (watermark_after head.window lines) last_watermark start written_new
    → AppendsBetween start written_new (closed_texts to head lines) (period_texts to head lines)
broke_finishing laws to head lines h start written written_new told reported s wrote =
    let between : ClosedBetween head.week head.window to (parts_of head.window lines) (watermark_after head.window lines) last_watermark start written_new =
    closed_at _ _ _ _ to (parts_of head.window lines) (watermark_after head.window lines) last_watermark start written_new s.week s.window wrote in
    subst (λ (cs : List Closed). AppendsBetween start written_new (closed_texts to head lines) (texts_of to cs)) (last_closed laws head lines s.low) between

-- ---- by what writing answers

-- whatever the answer's type
as_unit : (T : Type 0) (fault : BridgeFault) (before now : ℕ) → IsWriting {T = T} before now (Err fault) → IsWriting {T = Unit {0}} before now (Err fault)
as_unit T WriteFault before now h = h
as_unit T NoMemory before now h = h
as_unit T ReadFault before now h = absurd h
as_unit T ReportFault before now h = absurd h
as_unit T TooLong before now h = absurd h
as_unit T NotThisForm before now h = absurd h

abbrev WritesOn : SlotsState → SlotsState → ℕ → ℕ → Target → ℕ → ℕ → Option (List ℕ) → Option (List ℕ) → VerdictCounts → VerdictCounts → Type 0
WritesOn old new r w to before watermark written written_new said said_new =
    (parts : List Part) (start : Option (List ℕ)) → Flushed (SlotsStandFor old) r w to parts before start written said → Flushed (SlotsStandFor new) r w to parts watermark start written_new said_new

abbrev BreaksOn : SlotsState → ℕ → ℕ → Target → ℕ → ℕ → Option (List ℕ) → Option (List ℕ) → VerdictCounts → Type 0
BreaksOn old r w to before watermark written written_new said =
    (parts : List Part) (start : Option (List ℕ)) → Flushed (SlotsStandFor old) r w to parts before start written said → ClosedBetween r w to parts before watermark start written_new

pub wrote_line : {T : Type 0} (laws : LogLaws) (to : Target) (head : Accepted) (before watermark : ℕ) (lines : List Line) (line : Line) (h : CaptureState) (assembly : SlotsState) (said : VerdictCounts)
    (start written written_new told reported : Option (List ℕ)) (failed failed_new reports reports_new : ℕ) (result : Result T BridgeFault)
    → StandsAt to head (watermark_after head.window lines) (lines ++ line ∷ []) h start written told reported
    → before ≡ watermark_after head.window lines → watermark ≡ watermark_after head.window (lines ++ line ∷ [])
    → assembly.reference ≡ h.receiver.assembly.reference → assembly.window ≡ h.receiver.assembly.window
    → OnOk result (WritesOn h.receiver.assembly assembly h.receiver.assembly.reference h.receiver.assembly.window to before watermark written written_new h.said said)
    → OnErr result (BreaksOn h.receiver.assembly h.receiver.assembly.reference h.receiver.assembly.window to before watermark written written_new h.said)
    → IsWriting failed failed_new result → reports_new ≡ reports
    → MatchResult result
    (λ x. Stands to head (lines ++ line ∷ []) (hearing_wrote h assembly said) start written_new told reported × (faults_of 0 failed_new reports_new ≡ faults_of 0 failed reports))
    (λ fault. StepBroke to head lines line start written_new told reported (faults_of 0 failed reports) (faults_of 0 failed_new reports_new) fault)
wrote_line {T = T} laws to head before watermark lines line h assembly said start written written_new told reported failed failed_new reports reports_new (Ok x) s was is week window ok err cause same =
    let here : StandsAt to head before (lines ++ line ∷ []) h start written told reported =
    subst (λ (n : ℕ). StandsAt to head n (lines ++ line ∷ []) h start written told reported) (sym was) s in (
      stands_written to head before watermark (lines ++ line ∷ []) h assembly said start written written_new told reported here is week window
          (ok (parts_of head.window (lines ++ line ∷ [])) start (own_flushed to head before (lines ++ line ∷ []) h start written told reported here)),
      rw (cause, same) refl,
    )
wrote_line {T = T} laws to head before watermark lines line h assembly said start written written_new told reported failed failed_new reports reports_new (Err fault) s was is week window ok err cause same =
    let here : StandsAt to head before (lines ++ line ∷ []) h start written told reported =
    subst (λ (n : ℕ). StandsAt to head n (lines ++ line ∷ []) h start written told reported) (sym was) s in
    rw same (broke_writing laws to head before watermark lines line h start written written_new told reported reports failed failed_new fault s was is
    (err (parts_of head.window (lines ++ line ∷ [])) start (own_flushed to head before (lines ++ line ∷ []) h start written told reported here)) (as_unit T fault failed failed_new cause))

pub wrote_all : {T : Type 0} (laws : LogLaws) (to : Target) (head : Accepted) (lines : List Line) (h : CaptureState) (assembly : SlotsState) (said : VerdictCounts)
    (start written written_new told reported : Option (List ℕ)) (failed failed_new : ℕ) (result : Result T BridgeFault)
    → Stands to head lines h start written told reported → watermark_after head.window lines ≤ last_watermark
    → OnOk result ((parts : List Part) (before : ℕ) (start : Option (List ℕ)) → before ≤ last_watermark
    → Flushed (SlotsStandFor h.receiver.assembly) h.receiver.assembly.reference h.receiver.assembly.window to parts before start written h.said
    → Flushed (SlotsStandFor assembly) h.receiver.assembly.reference h.receiver.assembly.window to parts last_watermark start written_new said)
    → OnErr result ((parts : List Part) (before : ℕ) (start : Option (List ℕ)) → before ≤ last_watermark
    → Flushed (SlotsStandFor h.receiver.assembly) h.receiver.assembly.reference h.receiver.assembly.window to parts before start written h.said
    → ClosedBetween h.receiver.assembly.reference h.receiver.assembly.window to parts before last_watermark start written_new)
    → IsWriting failed failed_new result
    → MatchResult result (λ x. Finished to head lines h (hearing_wrote h assembly said) start written_new × (failed_new ≡ failed))
    (λ fault. AppendsBetween start written_new (closed_texts to head lines) (period_texts to head lines) × IsWriting {T = Unit {0}} failed failed_new (Err fault))
wrote_all {T = T} laws to head lines h assembly said start written written_new told reported failed failed_new (Ok x) s low ok err cause = (
  finished_written laws to head lines h assembly said start written written_new told reported s
      (ok (parts_of head.window lines) (watermark_after head.window lines) start low (own_flushed to head (watermark_after head.window lines) lines h start written told reported s)),
  cause,
)
wrote_all {T = T} laws to head lines h assembly said start written written_new told reported failed failed_new (Err fault) s low ok err cause = (
  broke_finishing laws to head lines h start written written_new told reported s
      (err (parts_of head.window lines) (watermark_after head.window lines) start low (own_flushed to head (watermark_after head.window lines) lines h start written told reported s)),
  as_unit T fault failed failed_new cause,
)
