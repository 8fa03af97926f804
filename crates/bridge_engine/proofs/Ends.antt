-- What is known of a job that was asked for, and what its end says of a capture.
use Rattle.std.proofs.Common.{◌≡◌, ◌≤◌, ℕ, List, Option, Some, None, Result, Ok, Err, false, true, refl, sym, subst, inl}
use Rattle.std.proofs.KnownBytes.{Appends-nil}
use Rattle.std.specs.Prelude.{◌↔◌, IfErr, IfSome, IsSome, MatchResult, OnErr, option_map}
use Rattle.std.specs.Io.KnownBytes.{Appends, IsAtEnd}
use Rattle.nav_io.specs.Lines.{Line}
use Rattle.capture_lines.specs.declared.item.LineItem.{LineItem}
use Rattle.periods.specs.PeriodLists.{ArePeriods, items_in}
use Rattle.periods.specs.PeriodsOf.{periods_of}
use Rattle.periods.specs.declared.closed.Closed.{Closed}
use Rattle.capture_log.specs.Received.{IsPartReceived}
use Rattle.capture_log.specs.Log.{line_items_of, parts_of}
use Rattle.rinex_write.specs.Texts.{rinex_text}
use Rattle.rinex_write.specs.declared.words.HeaderWords.{HeaderWords}
use Rattle.one_run.specs.Ends.{EndedBy, giving, status_of, uncounted}
use Rattle.captures.specs.declared.counts.CaptureCounts.{CaptureCounts}
use Rattle.bridge_engine.specs.declared.done.Done.{Done}
use Rattle.bridge_engine.specs.declared.done.Done.TheVariants as dones
use Rattle.one_run.specs.Runs.{Ended, World}
use Rattle.one_run.specs.declared.fault.BridgeFault.{BridgeFault}
use Rattle.one_run.proofs.Surface.{accepted_of, done_by, end_of, no_prefix, nothing_ahead as untouched, text_of}
use Rattle.captures.specs.Captures.{Capture as CaptureOf, capture_meaning, capture_of, counts_in, output_of, periods as periods_in, target_of}
use Rattle.captures.specs.Converts.{CapturePrefix, CountsLast}
use Rattle.captures.specs.declared.target.CaptureTo.TheVariants as captures
use Rattle.streams.specs.declared.target.Target.{Target}
use Rattle.streams.specs.declared.target.Target.TheVariants as targets
use Rattle.bridge_engine.specs.declared.job.Job.{Job}
use Rattle.bridge_engine.specs.declared.job.Job.TheVariants.{StreamToFrames, Capture, Stream, Rinex, Rinex3, SendRinex, SendRinex3, Merge, Cover, Seed}
use Rattle.bridge_engine.specs.CaptureBytes.{IsCapture, StandFor}
use Rattle.bridge_engine.specs.Job.{IsJob}
use Rattle.bridge_engine.specs.Meanings.{IsAhead, meaning_of}
use Rattle.bridge_engine.proofs.Headlines.{headline_text}
use Rattle.bridge_engine.proofs.OneJob.{one_job}

-- the laws cited: bytes and lines of a capture are read as what they are, and parts received have periods
pub record Readings : Type 0 where
  pub capture : (week : Option ℕ) (bytes : List ℕ) (c : CaptureOf) → (capture_of week bytes ≡ Some c) ↔ IsCapture week bytes c
  pub items : (lines : List Line) (items : List LineItem) → StandFor lines items ↔ (items ≡ line_items_of lines)
  pub periods : (r window : ℕ) (lines : List Line)
      → ArePeriods r window (IsPartReceived window (line_items_of lines)) (periods_of r window (parts_of window lines))

pub readings : ((week : Option ℕ) (bytes : List ℕ) (c : CaptureOf) → (capture_of week bytes ≡ Some c) ↔ IsCapture week bytes c)
    → ((lines : List Line) (items : List LineItem) → StandFor lines items ↔ (items ≡ line_items_of lines))
    → ((r window : ℕ) (lines : List Line)
    → ArePeriods r window (IsPartReceived window (line_items_of lines)) (periods_of r window (parts_of window lines)))
    → Readings
readings capture items periods = record { capture = capture; items = items; periods = periods }

-- the capture that bytes are, the periods of its parts, and the text of their items
abbrev Converts : Option ℕ → HeaderWords → List ℕ → Option (List ℕ) → Option (List ℕ) → Option (List ℕ) → Type 0
Converts week header bytes o w w' =
    (capture : CaptureOf) × (items : List LineItem) × (periods : List Closed)
    × IsCapture week bytes capture × StandFor capture.lines items
    × ArePeriods capture.week capture.window (IsPartReceived capture.window items) periods
    × Appends w w' (rinex_text header (items_in periods)) × IsAtEnd o

converts : Readings → (week : Option ℕ) (header : HeaderWords) (bytes : List ℕ) (o w w' : Option (List ℕ))
    (c : Option CaptureOf) → capture_of week bytes ≡ c
    → IsSome c → Appends w w' (output_of (targets.Rinex header) week bytes) → IsAtEnd o → Converts week header bytes o w w'
converts laws week header bytes o w w' None e some text end = absurd (let no : false ≡ true = some in cc)
converts laws week header bytes o w w' (Some capture) e some text end = (
  capture,
  line_items_of capture.lines,
  periods_in capture,
  (laws.capture week bytes capture).0 e,
  (laws.items capture.lines (line_items_of capture.lines)).1 refl,
  laws.periods capture.week capture.window capture.lines,
  subst (λ (l : List ℕ). Appends w w' l) (headline_text header week bytes capture e) text,
  end,
)

in_capture : Readings → (week : Option ℕ) (header : HeaderWords) (o o' w w' : Option (List ℕ))
    → IfSome o (λ bytes. Appends w w' (output_of (targets.Rinex header) week bytes))
    → IfSome o (λ bytes. IsSome (capture_of week bytes)) → IsAtEnd o'
    → IfSome o (λ bytes. Converts week header bytes o' w w')
in_capture laws week header None o' w w' text some end = tt
in_capture laws week header (Some bytes) o' w w' text some end = converts laws week header bytes o' w w'
    (capture_of week bytes) refl some text end

-- whether there are counts, as a meaning without counts says it
abbrev forgotten : Option CaptureCounts → Option (Unit {0})
forgotten counts = option_map (λ (done : Done). tt) (option_map dones.Capture counts)

some_capture : (o : Option (List ℕ)) (week : Option ℕ)
    → IfSome o (λ bytes. IsSome (forgotten (counts_in (capture_of week bytes))))
    → IfSome o (λ bytes. IsSome (capture_of week bytes))
some_capture None week all = tt
some_capture (Some bytes) week some = by_capture (capture_of week bytes) some where
  by_capture : (c : Option CaptureOf) → IsSome (forgotten (counts_in c)) → IsSome c
  by_capture None none = none
  by_capture (Some c) some = refl

-- a run from a capture to RINEX with status 0
pub headline_of : {S T U : Type 0} → Readings
    → (job : Job) (week : Option ℕ) (header : HeaderWords) (b a : World S T U) (status : ℕ)
    → Capture (record { week = week; to = captures.Rinex header }) ≡ job → EndedBy (meaning_of job) b a status → status ≡ 0
    → IfSome b.left (λ bytes. Converts week header bytes a.left b.written a.written)
headline_of laws job week header b a status is by zero =
    let m = uncounted (giving dones.Capture (capture_meaning (captures.Rinex header) week)) in
    let done = done_by m b a status (subst (λ (j : Job). EndedBy (meaning_of j) b a status) (sym is) by) zero in
    in_capture laws week header b.left a.left b.written a.written (text_of m b a (Ok tt) done)
    (some_capture b.left week (accepted_of m b a (Ok tt) done (inl refl))) (end_of m b a (Ok tt) done)

-- ---- what is known of the bytes that were not taken

-- a job that was not done
pub ahead_of : (run : Result (Unit {0}) BridgeFault) (status : ℕ) (job other : Job)
    (l l' w w' u u' : Option (List ℕ)) → status ≡ status_of run
    → other ≡ job → OnErr run (IsAhead job l l' w w' u u') → (status ≡ 0 → ⊥)
    → IsAhead other l l' w w' u u'
ahead_of (Ok done) status job other l l' w w' u u' is same ahead broke = absurd (broke is)
ahead_of (Err fault) status job other l l' w w' u u' is same ahead broke =
    subst (λ (j : Job). IsAhead j l l' w w' u u') (sym same) ahead

prefix_nothing : (to : Target) (week : Option ℕ) (l w u : Option (List ℕ)) → CapturePrefix to week l w w u u
prefix_nothing to week None w u = tt
prefix_nothing to week (Some bytes) w u = (no_prefix w _, no_prefix u _)

last_nothing : (to : Target) (week : Option ℕ) (l w : Option (List ℕ)) → CountsLast to week l l w w
last_nothing (targets.Rinex words) week l w = tt
last_nothing (targets.Rinex3 words) week l w = tt
last_nothing targets.Rtcm week l w = tt
last_nothing targets.ToList week l w = tt
last_nothing targets.Count week l w = inl (Appends-nil w)

-- nothing was touched
pub nothing_ahead : (job : Job) (l w u : Option (List ℕ)) → IsAhead job l l w w u u
nothing_ahead (Capture job) l w u = (prefix_nothing (target_of job.to) job.week l w u, last_nothing (target_of job.to) job.week l w)
nothing_ahead StreamToFrames l w u = untouched (meaning_of StreamToFrames).whole l w w u u refl refl
nothing_ahead (Stream job) l w u = untouched (meaning_of (Stream job)).whole l w w u u refl refl
nothing_ahead (Rinex to) l w u = untouched (meaning_of (Rinex to)).whole l w w u u refl refl
nothing_ahead (Rinex3 to) l w u = untouched (meaning_of (Rinex3 to)).whole l w w u u refl refl
nothing_ahead (SendRinex week) l w u = untouched (meaning_of (SendRinex week)).whole l w w u u refl refl
nothing_ahead (SendRinex3 week) l w u = untouched (meaning_of (SendRinex3 week)).whole l w w u u refl refl
nothing_ahead (Merge words) l w u = untouched (meaning_of (Merge words)).whole l w w u u refl refl
nothing_ahead Cover l w u = untouched (meaning_of Cover).whole l w w u u refl refl
nothing_ahead (Seed job) l w u = untouched (meaning_of (Seed job)).whole l w w u u refl refl

-- ---- the call

-- what the call ensures for a job that the words ask for
pub record Calls {S T U : Type 0} (words : List (List ℕ)) (b a : World S T U) (status : ℕ) : Type 0 where
  pub ended : (job : Job) × IsJob words job × EndedBy (meaning_of job) b a status
  pub headline : (week : Option ℕ) (header : HeaderWords)
      → IsJob words (Capture (record { week = week; to = captures.Rinex header })) → status ≡ 0
      → IfSome b.left (λ bytes. Converts week header bytes a.left b.written a.written)
  pub also : (job : Job) → IsJob words job → (status ≡ 0 → ⊥)
      → IsAhead job b.left a.left b.written a.written b.reported a.reported

pub calls : {S T U : Type 0} → Readings
    → (words : List (List ℕ)) (job : Job) (b a : World S T U) (run : Result (Unit {0}) BridgeFault) (status : ℕ)
    → IsJob words job → Ended (meaning_of job) b a run
    → OnErr run (IsAhead job b.left a.left b.written a.written b.reported a.reported)
    → status ≡ status_of run → Calls words b a status
calls laws words job b a run status given ended ahead is =
    let by : EndedBy (meaning_of job) b a status = record { result = run; ended = ended; is = is } in
    record {
      ended = (job, given, by);
      headline = λ week header gives zero. headline_of laws job week header b a status (one_job words _ job gives given) by zero;
      also = λ other gives broke. ahead_of run status job other _ _ _ _ _ _ is (one_job words other job gives given) ahead broke;
    }
