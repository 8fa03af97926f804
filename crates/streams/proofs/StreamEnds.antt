-- A stream from its first byte to its end: what was taken of it is what its frames give.
use Rattle.std.proofs.Common.{◌≡◌, ◌+◌, ◌-◌, ℕ, Bool, false, List, [], ◌∷◌, ◌++◌, length, take, inl, inr, refl, sym, ap, ◌∙◌, subst, append_assoc, append-nil}
use Rattle.std.specs.Prelude.{Option, None, Some, IfSome, IsErrOf, IsSome, IsTrue, Ok, Err}
use Rattle.std.specs.Io.KnownBytes.{Appends, Consumes, IsAtEnd}
use Rattle.std.proofs.KnownBytes.{Appends-nil, Appends-trans, Consumes-nil}
use Rattle.nav_io.specs.Causes.{Rose}
use Rattle.nav_io.specs.Prefix.{AppendsPrefix, IsPrefix}
use Rattle.nav_eph.specs.declared.items.NavItem.{NavItem}
use Rattle.framing.specs.Frames.{decided, frames}
use Rattle.framing.specs.State.{payload_of}
use Rattle.rtcm_eph.specs.Reading.{item_in}
use Rattle.one_run.specs.declared.fault.BridgeFault.{BridgeFault}
use Rattle.one_run.specs.declared.fault.BridgeFault.TheVariants.{ReadFault, WriteFault, ReportFault, NotThisForm, TooLong, NoMemory}
use Rattle.one_run.specs.Causes.{HasItsCause, faults_of}
use Rattle.one_run.specs.Runs.{AppendsBetween, IsBroken, IsDone, Leaves, Says, Texts, World, faults_in}
use Rattle.streams.specs.declared.counts.StreamCounts.{StreamCounts}
use Rattle.streams.specs.Streams.{Reading, counts_of_readings, has, items_of_readings, least_output_by, least_report, reading_report, readings, readings_output, readings_report, stream_counts, stream_counts_text, stream_meaning_by, stream_output_by, stream_readings, stream_report}
use Rattle.streams.specs.Mirrors.{BeginsFlushed, GivenState, NothingKept, StreamAll, StreamPart, StreamSoFar, StreamStops, is_given, once_text}
use Rattle.one_run.proofs.Surface.{ahead_at_end, ahead_by, all_of, all_whole, between, between_behind, between_whole, between_within, no_prefix, prefix_longer, prefix_of, prefix_same, prefix_trans, prefix_within, report_failed, whole_prefix, with_rest, write_failed}
use Rattle.streams.proofs.KnownLemmas.{none_known}
use Rattle.streams.proofs.StreamLemmas.{output_fault, output_item}
use Rattle.streams.proofs.Stopping.{Grows, Stays, decided_texts, end_stopped, ended_stopped, frames_stopped, none_stopped, rest_stopped}

-- ---- the readings of more frames begin with those of fewer

pub readings_append : (r : ℕ) (xs ys : List (List ℕ)) → readings r (xs ++ ys) ≡ readings r xs ++ readings r ys
readings_append r [] ys = refl
readings_append r (x ∷ xs) ys = ap (λ (l : List Reading). item_in r (payload_of x) ∷ l) (readings_append r xs ys)

-- the report of fewer
pub report_longer : (n : ℕ) (xs ys : List Reading) → IsPrefix (readings_report n xs) (readings_report n (xs ++ ys))
report_longer n [] ys = (readings_report n ys, refl)
report_longer n (x ∷ xs) ys =
    let rest = report_longer (n + 1) xs ys in
    (rest.0, ap (λ (l : List ℕ). reading_report n x ++ l) rest.1 ∙ sym (append_assoc (reading_report n x) (readings_report (n + 1) xs) rest.0))

-- the output of one more
output_one : (prefix : List ℕ) (text : NavItem → List ℕ) (rs : List Reading) (x : Reading) → IsPrefix (readings_output prefix text rs) (readings_output prefix text (rs ++ x ∷ []))
output_one prefix text rs (Ok item) = (once_text text (has (items_of_readings rs) item) item, output_item prefix text rs item)
output_one prefix text rs (Err fault) = ([], output_fault prefix text rs fault ∙ sym (append-nil (readings_output prefix text rs)))

-- the output of fewer
pub output_longer : (prefix : List ℕ) (text : NavItem → List ℕ) (ys xs : List Reading) → IsPrefix (readings_output prefix text xs) (readings_output prefix text (xs ++ ys))
output_longer prefix text [] xs = subst (λ (l : List Reading). IsPrefix (readings_output prefix text xs) (readings_output prefix text l)) (sym (append-nil xs)) ([], sym (append-nil (readings_output prefix text xs)))
output_longer prefix text (y ∷ ys) xs =
    subst (λ (l : List Reading). IsPrefix (readings_output prefix text xs) (readings_output prefix text l)) (append_assoc xs (y ∷ []) ys)
    (prefix_trans (readings_output prefix text xs) (readings_output prefix text (xs ++ y ∷ [])) (readings_output prefix text ((xs ++ y ∷ []) ++ ys))
    (output_one prefix text xs y) (output_longer prefix text ys (xs ++ y ∷ [])))

-- the least that is written is a prefix of what frames give that begin with those that were decided before the last piece
least_prefix : (r : ℕ) (prefix : List ℕ) (text : NavItem → List ℕ) (taken : List ℕ) (them : List (List ℕ))
    → BeginsFlushed them taken → IsPrefix (least_output_by prefix text r taken) (readings_output prefix text (readings r them))
least_prefix r prefix text [] them begins = (readings_output prefix text (readings r them), refl)
least_prefix r prefix text (b ∷ bs) them (rest, is) =
    let first = decided (take (length (b ∷ bs) - 16384) (b ∷ bs)) in
    subst (λ (l : List Reading). IsPrefix (readings_output prefix text (readings r first)) (readings_output prefix text l))
    (sym (ap (readings r) is ∙ readings_append r first rest)) (output_longer prefix text (readings r rest) (readings r first))

-- and so is the least that is reported
least_reported : (r : ℕ) (taken : List ℕ) (them : List (List ℕ)) → BeginsFlushed them taken → IsPrefix (least_report r taken) (readings_report 1 (readings r them))
least_reported r taken them (rest, is) =
    let first = decided (take (length taken - 16384) taken) in
    subst (λ (l : List Reading). IsPrefix (readings_report 1 (readings r first)) (readings_report 1 l))
    (sym (ap (readings r) is ∙ readings_append r first rest)) (report_longer 1 (readings r first) (readings r rest))

-- the lines of a stream's frames begin its report
pub report_front : (r : ℕ) (bytes : List ℕ) → IsPrefix (readings_report 1 (stream_readings r bytes)) (stream_report r bytes)
report_front r bytes = (stream_counts_text (stream_counts r bytes), refl)

-- ---- a stream begins

-- nothing was given, and nothing is kept
abbrev pub NoneGiven : GivenState → Type 0
NoneGiven g = ((other : NavItem) → is_given g other ≡ false) × NothingKept g

-- the leading text was written, and no frame was processed
pub begins : (r : ℕ) (prefix : List ℕ) (text : NavItem → List ℕ) (w w1 u : Option (List ℕ)) (g : GivenState) (c : StreamCounts)
    → Appends w w1 prefix → NoneGiven g → c ≡ counts_of_readings [] → Appends u u [] → StreamSoFar r prefix text [] w w1 u u g c
begins r prefix text w w1 u g c grew none nothing same = record {
  output = subst (Appends w w1) (sym (append-nil prefix)) grew;
  report = same;
  counts_are = nothing;
  holds = none.0;
  known = none_known r g none.1;
}

-- ---- and ends

-- the frames that were taken are all
pub all_frames : (taken : List ℕ) (them : List (List ℕ)) → frames (taken ++ []) ≡ them ++ frames [] → frames taken ≡ them
all_frames taken them is = ap frames (sym (append-nil taken)) ∙ is ∙ append-nil them

all_so_far : (r : ℕ) (prefix : List ℕ) (text : NavItem → List ℕ) (left l1 w w1 w2 u u1 : Option (List ℕ)) (g g1 : GivenState) (c c1 : StreamCounts)
    → Appends w w1 prefix → NoneGiven g → c ≡ counts_of_readings [] → Appends u u []
    → (all : StreamAll r prefix text left l1 w1 w2 u u1 g g1 c c1)
    → StreamSoFar r prefix text (frames all.taken) w w2 u u1 g1 c1
all_so_far r prefix text left l1 w w1 w2 u u1 g g1 c c1 grew none nothing same all =
    subst (λ (l : List (List ℕ)). StreamSoFar r prefix text l w w2 u u1 g1 c1) (sym (all_frames all.taken all.moves.frames_are (all.moves.stream [] (λ last. refl))))
    (all.moves.goes [] w u (begins r prefix text w w1 u g c grew none nothing same))

-- ---- and where it stops

-- what is written and what is reported of frames
abbrev pub text_of : ℕ → List ℕ → (NavItem → List ℕ) → List (List ℕ) → List ℕ
text_of r prefix text frames = readings_output prefix text (readings r frames)

abbrev pub outcome_of : ℕ → List (List ℕ) → List ℕ
outcome_of r frames = readings_report 1 (readings r frames)

abbrev pub stream_texts : ℕ → List ℕ → (NavItem → List ℕ) → Texts
stream_texts r prefix text = decided_texts (text_of r prefix text) (outcome_of r)

pub text_grows : (r : ℕ) (prefix : List ℕ) (text : NavItem → List ℕ) → Grows (text_of r prefix text)
text_grows r prefix text some more =
    subst (λ (l : List Reading). IsPrefix (readings_output prefix text (readings r some)) (readings_output prefix text l)) (sym (readings_append r some more))
    (output_longer prefix text (readings r more) (readings r some))

pub told_grows : (r : ℕ) → Grows (outcome_of r)
told_grows r some more =
    subst (λ (l : List Reading). IsPrefix (readings_report 1 (readings r some)) (readings_report 1 l)) (sym (readings_append r some more))
    (report_longer 1 (readings r some) (readings r more))

-- ---- and its run

-- every stream is accepted
accepts : (r : ℕ) (left : Option (List ℕ)) → IfSome left (λ bytes. IsSome (Some (stream_counts r bytes)))
accepts r None = tt
accepts r (Some bytes) = refl

-- a run that reads and reports has no object that stays untouched
leaves : {S T U : Type 0} (prefix : List ℕ) (text : NavItem → List ℕ) (r : ℕ) (before after : World S T U) → Leaves (stream_meaning_by prefix text r) before after
leaves prefix text r before after = record { unread = λ never. cc; silent = λ never. cc }

-- the leading text is not written to its end
pub broke_begin : {S T U : Type 0} (r : ℕ) (prefix : List ℕ) (text : NavItem → List ℕ) (b a : World S T U)
    → AppendsPrefix b.written a.written prefix → Rose b.writes_failed a.writes_failed → a.left ≡ b.left → a.reported ≡ b.reported
    → a.reads_failed ≡ b.reads_failed → a.reports_failed ≡ b.reports_failed
    → IsBroken (stream_meaning_by prefix text r) b a WriteFault
broke_begin r prefix text b a grew rose left reported reads reports =
    let consumes = subst (λ (l : Option (List ℕ)). Consumes b.left l []) (sym left) (Consumes-nil b.left) in
    record {
      taken = [];
      consumes = consumes;
      text = between b.written a.written (stream_output_by prefix text r []) (prefix_longer b.written a.written prefix [] grew);
      told = between b.reported a.reported (stream_report r []) (untold (stream_report r []));
      ahead = ahead_by (stream_meaning_by prefix text r).whole b.left a.left b.written a.written b.reported a.reported [] consumes
          (λ rest is. (prefix_longer b.written a.written prefix _ grew, untold (stream_report r rest)));
      stopped = none_stopped (stream_texts r prefix text) b.left b.written a.written b.reported a.reported
          (λ bytes. (prefix_longer b.written a.written prefix _ grew, untold (readings_report 1 (readings r (decided bytes)))));
      counts_last = inl (with_rest b.left a.left [] _ consumes (λ rest is. untold (readings_report 1 (stream_readings r rest))));
      cause = write_failed b a rose reads reports;
      leaves = leaves prefix text r b a;
      says = (rose, accepts r b.left);
    }
  where
    untold : (told : List ℕ) → AppendsPrefix b.reported a.reported told
    untold told = subst (λ (l : Option (List ℕ)). AppendsPrefix b.reported l told) (sym reported) (no_prefix b.reported told)

-- a prefix was written and reported of what the frames of all bytes give
stops_ahead : (r : ℕ) (prefix : List ℕ) (text : NavItem → List ℕ) (more : Bool) (taken : List ℕ) (w w1 w2 u u2 : Option (List ℕ)) (g : GivenState) (c : StreamCounts)
    → StreamSoFar r prefix text [] w w1 u u g c → StreamStops r prefix text more taken w1 w2 u u2 g c → (following : List ℕ) → (more ≡ false → following ≡ [])
    → AppendsPrefix w w2 (stream_output_by prefix text r (taken ++ following)) × AppendsPrefix u u2 (readings_report 1 (stream_readings r (taken ++ following)))
stops_ahead r prefix text more taken w w1 w2 u u2 g c begun stops following last =
    let some = stops.frames_are in
    let rest = stops.stream following last in
    let read : readings r (frames (taken ++ following)) ≡ readings r some ++ readings r rest.0 = ap (readings r) rest.1 ∙ readings_append r some rest.0 in
    let broke = stops.breaks [] w u begun in (
      subst (λ (l : List Reading). AppendsPrefix w w2 (readings_output prefix text l)) (sym read)
          (prefix_within w w2 (readings_output prefix text (readings r some)) _ (output_longer prefix text (readings r rest.0) (readings r some)) (prefix_of w w2 _ _ broke.output)),
      subst (λ (l : List Reading). AppendsPrefix u u2 (readings_report 1 l)) (sym read)
          (prefix_within u u2 (readings_report 1 (readings r some)) _ (report_longer 1 (readings r some) (readings r rest.0)) (prefix_of u u2 _ _ broke.report)),
    )

-- what the frames say where they break off, by the fault
says_by : {S T U : Type 0} (r : ℕ) (prefix : List ℕ) (text : NavItem → List ℕ) (b a : World S T U) (w1 : Option (List ℕ)) (writes : ℕ) (g g1 : GivenState) (c c1 : StreamCounts) (fault : BridgeFault)
    → Appends b.written w1 prefix → writes ≡ b.writes_failed → NoneGiven g → c ≡ counts_of_readings []
    → (part : StreamPart r prefix text b.left a.left w1 a.written b.reported a.reported g g1 c c1 fault)
    → HasItsCause {T = Unit {0}} (faults_of b.reads_failed writes b.reports_failed) (faults_of a.reads_failed a.writes_failed a.reports_failed) (Err fault)
    → (IsTrue b.never_fails → IsErrOf {T = Unit {0}} (Err fault) ReadFault → ⊥)
    → Says (stream_meaning_by prefix text r) part.taken b a fault
says_by r prefix text b a w1 writes g g1 c c1 ReadFault grew same none nothing part cause never =
    let far = part.exact refl [] b.written b.reported (begins r prefix text b.written w1 b.reported g c grew none nothing (Appends-nil b.reported)) in
    (refl, cause.0, λ quiet. never quiet refl, (far.output, far.report))
says_by r prefix text b a w1 writes g g1 c c1 WriteFault grew same none nothing part cause never =
    (subst (λ (n : ℕ). Rose n a.writes_failed) same cause.0, accepts r b.left)
says_by r prefix text b a w1 writes g g1 c c1 ReportFault grew same none nothing part cause never = (refl, cause.0, accepts r b.left)
says_by r prefix text b a w1 writes g g1 c c1 NotThisForm grew same none nothing part cause never = absurd (part.form refl)
says_by r prefix text b a w1 writes g g1 c c1 TooLong grew same none nothing part cause never = part.too_long refl
says_by r prefix text b a w1 writes g g1 c c1 NoMemory grew same none nothing part cause never = (refl, accepts r b.left, part.memory refl)

-- the frames break off
pub broke_stream : {S T U : Type 0} (r : ℕ) (prefix : List ℕ) (text : NavItem → List ℕ) (b a : World S T U) (w1 : Option (List ℕ)) (writes : ℕ) (g g1 : GivenState) (c c1 : StreamCounts) (fault : BridgeFault)
    → Stays → Appends b.written w1 prefix → writes ≡ b.writes_failed → NoneGiven g → c ≡ counts_of_readings []
    → StreamPart r prefix text b.left a.left w1 a.written b.reported a.reported g g1 c c1 fault
    → HasItsCause {T = Unit {0}} (faults_of b.reads_failed writes b.reports_failed) (faults_of a.reads_failed a.writes_failed a.reports_failed) (Err fault)
    → (IsTrue b.never_fails → IsErrOf {T = Unit {0}} (Err fault) ReadFault → ⊥)
    → IsBroken (stream_meaning_by prefix text r) b a fault
broke_stream r prefix text b a w1 writes g g1 c c1 fault stay grew same none nothing part cause never =
    let some = part.stops.frames_are in
    let more = part.stops.stream [] (λ last. refl) in
    let is : frames part.taken ≡ some ++ more.0 = ap frames (sym (append-nil part.taken)) ∙ more.1 in
    let read : readings r (frames part.taken) ≡ readings r some ++ readings r more.0 = ap (readings r) is ∙ readings_append r some more.0 in
    let broke = part.stops.breaks [] b.written b.reported (begins r prefix text b.written w1 b.reported g c grew none nothing (Appends-nil b.reported)) in
    let out : AppendsBetween b.written a.written (least_output_by prefix text r part.taken) (readings_output prefix text (readings r some ++ readings r more.0)) =
    between_within b.written a.written (least_output_by prefix text r part.taken) (readings_output prefix text (readings r part.stops.done)) (readings_output prefix text (readings r some)) _
    (least_prefix r prefix text part.taken part.stops.done part.flushes) (output_longer prefix text (readings r more.0) (readings r some)) broke.output in
    let told : AppendsBetween b.reported a.reported (least_report r part.taken) (readings_report 1 (readings r some ++ readings r more.0)) =
    between_within b.reported a.reported (least_report r part.taken) (readings_report 1 (readings r part.stops.done)) (readings_report 1 (readings r some)) _
    (least_reported r part.taken part.stops.done part.flushes) (report_longer 1 (readings r some) (readings r more.0)) broke.report in
    let begun = begins r prefix text b.written w1 b.reported g c grew none nothing (Appends-nil b.reported) in
    let all = stops_ahead r prefix text part.more part.taken b.written w1 a.written b.reported a.reported g c begun part.stops in
    let ahead = ahead_by (stream_meaning_by prefix text r).whole b.left a.left b.written a.written b.reported a.reported part.taken part.consumes
    (λ rest is. let both = all rest (λ last. subst IsAtEnd is (part.end last)) in (both.0, prefix_longer b.reported a.reported (readings_report 1 (stream_readings r (part.taken ++ rest))) _ both.1)) in
    record {
      taken = part.taken;
      consumes = part.consumes;
      text = subst (λ (l : List Reading). AppendsBetween b.written a.written (least_output_by prefix text r part.taken) (readings_output prefix text l)) (sym read) out;
      told = between_within b.reported a.reported _ _ (readings_report 1 (stream_readings r part.taken)) _ (prefix_same (least_report r part.taken)) (report_front r part.taken)
          (subst (λ (l : List Reading). AppendsBetween b.reported a.reported (least_report r part.taken) (readings_report 1 l)) (sym read) told);
      ahead = ahead;
      stopped = rest_stopped (stream_texts r prefix text) b.left a.left b.written a.written b.reported a.reported part.taken part.consumes
          (λ rest is. let found = part.stops.stream rest (λ last. subst IsAtEnd is (part.end last)) in
          frames_stopped (text_of r prefix text) (outcome_of r) (text_grows r prefix text) (told_grows r) stay (part.taken ++ rest) part.stops.done part.stops.frames_are found.0
          b.written a.written b.reported a.reported found.1 part.stops.next broke.output broke.report);
      counts_last = inl (with_rest b.left a.left part.taken _ part.consumes (λ rest is. (all rest (λ last. subst IsAtEnd is (part.end last))).1));
      cause = subst (λ (n : ℕ). HasItsCause {T = Unit {0}} (faults_of b.reads_failed n b.reports_failed) (faults_in a) (Err fault)) same cause;
      leaves = leaves prefix text r b a;
      says = says_by r prefix text b a w1 writes g g1 c c1 fault grew same none nothing part cause never;
    }

-- the counts are not reported to their end
pub broke_counts : {S T U : Type 0} (r : ℕ) (prefix : List ℕ) (text : NavItem → List ℕ) (b a : World S T U) (w1 u1 : Option (List ℕ)) (g g1 : GivenState) (c c1 : StreamCounts)
    → Stays → Appends b.written w1 prefix → NoneGiven g → c ≡ counts_of_readings []
    → StreamAll r prefix text b.left a.left w1 a.written b.reported u1 g g1 c c1
    → AppendsPrefix u1 a.reported (stream_counts_text c1) → Rose b.reports_failed a.reports_failed → a.reads_failed ≡ b.reads_failed → a.writes_failed ≡ b.writes_failed
    → IsBroken (stream_meaning_by prefix text r) b a ReportFault
broke_counts r prefix text b a w1 u1 g g1 c c1 stay grew none nothing all counts rose reads writes =
    let far = all_so_far r prefix text b.left a.left b.written w1 a.written b.reported u1 g g1 c c1 grew none nothing (Appends-nil b.reported) all in
    let same = all_frames all.taken all.moves.frames_are (all.moves.stream [] (λ last. refl)) in
    let least = subst (λ (l : List (List ℕ)). IsPrefix (least_output_by prefix text r all.taken) (readings_output prefix text (readings r l))) (sym same) (least_prefix r prefix text all.taken all.moves.frames_are all.flushes) in
    let least_told = subst (λ (l : List (List ℕ)). IsPrefix (least_report r all.taken) (readings_report 1 (readings r l))) (sym same) (least_reported r all.taken all.moves.frames_are all.flushes) in
    let told = between_behind b.reported u1 a.reported _ _ far.report (subst (λ (x : StreamCounts). AppendsPrefix u1 a.reported (stream_counts_text x)) far.counts_are counts) in
    record {
      taken = all.taken;
      consumes = all.consumes;
      text = between_within b.written a.written (least_output_by prefix text r all.taken) _ _ _ least (prefix_same (stream_output_by prefix text r all.taken))
          (between_whole b.written a.written (stream_output_by prefix text r all.taken) far.output);
      told = between_within b.reported a.reported (least_report r all.taken) _ _ _ least_told (prefix_same (stream_report r all.taken)) told;
      ahead = ahead_at_end (stream_meaning_by prefix text r).whole b.left a.left b.written a.written b.reported a.reported all.taken all.consumes all.end
          (whole_prefix b.written a.written (stream_output_by prefix text r all.taken) far.output) (prefix_of b.reported a.reported _ _ told);
      stopped = end_stopped (stream_texts r prefix text) b.left a.left b.written a.written b.reported a.reported all.taken all.consumes all.end
          (ended_stopped (text_of r prefix text) (outcome_of r) (text_grows r prefix text) (told_grows r) stay all.taken b.written a.written b.reported a.reported
          (all_whole b.written a.written (stream_output_by prefix text r all.taken) far.output) (all_of b.reported a.reported _ _ told));
      counts_last = inr (refl, all.end, far.output);
      cause = report_failed b a rose reads writes;
      leaves = leaves prefix text r b a;
      says = (refl, rose, accepts r b.left);
    }

-- the run is done
pub done_stream : {S T U : Type 0} (r : ℕ) (prefix : List ℕ) (text : NavItem → List ℕ) (b a : World S T U) (w1 u1 : Option (List ℕ)) (g g1 : GivenState) (c c1 : StreamCounts)
    → Appends b.written w1 prefix → NoneGiven g → c ≡ counts_of_readings []
    → StreamAll r prefix text b.left a.left w1 a.written b.reported u1 g g1 c c1
    → Appends u1 a.reported (stream_counts_text c1)
    → a.reads_failed ≡ b.reads_failed → a.writes_failed ≡ b.writes_failed → a.reports_failed ≡ b.reports_failed
    → IsDone (stream_meaning_by prefix text r) b a c1
done_stream r prefix text b a w1 u1 g g1 c c1 grew none nothing all counts reads writes reports =
    let far = all_so_far r prefix text b.left a.left b.written w1 a.written b.reported u1 g g1 c c1 grew none nothing (Appends-nil b.reported) all in
    record {
      taken = all.taken;
      consumes = all.consumes;
      end = all.end;
      fits = all.fits;
      counted = ap (λ (x : StreamCounts). Some x) (sym far.counts_are);
      text = far.output;
      told = Appends-trans b.reported u1 a.reported _ _ far.report (subst (λ (x : StreamCounts). Appends u1 a.reported (stream_counts_text x)) far.counts_are counts);
      leaves = leaves prefix text r b a;
      reads = reads;
      writes = writes;
      reports = reports;
    }
