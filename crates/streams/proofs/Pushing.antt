-- A stream whose bytes are pushed in pieces: the state behind them, and what was written.
use Rattle.std.proofs.Common.{◌≡◌, ℕ, Bool, true, false, List, [], ◌++◌, ◌∙◌, inl, inr, refl, sym, ap, subst, append_assoc, append-nil}
use Rattle.std.specs.Prelude.{Option, None, Some}
use Rattle.std.specs.Io.KnownBytes.{Appends}
use Rattle.std.proofs.KnownBytes.{Appends-nil, Appends-trans}
use Rattle.nav_io.specs.Prefix.{AppendsPrefix, IsPrefix}
use Rattle.framing.specs.Frames.{decided, frames, undecided}
use Rattle.framing.specs.State.{DeframerState, IsWaiting}
use Rattle.streams.specs.Targets.{prefix_text, item_text}
use Rattle.one_run.specs.declared.fault.BridgeFault.{BridgeFault}
use Rattle.one_run.specs.Runs.{AppendsBetween}
use Rattle.one_run.proofs.Surface.{all_of, all_whole, between_behind, between_whole, between_within, prefix_of, prefix_same, prefix_trans, prefix_within}
use Rattle.streams.specs.declared.counts.StreamCounts.{StreamCounts}
use Rattle.streams.specs.Streams.{Reading, counts_of_readings, flushed_output_by, flushed_readings, readings, readings_output, readings_report, stream_counts, stream_counts_text, stream_output_by, stream_readings, stream_report}
use Rattle.streams.specs.Mirrors.{GivenState, IsNext, StreamBroke, StreamMoves, StreamSoFar, StreamStops}
use Rattle.streams.specs.Pushed.{IsBehind, IsCutShort, IsPushed, IsWhole, StreamRunState}
use Rattle.streams.proofs.PieceEnds.{flushed_frames}
use Rattle.streams.proofs.StreamEnds.{NoneGiven, begins, output_longer, readings_append, report_front, report_longer, text_grows, text_of, told_grows, outcome_of}
use Rattle.streams.proofs.Stopping.{Stays, ended_stopped, frames_stopped, next_behind}

-- nothing is there that is none of all
pub none_by : {T : Type 0} (o : Option T) → ((x : T) → o ≡ Some x → ⊥) → o ≡ None
none_by None none = refl
none_by (Some x) none = absurd (none x refl)

-- ---- no byte was pushed

pub pushed_none : (s : StreamRunState) (w w1 u : Option (List ℕ)) → s.deframer.rest ≡ [] → NoneGiven s.given → s.counts ≡ counts_of_readings []
    → Appends w w1 (prefix_text s.to) → IsPushed s [] w w1 u u
pushed_none s w w1 u rest none nothing grew = record {
  output = subst (Appends w w1) (sym (append-nil (prefix_text s.to))) grew;
  report = Appends-nil u;
  behind = record {
    past = [];
    stream = λ following. ap (λ (l : List ℕ). frames (l ++ following)) (sym rest);
    decides = λ following. ap (λ (l : List ℕ). decided (l ++ following)) (sym rest);
    so_far = begins s.week (prefix_text s.to) (item_text s.to 0) w w1 u s.given s.counts grew none nothing (Appends-nil u);
  };
}

-- ---- a piece more

-- the frames of some bytes and of those that follow, where the frames of the first are known
joined : (f : List ℕ → List (List ℕ)) (bytes rest piece following : List ℕ) (past : List (List ℕ))
    → ((more : List ℕ) → f (bytes ++ more) ≡ past ++ f (rest ++ more))
    → f ((bytes ++ piece) ++ following) ≡ past ++ f ((rest ++ piece) ++ following)
joined f bytes rest piece following past is =
    ap f (append_assoc bytes piece following) ∙ is (piece ++ following) ∙ ap (λ (l : List ℕ). past ++ f l) (sym (append_assoc rest piece following))

behind_more : (s : StreamRunState) (d : DeframerState) (g : GivenState) (c : StreamCounts) (taken : ℕ) (f : Option BridgeFault) (bytes piece : List ℕ) (w w1 w2 u u1 u2 : Option (List ℕ))
    → IsBehind s bytes w w1 u u1
    → StreamMoves s.week (prefix_text s.to) (item_text s.to 0) true (s.deframer.rest ++ piece) d.rest w1 w2 u1 u2 s.given g s.counts c
    → IsBehind (record { to = s.to; week = s.week; deframer = d; given = g; counts = c; taken = taken; fault = f }) (bytes ++ piece) w w2 u u2
behind_more s d g c taken f bytes piece w w1 w2 u u1 u2 old moves = record {
  past = old.past ++ moves.frames_are;
  stream = λ following.
      joined frames bytes s.deframer.rest piece following old.past old.stream
      ∙ ap (λ (l : List (List ℕ)). old.past ++ l) (moves.stream following (λ never. cc))
      ∙ sym (append_assoc old.past moves.frames_are (frames (d.rest ++ following)));
  decides = λ following.
      joined decided bytes s.deframer.rest piece following old.past old.decides
      ∙ ap (λ (l : List (List ℕ)). old.past ++ l) (moves.decides following refl)
      ∙ sym (append_assoc old.past moves.frames_are (decided (d.rest ++ following)));
  so_far = moves.goes old.past w u old.so_far;
}

-- where nothing is decided of the rest, exactly what is decided was written and reported
pushed_of : (s : StreamRunState) (bytes : List ℕ) (w w1 u u1 : Option (List ℕ)) → IsWaiting s.deframer.rest → IsBehind s bytes w w1 u u1 → IsPushed s bytes w w1 u u1
pushed_of s bytes w w1 u u1 waits behind =
    let same : behind.past ≡ decided bytes = flushed_frames bytes s.deframer.rest behind.past (behind.decides []) waits in
    record {
      output = subst (λ (l : List (List ℕ)). Appends w w1 (readings_output (prefix_text s.to) (item_text s.to 0) (readings s.week l))) same behind.so_far.output;
      report = subst (λ (l : List (List ℕ)). Appends u u1 (readings_report 1 (readings s.week l))) same behind.so_far.report;
      behind = behind;
    }

pub pushed_more : (s : StreamRunState) (d : DeframerState) (g : GivenState) (c : StreamCounts) (taken : ℕ) (f : Option BridgeFault) (bytes piece : List ℕ) (w w1 w2 u u1 u2 : Option (List ℕ))
    → IsPushed s bytes w w1 u u1
    → StreamMoves s.week (prefix_text s.to) (item_text s.to 0) true (s.deframer.rest ++ piece) d.rest w1 w2 u1 u2 s.given g s.counts c
    → IsWaiting d.rest
    → IsPushed (record { to = s.to; week = s.week; deframer = d; given = g; counts = c; taken = taken; fault = f }) (bytes ++ piece) w w2 u u2
pushed_more s d g c taken f bytes piece w w1 w2 u u1 u2 old moves waits =
    pushed_of (record { to = s.to; week = s.week; deframer = d; given = g; counts = c; taken = taken; fault = f }) (bytes ++ piece) w w2 u u2 waits
    (behind_more s d g c taken f bytes piece w w1 w2 u u1 u2 old.behind moves)

-- ---- something failed

-- what these frames gave, of which `some` were processed to their end, stands between what is decided and the whole
cut : (s : StreamRunState) → Stays → (bytes whole : List ℕ) (first done some rest : List (List ℕ)) (w w1 u u1 : Option (List ℕ))
    → IsNext done some → done ≡ decided bytes ++ first → frames whole ≡ some ++ rest → StreamBroke s.week (prefix_text s.to) (item_text s.to 0) done some w w1 u u1
    → IsCutShort s bytes whole w w1 u u1
cut s stay bytes whole first done some rest w w1 u u1 next least most broke =
    let r = s.week in
    let prefix = prefix_text s.to in
    let text = item_text s.to 0 in
    let low : readings r done ≡ readings r (decided bytes) ++ readings r first = ap (readings r) least ∙ readings_append r (decided bytes) first in
    let high : readings r (frames whole) ≡ readings r some ++ readings r rest = ap (readings r) most ∙ readings_append r some rest in
    let told : IsPrefix (readings_report 1 (readings r some)) (readings_report 1 (stream_readings r whole)) =
    subst (λ (l : List Reading). IsPrefix (readings_report 1 (readings r some)) (readings_report 1 l)) (sym high) (report_longer 1 (readings r some) (readings r rest)) in
    record {
      output = between_within w w1 (flushed_output_by prefix text r bytes) (readings_output prefix text (readings r done)) (readings_output prefix text (readings r some)) (stream_output_by prefix text r whole)
          (subst (λ (l : List Reading). IsPrefix (flushed_output_by prefix text r bytes) (readings_output prefix text l)) (sym low) (output_longer prefix text (readings r first) (readings r (decided bytes))))
          (subst (λ (l : List Reading). IsPrefix (readings_output prefix text (readings r some)) (readings_output prefix text l)) (sym high) (output_longer prefix text (readings r rest) (readings r some)))
          broke.output;
      report = between_within u u1 (readings_report 1 (flushed_readings r bytes)) (readings_report 1 (readings r done)) (readings_report 1 (readings r some)) (stream_report r whole)
          (subst (λ (l : List Reading). IsPrefix (readings_report 1 (flushed_readings r bytes)) (readings_report 1 l)) (sym low) (report_longer 1 (readings r (decided bytes)) (readings r first)))
          (prefix_trans (readings_report 1 (readings r some)) (readings_report 1 (stream_readings r whole)) (stream_report r whole) told (report_front r whole))
          broke.report;
      stopped = frames_stopped (text_of r prefix text) (outcome_of r) (text_grows r prefix text) (told_grows r) stay whole done some rest w w1 u u1 most next broke.output broke.report;
      counts_last = inl (prefix_within u u1 (readings_report 1 (readings r some)) (readings_report 1 (stream_readings r whole)) told (prefix_of u u1 _ _ broke.report));
    }

-- nothing more was written
pub cut_before : (s : StreamRunState) (bytes more : List ℕ) (w w1 u u1 : Option (List ℕ)) → Stays
    → IsPushed s bytes w w1 u u1 → IsCutShort s bytes (bytes ++ more) w w1 u u1
cut_before s bytes more w w1 u u1 stay old =
    cut s stay bytes (bytes ++ more) [] (decided bytes) (decided bytes) (frames (undecided bytes ++ more)) w w1 u u1 (inl refl) (sym (append-nil (decided bytes))) (stay bytes more)
    (record {
      output = between_whole w w1 (flushed_output_by (prefix_text s.to) (item_text s.to 0) s.week bytes) old.output;
      report = between_whole u u1 (readings_report 1 (readings s.week (decided bytes))) old.report;
    })

-- a frame of the piece was not processed to its end
pub cut_piece : (s : StreamRunState) → Stays → (bytes piece more : List ℕ) (w w1 w2 u u1 u2 : Option (List ℕ)) → IsWaiting s.deframer.rest → IsPushed s bytes w w1 u u1
    → StreamStops s.week (prefix_text s.to) (item_text s.to 0) true (s.deframer.rest ++ piece) w1 w2 u1 u2 s.given s.counts
    → IsCutShort s bytes ((bytes ++ piece) ++ more) w w2 u u2
cut_piece s stay bytes piece more w w1 w2 u u1 u2 waits old stops =
    let past = old.behind.past in
    let same : past ≡ decided bytes = flushed_frames bytes s.deframer.rest past (old.behind.decides []) waits in
    let rest = stops.stream more (λ never. cc) in
    let whole : frames ((bytes ++ piece) ++ more) ≡ (past ++ stops.frames_are) ++ rest.0 =
    joined frames bytes s.deframer.rest piece more past old.behind.stream ∙ ap (λ (l : List (List ℕ)). past ++ l) rest.1 ∙ sym (append_assoc past stops.frames_are rest.0) in
    cut s stay bytes ((bytes ++ piece) ++ more) stops.done (past ++ stops.done) (past ++ stops.frames_are) rest.0 w w2 u u2
    (next_behind past stops.done stops.frames_are stops.next)
    (ap (λ (l : List (List ℕ)). l ++ stops.done) same) whole (stops.breaks past w u old.behind.so_far)

-- ---- the end

-- the last frames
ends : (s : StreamRunState) (more : Bool) (before after : List ℕ) (bytes : List ℕ) (w w1 w2 u u1 u2 : Option (List ℕ)) (g : GivenState) (c : StreamCounts)
    → IsBehind s bytes w w1 u u1 → more ≡ false → before ≡ s.deframer.rest → after ≡ []
    → StreamMoves s.week (prefix_text s.to) (item_text s.to 0) more before after w1 w2 u1 u2 s.given g s.counts c
    → StreamSoFar s.week (prefix_text s.to) (item_text s.to 0) (frames bytes) w w2 u u2 g c
ends s more before after bytes w w1 w2 u u1 u2 g c old no_more same none moves =
    let is : frames bytes ≡ old.past ++ moves.frames_are =
    ap frames (sym (append-nil bytes)) ∙ old.stream [] ∙ ap (λ (l : List ℕ). old.past ++ frames (l ++ [])) (sym same) ∙ ap (λ (l : List (List ℕ)). old.past ++ l) (moves.stream [] (λ last. refl))
    ∙ ap (λ (l : List ℕ). old.past ++ (moves.frames_are ++ frames (l ++ []))) none ∙ ap (λ (l : List (List ℕ)). old.past ++ l) (append-nil moves.frames_are) in
    subst (λ (l : List (List ℕ)). StreamSoFar s.week (prefix_text s.to) (item_text s.to 0) l w w2 u u2 g c) (sym is) (moves.goes old.past w u old.so_far)

-- all was written, and the counts reported
pub whole_stream : (s : StreamRunState) (more : Bool) (before after : List ℕ) (bytes : List ℕ) (w w1 w2 u u1 u2 u3 : Option (List ℕ)) (g : GivenState) (c : StreamCounts)
    → IsPushed s bytes w w1 u u1 → more ≡ false → before ≡ s.deframer.rest → after ≡ []
    → StreamMoves s.week (prefix_text s.to) (item_text s.to 0) more before after w1 w2 u1 u2 s.given g s.counts c
    → Appends u2 u3 (stream_counts_text c) → IsWhole s bytes w w2 u u3
whole_stream s more before after bytes w w1 w2 u u1 u2 u3 g c old no_more same none moves told =
    let far = ends s more before after bytes w w1 w2 u u1 u2 g c old.behind no_more same none moves in
    record {
      output = far.output;
      report = Appends-trans u u2 u3 (readings_report 1 (stream_readings s.week bytes)) (stream_counts_text (stream_counts s.week bytes)) far.report
          (subst (λ (x : StreamCounts). Appends u2 u3 (stream_counts_text x)) far.counts_are told);
    }

pub whole_counts : (s : StreamRunState) (more : Bool) (before after : List ℕ) (bytes : List ℕ) (w w1 w2 u u1 u2 : Option (List ℕ)) (g : GivenState) (c : StreamCounts)
    → IsPushed s bytes w w1 u u1 → more ≡ false → before ≡ s.deframer.rest → after ≡ []
    → StreamMoves s.week (prefix_text s.to) (item_text s.to 0) more before after w1 w2 u1 u2 s.given g s.counts c
    → c ≡ stream_counts s.week bytes
whole_counts s more before after bytes w w1 w2 u u1 u2 g c old no_more same none moves =
    (ends s more before after bytes w w1 w2 u u1 u2 g c old.behind no_more same none moves).counts_are

-- the counts were not reported to their end
pub cut_counts : (s : StreamRunState) → Stays → (more : Bool) (before after : List ℕ) (bytes : List ℕ) (w w1 w2 u u1 u2 u3 : Option (List ℕ)) (g : GivenState) (c : StreamCounts) → IsWaiting s.deframer.rest
    → IsPushed s bytes w w1 u u1 → more ≡ false → before ≡ s.deframer.rest → after ≡ []
    → StreamMoves s.week (prefix_text s.to) (item_text s.to 0) more before after w1 w2 u1 u2 s.given g s.counts c
    → AppendsPrefix u2 u3 (stream_counts_text c) → IsCutShort s bytes bytes w w2 u u3
cut_counts s stay more before after bytes w w1 w2 u u1 u2 u3 g c waits old no_more same none moves told =
    let r = s.week in
    let prefix = prefix_text s.to in
    let text = item_text s.to 0 in
    let far = ends s more before after bytes w w1 w2 u u1 u2 g c old.behind no_more same none moves in
    let past : old.behind.past ≡ decided bytes = flushed_frames bytes s.deframer.rest old.behind.past (old.behind.decides []) waits in
    let is : frames bytes ≡ decided bytes ++ frames s.deframer.rest =
    ap frames (sym (append-nil bytes)) ∙ old.behind.stream [] ∙ ap (λ (l : List (List ℕ)). l ++ frames (s.deframer.rest ++ [])) past ∙ ap (λ (l : List ℕ). decided bytes ++ frames l) (append-nil s.deframer.rest) in
    let reported : AppendsBetween u u3 (readings_report 1 (stream_readings r bytes)) (stream_report r bytes) =
    between_behind u u2 u3 (readings_report 1 (stream_readings r bytes)) (stream_counts_text (stream_counts r bytes)) far.report
    (subst (λ (x : StreamCounts). AppendsPrefix u2 u3 (stream_counts_text x)) far.counts_are told) in
    let low : stream_readings r bytes ≡ readings r (decided bytes) ++ readings r (frames s.deframer.rest) = ap (readings r) is ∙ readings_append r (decided bytes) (frames s.deframer.rest) in
    record {
      output = between_within w w2 (flushed_output_by prefix text r bytes) (stream_output_by prefix text r bytes) (stream_output_by prefix text r bytes) (stream_output_by prefix text r bytes)
          (subst (λ (l : List Reading). IsPrefix (flushed_output_by prefix text r bytes) (readings_output prefix text l)) (sym low) (output_longer prefix text (readings r (frames s.deframer.rest)) (readings r (decided bytes))))
          (prefix_same (stream_output_by prefix text r bytes)) (between_whole w w2 (stream_output_by prefix text r bytes) far.output);
      report = between_within u u3 (readings_report 1 (flushed_readings r bytes)) (readings_report 1 (stream_readings r bytes)) (stream_report r bytes) (stream_report r bytes)
          (subst (λ (l : List Reading). IsPrefix (readings_report 1 (flushed_readings r bytes)) (readings_report 1 l)) (sym low) (report_longer 1 (readings r (decided bytes)) (readings r (frames s.deframer.rest))))
          (prefix_same (stream_report r bytes)) reported;
      stopped = ended_stopped (text_of r prefix text) (outcome_of r) (text_grows r prefix text) (told_grows r) stay bytes w w2 u u3
          (all_whole w w2 (stream_output_by prefix text r bytes) far.output) (all_of u u3 _ _ reported);
      counts_last = inr far.output;
    }

-- a frame that the end decides was not processed to its end
pub cut_last : (s : StreamRunState) → Stays → (more : Bool) (before : List ℕ) (bytes : List ℕ) (w w1 w2 u u1 u2 : Option (List ℕ)) → IsWaiting s.deframer.rest
    → IsPushed s bytes w w1 u u1 → more ≡ false → before ≡ s.deframer.rest
    → StreamStops s.week (prefix_text s.to) (item_text s.to 0) more before w1 w2 u1 u2 s.given s.counts → IsCutShort s bytes bytes w w2 u u2
cut_last s stay more before bytes w w1 w2 u u1 u2 waits old no_more same stops =
    let past = old.behind.past in
    let is : past ≡ decided bytes = flushed_frames bytes s.deframer.rest past (old.behind.decides []) waits in
    let rest = stops.stream [] (λ last. refl) in
    let whole : frames bytes ≡ (past ++ stops.frames_are) ++ rest.0 =
    ap frames (sym (append-nil bytes)) ∙ old.behind.stream [] ∙ ap (λ (l : List ℕ). past ++ frames (l ++ [])) (sym same) ∙ ap (λ (l : List (List ℕ)). past ++ l) rest.1 ∙ sym (append_assoc past stops.frames_are rest.0) in
    cut s stay bytes bytes stops.done (past ++ stops.done) (past ++ stops.frames_are) rest.0 w w2 u u2
    (next_behind past stops.done stops.frames_are stops.next)
    (ap (λ (l : List (List ℕ)). l ++ stops.done) is) whole (stops.breaks past w u old.behind.so_far)
