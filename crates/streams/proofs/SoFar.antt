-- What a run has taken and written so far, and how it ends.
use Rattle.std.proofs.Common.{◌≡◌, ◌+◌, ◌-◌, ◌<◌, ◌≤◌, ◌^◌, ℕ, Bool, true, false, not, List, [], ◌++◌, length, take, refl, sym, ap, ◌∙◌, subst, inl, arith, append_assoc, append-nil, length-append}
use Rattle.std.specs.Prelude.{Option, None, Some, Err, IfSome, IsSome, IsTrue}
use Rattle.std.specs.List.{flat_map}
use Rattle.std.specs.Io.KnownBytes.{Appends, Consumes, IsAtEnd, Keeps}
use Rattle.std.proofs.KnownBytes.{Appends-trans, Consumes-nil, Consumes-trans, Consumes-kept}
use Rattle.std.proofs.lemmas.Grind.{flat_map-append}
use Rattle.nav_io.specs.Causes.{Rose}
use Rattle.nav_io.specs.Prefix.{AppendsPrefix, IsPrefix}
use Rattle.framing.specs.Frames.{decided, frames}
use Rattle.framing.specs.State.{DeframerState, MayFeed}
use Rattle.one_run.specs.declared.fault.BridgeFault.TheVariants.{ReadFault, WriteFault, TooLong}
use Rattle.one_run.specs.declared.fault.BridgeFault.{BridgeFault}
use Rattle.one_run.specs.Causes.{HasItsCause}
use Rattle.one_run.specs.Runs.{AppendsBetween, IsBroken, IsDone, IsAheadOf, Leaves, Says, World, faults_in}
use Rattle.one_run.proofs.Surface.{ahead_at_end, ahead_by, between_whole, no_prefix, none_failed, prefix_behind, prefix_of, prefix_trans, read_failed, whole_prefix, with_rest, write_failed}
use Rattle.streams.specs.declared.frame_run.FrameCounts.{FrameCounts}
use Rattle.streams.specs.FrameLines.{frames_meaning, line_of}
use Rattle.streams.specs.FrameRuns.{Goes, Breaks, least_of, output_of, flushed_of}
use Rattle.streams.proofs.Goings.{goes_nowhere, goes_on, goes_fed}
use Rattle.streams.proofs.PieceEnds.{before_last, decided_prefix, flushed_frames}
use Rattle.streams.proofs.Stopping.{Grows, Stays, silent_stopped}

-- The bytes taken, and what they decide, so far.
pub record RunsSoFar (line : List ℕ → List ℕ) (left left_new written written_new : Option (List ℕ)) (state : DeframerState) (taken count : ℕ) : Type 0 where
  pub bytes : List ℕ
  pub consumes : Consumes left left_new bytes
  pub goes : Goes line true bytes state.rest written written_new 0 count
  pub may_feed : MayFeed state
  pub size : length bytes ≡ taken
  pub limit : taken ≤ 2 ^ 32
  pub room : count + length state.rest ≤ taken

-- nothing was taken
pub so_far_start : (line : List ℕ → List ℕ) (left w : Option (List ℕ)) (state : DeframerState) → state.rest ≡ [] → state.finished ≡ false → RunsSoFar line left left w w state 0 0
so_far_start line left w state none open_end = record {
  bytes = [];
  consumes = Consumes-nil left;
  goes = subst (λ (l : List ℕ). Goes line true [] l w w 0 0) (sym none) (goes_nowhere line true [] w 0);
  may_feed = (open_end, inl none);
  size = refl;
  limit = omega arith;
  room = omega (arith, ap length none);
}

-- a piece was taken
pub so_far_piece : (line : List ℕ → List ℕ) (left l1 l2 w w1 w2 : Option (List ℕ)) (old new : DeframerState) (taken count counted : ℕ) (piece : List ℕ) (n : ℕ)
    → RunsSoFar line left l1 w w1 old taken count → Consumes l1 l2 piece → length piece ≡ n → taken + n ≤ 2 ^ 32
    → Goes line true (old.rest ++ piece) new.rest w1 w2 count counted → MayFeed new → counted + length new.rest ≤ count + length old.rest + length piece
    → RunsSoFar line left l2 w w2 new (taken + n) counted
so_far_piece line left l1 l2 w w1 w2 old new taken count counted piece n far read size limit goes may_feed room = record {
  bytes = far.bytes ++ piece;
  consumes = Consumes-trans left l1 l2 far.bytes piece far.consumes read;
  goes = goes_on line true _ (old.rest ++ piece) new.rest w w1 w2 0 count counted (goes_fed line far.bytes old.rest piece w w1 0 count far.goes) goes;
  may_feed = may_feed;
  size = omega (arith, length-append far.bytes piece, far.size, size);
  limit = limit;
  room = omega (arith, far.room, room, size);
}

-- what was given between two rests, after the last byte
pub goes_last : (line : List ℕ → List ℕ) (a b : List ℕ) (v w : Option (List ℕ)) (k n : ℕ) → Goes line true a b v w k n → Goes line false a b v w k n
goes_last line a b v w k n goes = record {
  given = goes.given;
  stream = λ following last. goes.stream following (λ never. cc);
  decides = λ following never. cc;
  text = goes.text;
  counts = goes.counts;
}

-- what was given by the last byte is all
all_given : (line : List ℕ → List ℕ) (bytes after : List ℕ) (v w : Option (List ℕ)) (n : ℕ) → after ≡ [] → (goes : Goes line false bytes after v w 0 n) → frames bytes ≡ goes.given
all_given line bytes after v w n none goes =
    ap frames (sym (append-nil bytes)) ∙ goes.stream [] (λ last. refl) ∙ ap (λ (l : List ℕ). goes.given ++ frames (l ++ [])) none ∙ append-nil goes.given

-- a read that gave no byte
takes_none : (left l1 l2 : Option (List ℕ)) (bytes : List ℕ) (n : ℕ) (buffer : List ℕ) → Consumes left l1 bytes → n ≡ 0 → Consumes l1 l2 (take n buffer) → Consumes left l2 bytes
takes_none left l1 l2 bytes n buffer before zero read =
    let none : Consumes l1 l2 [] = subst (λ (k : ℕ). Consumes l1 l2 (take k buffer)) zero read in
    subst (Consumes left l2) (append-nil bytes) (Consumes-trans left l1 l2 bytes [] before none)

-- ---- how the run ends

-- nothing is reported
pub record IsSilent {S T U : Type 0} (b a : World S T U) : Type 0 where
  pub report : a.report ≡ b.report
  pub told : Appends b.reported a.reported []
  pub failed : a.reports_failed ≡ b.reports_failed

-- every stream is accepted
accepts : (left : Option (List ℕ)) → IfSome left (λ bytes. IsSome (frames_meaning.counts bytes))
accepts None = tt
accepts (Some bytes) = refl

leaves : {S T U : Type 0} (b a : World S T U) → IsSilent b a → Leaves frames_meaning b a
leaves b a silent = record { unread = λ never. cc; silent = λ same. silent.report }

-- exactly the lines of the decided frames were written
far_given : (left l1 w w1 : Option (List ℕ)) (state : DeframerState) (taken count : ℕ) → (far : RunsSoFar line_of left l1 w w1 state taken count) → far.goes.given ≡ decided far.bytes
far_given left l1 w w1 state taken count far = flushed_frames far.bytes state.rest far.goes.given (far.goes.decides [] refl) far.may_feed.1

far_text : (left l1 w w1 : Option (List ℕ)) (state : DeframerState) (taken count : ℕ) → (far : RunsSoFar line_of left l1 w w1 state taken count) → Appends w w1 (flushed_of line_of far.bytes)
far_text left l1 w w1 state taken count far = subst (λ (l : List (List ℕ)). Appends w w1 (flat_map line_of l)) (far_given left l1 w w1 state taken count far) far.goes.text

-- the least that is written with a piece more is a prefix of that
least_before : (bytes piece : List ℕ) → length piece ≤ 16384 → IsPrefix (least_of line_of (bytes ++ piece)) (flushed_of line_of bytes)
least_before bytes piece few =
    let n = length (bytes ++ piece) - 16384 in
    let first = decided_prefix n bytes in (
      flat_map line_of first.0,
      ap (flat_map line_of) first.1 ∙ flat_map-append line_of (decided (take n bytes)) first.0
          ∙ ap (λ (l : List ℕ). flat_map line_of (decided l) ++ flat_map line_of first.0) (sym (before_last bytes piece few)),
    )

-- a text was written, and then a prefix of what is written of more bytes
written_between : (line : List ℕ → List ℕ) (bytes : List ℕ) (w w1 w2 : Option (List ℕ)) (least done more : List ℕ) → IsPrefix least done → Appends w w1 done → AppendsPrefix w1 w2 more
    → output_of line bytes ≡ done ++ more → AppendsBetween w w2 least (output_of line bytes)
written_between line bytes w w1 w2 least done more low text (prefix, (rest, within), grew) whole = record {
  prefix = done ++ prefix;
  within = (rest, whole ∙ ap (λ (l : List ℕ). done ++ l) within ∙ sym (append_assoc done prefix rest));
  no_less = prefix_trans least done (done ++ prefix) low (prefix, refl);
  grew = Appends-trans w w1 w2 done prefix text grew;
}

-- the lines of fewer frames begin those of more
lines_grow : Grows (flat_map line_of)
lines_grow some more = (flat_map line_of more, flat_map-append line_of some more)

-- a prefix of the lines of all frames was written
written_ahead : (o w w1 u u1 : Option (List ℕ)) → IsAheadOf frames_meaning.whole o w w1 u u1 → IfSome o (λ bytes. AppendsPrefix w w1 (flat_map line_of (frames bytes)))
written_ahead None w w1 u u1 ahead = tt
written_ahead (Some bytes) w w1 u u1 ahead = ahead.0

-- the run broke off
broke : {S T U : Type 0} (b a : World S T U) (fault : BridgeFault) (taken : List ℕ) → Stays → IsSilent b a → Consumes b.left a.left taken
    → AppendsBetween b.written a.written (least_of line_of taken) (output_of line_of taken) → IsAheadOf frames_meaning.whole b.left b.written a.written b.reported a.reported
    → HasItsCause {T = Unit {0}} (faults_in b) (faults_in a) (Err fault) → Says frames_meaning taken b a fault → IsBroken frames_meaning b a fault
broke b a fault taken stay silent consumes text ahead cause says = record {
  taken = taken;
  consumes = consumes;
  text = text;
  told = between_whole b.reported a.reported [] silent.told;
  ahead = ahead;
  stopped = silent_stopped (flat_map line_of) lines_grow stay b.left b.written a.written b.reported a.reported (written_ahead b.left b.written a.written b.reported a.reported ahead) silent.told;
  counts_last = inl (with_rest b.left a.left taken _ consumes (λ rest is. whole_prefix b.reported a.reported [] silent.told));
  cause = cause;
  leaves = leaves b a silent;
  says = says;
}

-- the counts for this number of frames
abbrev counts_of : ℕ → FrameCounts
counts_of n = record { frames = n }

-- the run is done
pub done_frames : {S T U : Type 0} (b a : World S T U) (l1 w1 : Option (List ℕ)) (old last : DeframerState) (after : List ℕ) (taken count counted : ℕ) (n : ℕ) (buffer : List ℕ)
    → IsSilent b a → RunsSoFar line_of b.left l1 b.written w1 old taken count → taken < 2 ^ 32 → n ≡ 0 → Consumes l1 a.left (take n buffer) → IsAtEnd a.left
    → last.rest ≡ old.rest → last.finished ≡ true → (last.finished ≡ true → after ≡ [])
    → Goes line_of (not last.finished) last.rest after w1 a.written count counted
    → a.reads_failed ≡ b.reads_failed → a.writes_failed ≡ b.writes_failed
    → IsDone frames_meaning b a (record { frames = counted })
done_frames b a l1 w1 old last after taken count counted n buffer silent far fits zero read end same finished none goes reads writes =
    let ends = subst (λ (x : Bool). Goes line_of (not x) last.rest after w1 a.written count counted) finished goes in
    let from = subst (λ (l : List ℕ). Goes line_of false l after w1 a.written count counted) same ends in
    let whole = goes_on line_of false far.bytes old.rest after b.written w1 a.written 0 count counted (goes_last line_of far.bytes old.rest b.written w1 0 count far.goes) from in
    let all = all_given line_of far.bytes after b.written a.written counted (none finished) whole in
    record {
      taken = far.bytes;
      consumes = takes_none b.left l1 a.left far.bytes n buffer far.consumes zero read;
      end = end;
      fits = omega (arith, far.size, fits);
      counted = ap (λ (n : ℕ). Some (counts_of n)) (let same : length (frames far.bytes) ≡ counted = omega (arith, whole.counts, ap length all) in same);
      text = subst (λ (l : List (List ℕ)). Appends b.written a.written (flat_map line_of l)) (sym all) whole.text;
      told = silent.told;
      leaves = leaves b a silent;
      reads = reads;
      writes = writes;
      reports = silent.failed;
    }

-- the lines of more bytes begin with those of the decided frames
more_lines : (left l1 w w1 : Option (List ℕ)) (state : DeframerState) (taken count : ℕ) → (far : RunsSoFar line_of left l1 w w1 state taken count) → (piece : List ℕ)
    → output_of line_of (far.bytes ++ piece) ≡ flushed_of line_of far.bytes ++ output_of line_of (state.rest ++ piece)
more_lines left l1 w w1 state taken count far piece =
    ap (flat_map line_of) (far.goes.stream piece (λ never. cc)) ∙ flat_map-append line_of far.goes.given (frames (state.rest ++ piece))
    ∙ ap (λ (l : List (List ℕ)). flat_map line_of l ++ output_of line_of (state.rest ++ piece)) (far_given left l1 w w1 state taken count far)

last_lines : (left l1 w w1 : Option (List ℕ)) (state : DeframerState) (taken count : ℕ) → (far : RunsSoFar line_of left l1 w w1 state taken count)
    → output_of line_of far.bytes ≡ flushed_of line_of far.bytes ++ output_of line_of (state.rest ++ [])
last_lines left l1 w w1 state taken count far = ap (output_of line_of) (sym (append-nil far.bytes)) ∙ more_lines left l1 w w1 state taken count far []

least_all : (bytes : List ℕ) → IsPrefix (least_of line_of bytes) (flushed_of line_of bytes)
least_all bytes = subst (λ (l : List ℕ). IsPrefix (least_of line_of l) (flushed_of line_of bytes)) (append-nil bytes) (least_before bytes [] (omega arith))

-- nothing was written after them
far_between : (left l1 w w1 : Option (List ℕ)) (state : DeframerState) (taken count : ℕ) → (far : RunsSoFar line_of left l1 w w1 state taken count)
    → AppendsBetween w w1 (least_of line_of far.bytes) (output_of line_of far.bytes)
far_between left l1 w w1 state taken count far =
    written_between line_of far.bytes w w1 w1 (least_of line_of far.bytes) (flushed_of line_of far.bytes) (output_of line_of (state.rest ++ [])) (least_all far.bytes)
    (far_text left l1 w w1 state taken count far) (no_prefix w1 _) (last_lines left l1 w w1 state taken count far)

-- what follows a prefix of the lines of the rest is no matter
lines_before : (left l1 w w1 w2 : Option (List ℕ)) (state : DeframerState) (taken count : ℕ) → (far : RunsSoFar line_of left l1 w w1 state taken count) → (following : List ℕ)
    → AppendsPrefix w1 w2 (output_of line_of (state.rest ++ following)) → AppendsPrefix w w2 (output_of line_of (far.bytes ++ following))
lines_before left l1 w w1 w2 state taken count far following part =
    subst (AppendsPrefix w w2) (sym (more_lines left l1 w w1 state taken count far following))
    (prefix_behind w w1 w2 (flushed_of line_of far.bytes) (output_of line_of (state.rest ++ following)) (far_text left l1 w w1 state taken count far) part)

-- nothing was written after the decided frames, whatever follows
far_ahead : {S T U : Type 0} (b a : World S T U) (l1 : Option (List ℕ)) (state : DeframerState) (taken count : ℕ)
    → IsSilent b a → (far : RunsSoFar line_of b.left l1 b.written a.written state taken count) → Consumes b.left a.left far.bytes
    → IsAheadOf frames_meaning.whole b.left b.written a.written b.reported a.reported
far_ahead b a l1 state taken count silent far consumes =
    ahead_by frames_meaning.whole b.left a.left b.written a.written b.reported a.reported far.bytes consumes
    (λ rest is. (lines_before b.left l1 b.written a.written a.written state taken count far rest (no_prefix a.written _), whole_prefix b.reported a.reported [] silent.told))

-- a read failed
pub broke_read : {S T U : Type 0} (b a : World S T U) (l1 : Option (List ℕ)) (state : DeframerState) (taken count : ℕ)
    → Stays → IsSilent b a → RunsSoFar line_of b.left l1 b.written a.written state taken count → Keeps l1 a.left
    → Rose b.reads_failed a.reads_failed → a.writes_failed ≡ b.writes_failed → (IsTrue b.never_fails → ⊥) → IsBroken frames_meaning b a ReadFault
broke_read b a l1 state taken count stay silent far kept rose writes never =
    let consumes = Consumes-kept b.left l1 a.left far.bytes far.consumes kept in
    broke b a ReadFault far.bytes stay silent consumes (far_between b.left l1 b.written a.written state taken count far)
    (far_ahead b a l1 state taken count silent far consumes) (read_failed b a rose writes silent.failed)
    (refl, rose, never, (far_text b.left l1 b.written a.written state taken count far, silent.told))

-- a write failed in a piece
pub broke_piece : {S T U : Type 0} (b a : World S T U) (l1 w1 : Option (List ℕ)) (old : DeframerState) (taken count : ℕ) (piece : List ℕ)
    → Stays → IsSilent b a → RunsSoFar line_of b.left l1 b.written w1 old taken count → Consumes l1 a.left piece → length piece ≤ 16384 → Breaks line_of true (old.rest ++ piece) w1 a.written
    → Rose b.writes_failed a.writes_failed → a.reads_failed ≡ b.reads_failed → IsBroken frames_meaning b a WriteFault
broke_piece b a l1 w1 old taken count piece stay silent far read few breaks rose reads =
    let prefix = subst (λ (l : List ℕ). AppendsPrefix w1 a.written (output_of line_of l)) (append-nil (old.rest ++ piece)) (breaks.text [] (λ never. refl)) in
    let consumes = Consumes-trans b.left l1 a.left far.bytes piece far.consumes read in
    let ahead = ahead_by frames_meaning.whole b.left a.left b.written a.written b.reported a.reported (far.bytes ++ piece) consumes
    (λ rest is. (
      subst (λ (l : List ℕ). AppendsPrefix b.written a.written (output_of line_of l)) (sym (append_assoc far.bytes piece rest))
          (lines_before b.left l1 b.written w1 a.written old taken count far (piece ++ rest)
          (subst (λ (l : List ℕ). AppendsPrefix w1 a.written (output_of line_of l)) (append_assoc old.rest piece rest) (breaks.text rest (λ never. cc)))),
      whole_prefix b.reported a.reported [] silent.told,
    )) in
    broke b a WriteFault (far.bytes ++ piece) stay silent consumes
    (written_between line_of (far.bytes ++ piece) b.written w1 a.written (least_of line_of (far.bytes ++ piece)) (flushed_of line_of far.bytes) (output_of line_of (old.rest ++ piece))
    (least_before far.bytes piece few) (far_text b.left l1 b.written w1 old taken count far) prefix (more_lines b.left l1 b.written w1 old taken count far piece))
    ahead (write_failed b a rose reads silent.failed) (rose, accepts b.left)

-- a write failed after the last byte
pub broke_last : {S T U : Type 0} (b a : World S T U) (l1 w1 : Option (List ℕ)) (old last : DeframerState) (taken count : ℕ) (n : ℕ) (buffer : List ℕ)
    → Stays → IsSilent b a → RunsSoFar line_of b.left l1 b.written w1 old taken count → n ≡ 0 → Consumes l1 a.left (take n buffer) → IsAtEnd a.left → last.rest ≡ old.rest → last.finished ≡ true
    → Breaks line_of (not last.finished) last.rest w1 a.written → Rose b.writes_failed a.writes_failed → a.reads_failed ≡ b.reads_failed → IsBroken frames_meaning b a WriteFault
broke_last b a l1 w1 old last taken count n buffer stay silent far zero read end same finished breaks rose reads =
    let ends = subst (λ (x : Bool). Breaks line_of (not x) last.rest w1 a.written) finished breaks in
    let from = subst (λ (l : List ℕ). Breaks line_of false l w1 a.written) same ends in
    let consumes = takes_none b.left l1 a.left far.bytes n buffer far.consumes zero read in
    let text = written_between line_of far.bytes b.written w1 a.written (least_of line_of far.bytes) (flushed_of line_of far.bytes) (output_of line_of (old.rest ++ []))
    (least_all far.bytes) (far_text b.left l1 b.written w1 old taken count far) (from.text [] (λ last. refl)) (last_lines b.left l1 b.written w1 old taken count far) in
    broke b a WriteFault far.bytes stay silent consumes text
    (ahead_at_end frames_meaning.whole b.left a.left b.written a.written b.reported a.reported far.bytes consumes end (prefix_of b.written a.written _ _ text)
    (whole_prefix b.reported a.reported [] silent.told)) (write_failed b a rose reads silent.failed) (rose, accepts b.left)

-- too many bytes were there
pub broke_long : {S T U : Type 0} (b a : World S T U) (state : DeframerState) (taken count : ℕ)
    → Stays → IsSilent b a → RunsSoFar line_of b.left a.left b.written a.written state taken count → 2 ^ 32 ≤ taken → a.reads_failed ≡ b.reads_failed → a.writes_failed ≡ b.writes_failed
    → IsBroken frames_meaning b a TooLong
broke_long b a state taken count stay silent far long reads writes =
    broke b a TooLong far.bytes stay silent far.consumes (far_between b.left a.left b.written a.written state taken count far) (far_ahead b a a.left state taken count silent far far.consumes)
    (none_failed b a reads writes silent.failed) (omega (arith, far.size, far.limit, long))
