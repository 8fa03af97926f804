-- How a run over the bytes of a stream ends: with all of them, or with a prefix of what they give.
use Rattle.std.proofs.Common.{◌≡◌, ◌⊎◌, ◌+◌, ◌-◌, ◌<◌, ◌≤◌, ◌^◌, ℕ, Bool, true, false, not, List, [], ◌++◌, length, take, drop, ◌∙◌, inl, inr, refl, sym, ap, subst, arith, append_assoc, append-nil, length-append}
use Rattle.std.proofs.lemmas.List.{take-append-drop, take-append-le}
use Rattle.std.specs.Prelude.{Option, Result, Ok, Err, IfErr, OnErr}
use Rattle.std.specs.Io.KnownBytes.{Consumes, IsAtEnd, Keeps}
use Rattle.std.proofs.KnownBytes.{Consumes-trans, Consumes-kept}
use Rattle.nav_eph.specs.declared.items.NavItem.{NavItem}
use Rattle.framing.specs.Frames.{decided, frames, undecided}
use Rattle.framing.specs.State.{DeframerState, IsWaiting}
use Rattle.one_run.specs.declared.fault.BridgeFault.{BridgeFault}
use Rattle.one_run.specs.declared.fault.BridgeFault.TheVariants.{ReadFault, WriteFault, ReportFault, NotThisForm, TooLong, NoMemory}
use Rattle.streams.specs.declared.counts.StreamCounts.{StreamCounts}
use Rattle.streams.specs.Streams.{readings, readings_output, readings_report}
use Rattle.streams.specs.Mirrors.{BeginsFlushed, GivenState, IsStreamFault, StreamAll, StreamBroke, StreamGoes, StreamMoves, StreamPart, StreamSoFar, StreamStops}
use Rattle.streams.proofs.DecidedLemmas.{decided_behind, decided_waiting}
use Rattle.streams.proofs.MoveLemmas.{moves_fed, moves_on, stops_on}
use Rattle.streams.proofs.PieceLemmas.{PiecesSoFar}
use Rattle.one_run.proofs.Surface.{between_whole}

-- frames that are taken whatever follows are taken where nothing follows
pub moves_last : (r : ℕ) (prefix : List ℕ) (text : NavItem → List ℕ) (a b : List ℕ) (w w1 u u1 : Option (List ℕ)) (g g1 : GivenState) (c c1 : StreamCounts)
    → StreamMoves r prefix text true a b w w1 u u1 g g1 c c1 → StreamMoves r prefix text false a b w w1 u u1 g g1 c c1
moves_last r prefix text a b w w1 u u1 g g1 c c1 moves = record {
  frames_are = moves.frames_are;
  stream = λ following last. moves.stream following (λ never. cc);
  decides = λ following never. cc;
  goes = moves.goes;
}

-- what is left is the same
moves_to : (r : ℕ) (prefix : List ℕ) (text : NavItem → List ℕ) (more : Bool) (a b d : List ℕ) (w w1 u u1 : Option (List ℕ)) (g g1 : GivenState) (c c1 : StreamCounts)
    → b ≡ d → StreamMoves r prefix text more a b w w1 u u1 g g1 c c1 → StreamMoves r prefix text more a d w w1 u u1 g g1 c c1
moves_to r prefix text more a b d w w1 u u1 g g1 c c1 same moves = record {
  frames_are = moves.frames_are;
  stream = λ following last. moves.stream following last ∙ ap (λ (l : List ℕ). moves.frames_are ++ frames (l ++ following)) same;
  decides = λ following unfinished. moves.decides following unfinished ∙ ap (λ (l : List ℕ). moves.frames_are ++ decided (l ++ following)) same;
  goes = moves.goes;
}

-- all of what frames give is a prefix of it
broke_whole : (r : ℕ) (prefix : List ℕ) (text : NavItem → List ℕ) (past : List (List ℕ)) (w w1 u u1 : Option (List ℕ)) (g : GivenState) (c : StreamCounts)
    → StreamSoFar r prefix text past w w1 u u1 g c → StreamBroke r prefix text past past w w1 u u1
broke_whole r prefix text past w w1 u u1 g c far = record {
  output = between_whole w w1 (readings_output prefix text (readings r past)) far.output;
  report = between_whole u u1 (readings_report 1 (readings r past)) far.report;
}

stops_of_moves : (r : ℕ) (prefix : List ℕ) (text : NavItem → List ℕ) (more : Bool) (a b : List ℕ) (w w1 u u1 : Option (List ℕ)) (g g1 : GivenState) (c c1 : StreamCounts)
    → StreamMoves r prefix text more a b w w1 u u1 g g1 c c1 → StreamStops r prefix text more a w w1 u u1 g c
stops_of_moves r prefix text more a b w w1 u u1 g g1 c c1 moves = record {
  done = moves.frames_are;
  frames_are = moves.frames_are;
  next = inl refl;
  stream = λ following last. (frames (b ++ following), moves.stream following last);
  breaks = λ past start begun far. broke_whole r prefix text (past ++ moves.frames_are) start w1 begun u1 g1 c1 (moves.goes past start begun far);
}

-- exactly the decided frames were taken
pub flushed_frames : (bytes rest : List ℕ) (them : List (List ℕ)) → decided (bytes ++ []) ≡ them ++ decided (rest ++ []) → IsWaiting rest → them ≡ decided bytes
flushed_frames bytes rest them is waits =
    sym (ap decided (sym (append-nil bytes)) ∙ is ∙ ap (λ (l : List ℕ). them ++ decided l) (append-nil rest)
    ∙ ap (λ (l : List (List ℕ)). them ++ l) (decided_waiting rest waits) ∙ append-nil them)

-- what is decided by the first bytes is decided by all
pub decided_prefix : (k : ℕ) (bytes : List ℕ) → (rest : List (List ℕ)) × (decided bytes ≡ decided (take k bytes) ++ rest)
decided_prefix k bytes = (
  decided (undecided (take k bytes) ++ drop k bytes),
  ap decided (sym (take-append-drop k bytes)) ∙ decided_behind (take k bytes) (drop k bytes),
)

-- the bytes but the last piece stand in those that were taken before it
pub before_last : (bytes piece : List ℕ) → length piece ≤ 16384 → take (length (bytes ++ piece) - 16384) (bytes ++ piece) ≡ take (length (bytes ++ piece) - 16384) bytes
before_last bytes piece few = take-append-le (length (bytes ++ piece) - 16384) bytes piece (omega (arith, length-append bytes piece, few))

-- frames that begin with those that were decided before the last piece
pub begins_flushed : (bytes piece : List ℕ) (them more : List (List ℕ)) → length piece ≤ 16384 → them ≡ decided bytes ++ more → BeginsFlushed them (bytes ++ piece)
begins_flushed bytes piece them more few is =
    let n = length (bytes ++ piece) - 16384 in
    let first = decided_prefix n bytes in (
      first.0 ++ more,
      is ∙ ap (λ (l : List (List ℕ)). l ++ more) first.1 ∙ append_assoc (decided (take n bytes)) first.0 more
          ∙ ap (λ (l : List ℕ). decided l ++ (first.0 ++ more)) (sym (before_last bytes piece few)),
    )

pub begins_all : (bytes : List ℕ) (them more : List (List ℕ)) → them ≡ decided bytes ++ more → BeginsFlushed them bytes
begins_all bytes them more is = subst (BeginsFlushed them) (append-nil bytes) (begins_flushed bytes [] them more (omega arith) is)

-- the frames that were taken before the last piece are those that were decided
far_flushed : (r : ℕ) (prefix : List ℕ) (text : NavItem → List ℕ) (left l1 w w1 u u1 : Option (List ℕ)) (g g1 : GivenState) (c c1 : StreamCounts) (state : DeframerState) (taken : ℕ)
    → (far : PiecesSoFar r prefix text left l1 w w1 u u1 g g1 c c1 state taken) → far.moves.frames_are ≡ decided far.bytes
far_flushed r prefix text left l1 w w1 u u1 g g1 c c1 state taken far = flushed_frames far.bytes state.rest far.moves.frames_are (far.moves.decides [] refl) far.may_feed.1

-- a read that gave no byte
pub takes_none : (left l1 l2 : Option (List ℕ)) (bytes : List ℕ) (n : ℕ) (buffer : List ℕ) → Consumes left l1 bytes → n ≡ 0 → Consumes l1 l2 (take n buffer) → Consumes left l2 bytes
takes_none left l1 l2 bytes n buffer before zero read =
    let none : Consumes l1 l2 [] = subst (λ (k : ℕ). Consumes l1 l2 (take k buffer)) zero read in
    subst (Consumes left l2) (append-nil bytes) (Consumes-trans left l1 l2 bytes [] before none)

-- the whole input was taken
pub pieces_all : (r : ℕ) (prefix : List ℕ) (text : NavItem → List ℕ) (left l1 l2 w w1 w2 u u1 u2 : Option (List ℕ)) (g g1 g2 : GivenState) (c c1 c2 : StreamCounts) (old last : DeframerState) (after : List ℕ) (taken n : ℕ) (buffer : List ℕ)
    → PiecesSoFar r prefix text left l1 w w1 u u1 g g1 c c1 old taken → taken < 2 ^ 32 → n ≡ 0 → Consumes l1 l2 (take n buffer) → IsAtEnd l2
    → last.rest ≡ old.rest → last.finished ≡ true
    → StreamMoves r prefix text (not last.finished) last.rest after w1 w2 u1 u2 g1 g2 c1 c2 → (last.finished ≡ true → after ≡ [])
    → StreamAll r prefix text left l2 w w2 u u2 g g2 c c2
unfolding moves_to moves_on moves_last
pieces_all r prefix text left l1 l2 w w1 w2 u u1 u2 g g1 g2 c c1 c2 old last after taken n buffer far fits zero read end same finished moves none =
    let ends = subst (λ (b : Bool). StreamMoves r prefix text (not b) last.rest after w1 w2 u1 u2 g1 g2 c1 c2) finished moves in
    let from = subst (λ (l : List ℕ). StreamMoves r prefix text false l after w1 w2 u1 u2 g1 g2 c1 c2) same ends in
    let whole = moves_on r prefix text false far.bytes old.rest after w w1 w2 u u1 u2 g g1 g2 c c1 c2 (moves_last r prefix text far.bytes old.rest w w1 u u1 g g1 c c1 far.moves) from in
    let done = moves_to r prefix text false far.bytes after [] w w2 u u2 g g2 c c2 (none finished) whole in
    record {
      taken = far.bytes;
      consumes = takes_none left l1 l2 far.bytes n buffer far.consumes zero read;
      end = end;
      fits = omega (arith, far.size, fits);
      moves = done;
      flushes = begins_all far.bytes done.frames_are from.frames_are
          (ap (λ (l : List (List ℕ)). l ++ from.frames_are) (far_flushed r prefix text left l1 w w1 u u1 g g1 c c1 old taken far));
    }

-- a read failed: exactly the decided frames were taken
pub part_of_read : (r : ℕ) (prefix : List ℕ) (text : NavItem → List ℕ) (left l1 l2 w w1 u u1 : Option (List ℕ)) (g g1 : GivenState) (c c1 : StreamCounts) (state : DeframerState) (taken : ℕ)
    → PiecesSoFar r prefix text left l1 w w1 u u1 g g1 c c1 state taken → Keeps l1 l2 → StreamPart r prefix text left l2 w w1 u u1 g g1 c c1 ReadFault
unfolding stops_of_moves
part_of_read r prefix text left l1 l2 w w1 u u1 g g1 c c1 state taken far kept =
    let flushed = far_flushed r prefix text left l1 w w1 u u1 g g1 c c1 state taken far in
    record {
      taken = far.bytes;
      consumes = Consumes-kept left l1 l2 far.bytes far.consumes kept;
      more = true;
      end = λ never. cc;
      stops = stops_of_moves r prefix text true far.bytes state.rest w w1 u u1 g g1 c c1 far.moves;
      flushes = begins_all far.bytes far.moves.frames_are [] (flushed ∙ sym (append-nil (decided far.bytes)));
      too_long = λ never. cc;
      memory = λ never. cc;
      form = λ never. cc;
      exact = λ same. subst (λ (l : List (List ℕ)). StreamGoes r prefix text l w w1 u u1 g g1 c c1) flushed far.moves.goes;
    }

-- too many bytes were there
pub part_of_long : (r : ℕ) (prefix : List ℕ) (text : NavItem → List ℕ) (left l1 w w1 u u1 : Option (List ℕ)) (g g1 : GivenState) (c c1 : StreamCounts) (state : DeframerState) (taken : ℕ)
    → PiecesSoFar r prefix text left l1 w w1 u u1 g g1 c c1 state taken → taken ≡ 2 ^ 32 → StreamPart r prefix text left l1 w w1 u u1 g g1 c c1 TooLong
unfolding stops_of_moves
part_of_long r prefix text left l1 w w1 u u1 g g1 c c1 state taken far long = record {
  taken = far.bytes;
  consumes = far.consumes;
  more = true;
  end = λ never. cc;
  stops = stops_of_moves r prefix text true far.bytes state.rest w w1 u u1 g g1 c c1 far.moves;
  flushes = begins_all far.bytes far.moves.frames_are [] (far_flushed r prefix text left l1 w w1 u u1 g g1 c c1 state taken far ∙ sym (append-nil (decided far.bytes)));
  too_long = λ same. far.size ∙ long;
  memory = λ never. cc;
  form = λ never. cc;
  exact = λ never. cc;
}

-- ---- the fault of a piece

-- the error of a run that ended in a piece by this fault, after so many bytes: no memory in a byte too many is TooLong
pub record IsFaultAt (taken : ℕ) (fault given : BridgeFault) : Type 0 where
  pub same : (given ≡ fault) ⊎ ((given ≡ TooLong) × (fault ≡ NoMemory) × (2 ^ 32 ≤ taken))
  pub memory : given ≡ NoMemory → taken < 2 ^ 32

-- an error by which no piece ends
abbrev ends_none : BridgeFault → Bool
ends_none ReadFault = true
ends_none NotThisForm = true
ends_none other = false

ends : (wrong : BridgeFault) → ends_none wrong ≡ true → IsStreamFault wrong → ⊥
ends ReadFault none kind = kind
ends NotThisForm none kind = kind
ends WriteFault none kind = cc
ends ReportFault none kind = cc
ends TooLong none kind = cc
ends NoMemory none kind = cc

apart : (wrong : BridgeFault) → ends_none wrong ≡ true → TooLong ≡ wrong → ⊥
apart ReadFault none is = cc
apart NotThisForm none is = cc
apart WriteFault none is = cc
apart ReportFault none is = cc
apart TooLong none is = cc
apart NoMemory none is = cc

-- the run ends so only by the fault of the piece, or by TooLong
pub kind_at : (wrong : BridgeFault) (taken : ℕ) (fault given : BridgeFault) → IsStreamFault fault → IsFaultAt taken fault given → given ≡ wrong → ends_none wrong ≡ true → ⊥
kind_at wrong taken fault given kind at is none = by at.same where
  by : (given ≡ fault) ⊎ ((given ≡ TooLong) × (fault ≡ NoMemory) × (2 ^ 32 ≤ taken)) → ⊥
  by (inl same) = ends wrong none (subst IsStreamFault (sym same ∙ is) kind)
  by (inr long) = apart wrong none (sym long.0 ∙ is)

-- it ends by TooLong only after too many bytes
pub long_at : (taken : ℕ) (fault given : BridgeFault) → IsStreamFault fault → IsFaultAt taken fault given → given ≡ TooLong → 2 ^ 32 ≤ taken
long_at taken fault given kind at is = by at.same where
  by : (given ≡ fault) ⊎ ((given ≡ TooLong) × (fault ≡ NoMemory) × (2 ^ 32 ≤ taken)) → 2 ^ 32 ≤ taken
  by (inl same) = absurd (subst IsStreamFault (sym same ∙ is) kind)
  by (inr long) = long.2

-- a frame of a piece is not taken to its end
pub part_of_piece : (r : ℕ) (prefix : List ℕ) (text : NavItem → List ℕ) (left l1 l2 w w1 w2 u u1 u2 : Option (List ℕ)) (g g1 g2 : GivenState) (c c1 c2 : StreamCounts) (old : DeframerState) (taken n : ℕ) (piece : List ℕ) (fault given : BridgeFault)
    → PiecesSoFar r prefix text left l1 w w1 u u1 g g1 c c1 old taken → Consumes l1 l2 piece → length piece ≤ 16384 → length piece ≡ n → taken + n ≤ 2 ^ 32
    → StreamStops r prefix text true (old.rest ++ piece) w1 w2 u1 u2 g1 c1 → IsStreamFault fault → IsFaultAt (taken + n) fault given
    → StreamPart r prefix text left l2 w w2 u u2 g g2 c c2 given
unfolding stops_on moves_fed
part_of_piece r prefix text left l1 l2 w w1 w2 u u1 u2 g g1 g2 c c1 c2 old taken n piece fault given far read few size most stops kind at = record {
  taken = far.bytes ++ piece;
  consumes = Consumes-trans left l1 l2 far.bytes piece far.consumes read;
  more = true;
  end = λ never. cc;
  stops = stops_on r prefix text true (far.bytes ++ piece) (old.rest ++ piece) w w1 w2 u u1 u2 g g1 c c1
      (moves_fed r prefix text far.bytes old.rest piece w w1 u u1 g g1 c c1 far.moves) stops;
  flushes = begins_flushed far.bytes piece (far.moves.frames_are ++ stops.done) stops.done few
      (ap (λ (l : List (List ℕ)). l ++ stops.done) (far_flushed r prefix text left l1 w w1 u u1 g g1 c c1 old taken far));
  too_long = λ is. let many = long_at (taken + n) fault given kind at is in omega (arith, length-append far.bytes piece, far.size, size, most, many);
  memory = λ is. let few = at.memory is in omega (arith, length-append far.bytes piece, far.size, size, few);
  form = λ is. kind_at NotThisForm (taken + n) fault given kind at is refl;
  exact = λ is. absurd (kind_at ReadFault (taken + n) fault given kind at is refl);
}

-- a frame that the end decides is not taken to its end
pub part_of_last : (r : ℕ) (prefix : List ℕ) (text : NavItem → List ℕ) (left l1 l2 w w1 w2 u u1 u2 : Option (List ℕ)) (g g1 g2 : GivenState) (c c1 c2 : StreamCounts) (old last : DeframerState) (taken n : ℕ) (buffer : List ℕ) (fault : BridgeFault)
    → PiecesSoFar r prefix text left l1 w w1 u u1 g g1 c c1 old taken → taken < 2 ^ 32 → n ≡ 0 → Consumes l1 l2 (take n buffer) → IsAtEnd l2
    → last.rest ≡ old.rest → last.finished ≡ true
    → StreamStops r prefix text (not last.finished) last.rest w1 w2 u1 u2 g1 c1 → IsStreamFault fault
    → StreamPart r prefix text left l2 w w2 u u2 g g2 c c2 fault
unfolding stops_on moves_last
part_of_last r prefix text left l1 l2 w w1 w2 u u1 u2 g g1 g2 c c1 c2 old last taken n buffer fault far fits zero read end same finished stops kind =
    let ends = subst (λ (b : Bool). StreamStops r prefix text (not b) last.rest w1 w2 u1 u2 g1 c1) finished stops in
    let from = subst (λ (l : List ℕ). StreamStops r prefix text false l w1 w2 u1 u2 g1 c1) same ends in
    record {
      taken = far.bytes;
      consumes = takes_none left l1 l2 far.bytes n buffer far.consumes zero read;
      more = false;
      end = λ last. end;
      stops = stops_on r prefix text false far.bytes old.rest w w1 w2 u u1 u2 g g1 c c1 (moves_last r prefix text far.bytes old.rest w w1 u u1 g g1 c c1 far.moves) from;
      flushes = begins_all far.bytes (far.moves.frames_are ++ from.done) from.done
          (ap (λ (l : List (List ℕ)). l ++ from.done) (far_flushed r prefix text left l1 w w1 u u1 g g1 c c1 old taken far));
      too_long = λ is. absurd (subst IsStreamFault is kind);
      memory = λ is. omega (arith, far.size, fits);
      form = λ is. subst IsStreamFault is kind;
      exact = λ is. absurd (subst IsStreamFault is kind);
    }

-- what an answer that failed says, with its fault
pub if_err2 : {T : Type 0} {P : Type 0} {Q R : BridgeFault → Type 0} (r : Result T BridgeFault) → OnErr r P → IfErr r Q → ((fault : BridgeFault) → P → Q fault → R fault) → IfErr r R
if_err2 (Ok x) p q f = tt
if_err2 (Err e) p q f = f e p q
