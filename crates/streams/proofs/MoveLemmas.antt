-- Frames that are taken between two rests of bytes.
use Rattle.std.proofs.Common.{◌≡◌, ◌+◌, ℕ, Bool, true, List, [], ◌∷◌, ◌++◌, take, drop, inr, refl, sym, ap, subst, ◌∙◌, append_assoc, append-nil}
use Rattle.std.specs.Prelude.{Option}
use Rattle.std.proofs.lemmas.List.{take-append-drop}
use Rattle.std.proofs.Math.Seq.{take-add}
use Rattle.nav_eph.specs.declared.items.NavItem.{NavItem}
use Rattle.framing.specs.Frames.{decided, frames}
use Rattle.framing.specs.State.{TakesFrame, TakesNone}
use Rattle.streams.specs.declared.counts.StreamCounts.{StreamCounts}
use Rattle.streams.specs.Mirrors.{GivenState, StreamBreaks, StreamGoes, StreamMoves, StreamSoFar, StreamBroke, StreamStops}
use Rattle.streams.proofs.DecidedLemmas.{decided_frame, decided_none}
use Rattle.streams.proofs.Stopping.{next_behind}

-- no frame was taken
pub moves_nowhere : (r : ℕ) (prefix : List ℕ) (text : NavItem → List ℕ) (more : Bool) (rest : List ℕ) (w u : Option (List ℕ)) (given : GivenState) (c : StreamCounts)
    → StreamMoves r prefix text more rest rest w w u u given given c c
moves_nowhere r prefix text more rest w u given c = record {
  frames_are = [];
  stream = λ following last. refl;
  decides = λ following unfinished. refl;
  goes = λ past start begun far. subst (λ (l : List (List ℕ)). StreamSoFar r prefix text l start w begun u given c) (sym (append-nil past)) far;
}

-- a frame more was taken
pub moves_more : (r : ℕ) (prefix : List ℕ) (text : NavItem → List ℕ) (more : Bool) (a b d frame : List ℕ) (w w1 w2 u u1 u2 : Option (List ℕ)) (g g1 g2 : GivenState) (c c1 c2 : StreamCounts)
    → StreamMoves r prefix text more a b w w1 u u1 g g1 c c1 → TakesFrame more b frame d → StreamGoes r prefix text (frame ∷ []) w1 w2 u1 u2 g1 g2 c1 c2
    → StreamMoves r prefix text more a d w w2 u u2 g g2 c c2
moves_more r prefix text more a b d frame w w1 w2 u u1 u2 g g1 g2 c c1 c2 first takes goes = record {
  frames_are = first.frames_are ++ frame ∷ [];
  stream = λ following last.
      first.stream following last ∙ ap (λ (l : List (List ℕ)). first.frames_are ++ l) (takes.stream following last)
      ∙ sym (append_assoc first.frames_are (frame ∷ []) (frames (d ++ following)));
  decides = λ following unfinished.
      first.decides following unfinished
      ∙ ap (λ (l : List (List ℕ)). first.frames_are ++ l) (decided_frame b frame d (subst (λ (m : Bool). TakesFrame m b frame d) unfinished takes) following)
      ∙ sym (append_assoc first.frames_are (frame ∷ []) (decided (d ++ following)));
  goes = λ past start begun far.
      subst (λ (l : List (List ℕ)). StreamSoFar r prefix text l start w2 begun u2 g2 c2) (append_assoc past first.frames_are (frame ∷ []))
      (goes (past ++ first.frames_are) start begun (first.goes past start begun far));
}

-- no frame is left
pub moves_none : (r : ℕ) (prefix : List ℕ) (text : NavItem → List ℕ) (more : Bool) (a b d : List ℕ) (w w1 u u1 : Option (List ℕ)) (g g1 : GivenState) (c c1 : StreamCounts)
    → StreamMoves r prefix text more a b w w1 u u1 g g1 c c1 → TakesNone more b d → StreamMoves r prefix text more a d w w1 u u1 g g1 c c1
moves_none r prefix text more a b d w w1 u u1 g g1 c c1 first none = record {
  frames_are = first.frames_are;
  stream = λ following last. first.stream following last ∙ ap (λ (l : List (List ℕ)). first.frames_are ++ l) (none.stream following last);
  decides = λ following unfinished.
      first.decides following unfinished
      ∙ ap (λ (l : List (List ℕ)). first.frames_are ++ l) (decided_none b d (subst (λ (m : Bool). TakesNone m b d) unfinished none) following);
  goes = first.goes;
}

-- a frame more is not taken to its end
pub stops_more : (r : ℕ) (prefix : List ℕ) (text : NavItem → List ℕ) (more : Bool) (a b d frame : List ℕ) (w w1 w2 u u1 u2 : Option (List ℕ)) (g g1 : GivenState) (c c1 : StreamCounts)
    → StreamMoves r prefix text more a b w w1 u u1 g g1 c c1 → TakesFrame more b frame d → StreamBreaks r prefix text (frame ∷ []) w1 w2 u1 u2 g1 c1
    → StreamStops r prefix text more a w w2 u u2 g c
stops_more r prefix text more a b d frame w w1 w2 u u1 u2 g g1 c c1 first takes breaks = record {
  done = first.frames_are;
  frames_are = first.frames_are ++ frame ∷ [];
  next = inr (frame, refl);
  stream = λ following last. (
    frames (d ++ following),
    first.stream following last ∙ ap (λ (l : List (List ℕ)). first.frames_are ++ l) (takes.stream following last)
        ∙ sym (append_assoc first.frames_are (frame ∷ []) (frames (d ++ following))),
  );
  breaks = λ past start begun far.
      subst (λ (l : List (List ℕ)). StreamBroke r prefix text (past ++ first.frames_are) l start w2 begun u2) (append_assoc past first.frames_are (frame ∷ []))
      (breaks (past ++ first.frames_are) start begun (first.goes past start begun far));
}

-- one after another
unfoldable pub moves_on : (r : ℕ) (prefix : List ℕ) (text : NavItem → List ℕ) (more : Bool) (a b d : List ℕ) (w w1 w2 u u1 u2 : Option (List ℕ)) (g g1 g2 : GivenState) (c c1 c2 : StreamCounts)
    → StreamMoves r prefix text more a b w w1 u u1 g g1 c c1 → StreamMoves r prefix text more b d w1 w2 u1 u2 g1 g2 c1 c2
    → StreamMoves r prefix text more a d w w2 u u2 g g2 c c2
moves_on r prefix text more a b d w w1 w2 u u1 u2 g g1 g2 c c1 c2 first second = record {
  frames_are = first.frames_are ++ second.frames_are;
  stream = λ following last.
      first.stream following last ∙ ap (λ (l : List (List ℕ)). first.frames_are ++ l) (second.stream following last)
      ∙ sym (append_assoc first.frames_are second.frames_are (frames (d ++ following)));
  decides = λ following unfinished.
      first.decides following unfinished ∙ ap (λ (l : List (List ℕ)). first.frames_are ++ l) (second.decides following unfinished)
      ∙ sym (append_assoc first.frames_are second.frames_are (decided (d ++ following)));
  goes = λ past start begun far.
      subst (λ (l : List (List ℕ)). StreamSoFar r prefix text l start w2 begun u2 g2 c2) (append_assoc past first.frames_are second.frames_are)
      (second.goes (past ++ first.frames_are) start begun (first.goes past start begun far));
}

-- bytes were appended
unfoldable pub moves_fed : (r : ℕ) (prefix : List ℕ) (text : NavItem → List ℕ) (a b d : List ℕ) (w w1 u u1 : Option (List ℕ)) (g g1 : GivenState) (c c1 : StreamCounts)
    → StreamMoves r prefix text true a b w w1 u u1 g g1 c c1 → StreamMoves r prefix text true (a ++ d) (b ++ d) w w1 u u1 g g1 c c1
moves_fed r prefix text a b d w w1 u u1 g g1 c c1 moves = record {
  frames_are = moves.frames_are;
  stream = λ following last.
      ap frames (append_assoc a d following) ∙ moves.stream (d ++ following) (λ never. cc)
      ∙ ap (λ (l : List ℕ). moves.frames_are ++ frames l) (sym (append_assoc b d following));
  decides = λ following unfinished.
      ap decided (append_assoc a d following) ∙ moves.decides (d ++ following) unfinished
      ∙ ap (λ (l : List ℕ). moves.frames_are ++ decided l) (sym (append_assoc b d following));
  goes = moves.goes;
}

-- frames were taken, and then one is not taken to its end
unfoldable pub stops_on : (r : ℕ) (prefix : List ℕ) (text : NavItem → List ℕ) (more : Bool) (a b : List ℕ) (w w1 w2 u u1 u2 : Option (List ℕ)) (g g1 : GivenState) (c c1 : StreamCounts)
    → StreamMoves r prefix text more a b w w1 u u1 g g1 c c1 → StreamStops r prefix text more b w1 w2 u1 u2 g1 c1
    → StreamStops r prefix text more a w w2 u u2 g c
stops_on r prefix text more a b w w1 w2 u u1 u2 g g1 c c1 first stops = record {
  done = first.frames_are ++ stops.done;
  frames_are = first.frames_are ++ stops.frames_are;
  next = next_behind first.frames_are stops.done stops.frames_are stops.next;
  stream = λ following last. (
    (stops.stream following last).0,
    first.stream following last ∙ ap (λ (l : List (List ℕ)). first.frames_are ++ l) (stops.stream following last).1
        ∙ sym (append_assoc first.frames_are stops.frames_are (stops.stream following last).0),
  );
  breaks = λ past start begun far.
      subst (λ (l : List (List ℕ)). StreamBroke r prefix text l (past ++ (first.frames_are ++ stops.frames_are)) start w2 begun u2) (append_assoc past first.frames_are stops.done)
      (subst (λ (l : List (List ℕ)). StreamBroke r prefix text ((past ++ first.frames_are) ++ stops.done) l start w2 begun u2) (append_assoc past first.frames_are stops.frames_are)
      (stops.breaks (past ++ first.frames_are) start begun (first.goes past start begun far)));
}

-- bytes were appended
pub stops_fed : (r : ℕ) (prefix : List ℕ) (text : NavItem → List ℕ) (a d : List ℕ) (w w1 u u1 : Option (List ℕ)) (g : GivenState) (c : StreamCounts)
    → StreamStops r prefix text true a w w1 u u1 g c → StreamStops r prefix text true (a ++ d) w w1 u u1 g c
stops_fed r prefix text a d w w1 u u1 g c stops = record {
  done = stops.done;
  frames_are = stops.frames_are;
  next = stops.next;
  stream = λ following last.
      let whole = stops.stream (d ++ following) (λ never. cc) in
      (whole.0, ap frames (append_assoc a d following) ∙ whole.1);
  breaks = stops.breaks;
}

-- what is left of a part that was fed
pub stops_rest : (r : ℕ) (prefix : List ℕ) (text : NavItem → List ℕ) (rest piece : List ℕ) (n : ℕ) (w w1 u u1 : Option (List ℕ)) (g : GivenState) (c : StreamCounts)
    → StreamStops r prefix text true (rest ++ take n piece) w w1 u u1 g c → StreamStops r prefix text true (rest ++ piece) w w1 u u1 g c
stops_rest r prefix text rest piece n w w1 u u1 g c stops =
    let whole : (rest ++ take n piece) ++ drop n piece ≡ rest ++ piece =
    append_assoc rest (take n piece) (drop n piece) ∙ ap (λ (l : List ℕ). rest ++ l) (take-append-drop n piece) in
    subst (λ (l : List ℕ). StreamStops r prefix text true l w w1 u u1 g c) whole (stops_fed r prefix text (rest ++ take n piece) (drop n piece) w w1 u u1 g c stops)

-- a part more was fed
fed_more : (rest piece : List ℕ) (i n : ℕ) → (rest ++ take i piece) ++ take n (drop i piece) ≡ rest ++ take (i + n) piece
fed_more rest piece i n = append_assoc rest (take i piece) (take n (drop i piece)) ∙ ap (λ (l : List ℕ). rest ++ l) (sym (take-add i n piece))

pub moves_part : (r : ℕ) (prefix : List ℕ) (text : NavItem → List ℕ) (rest piece now after : List ℕ) (i n : ℕ) (w w1 w2 u u1 u2 : Option (List ℕ)) (g g1 g2 : GivenState) (c c1 c2 : StreamCounts)
    → StreamMoves r prefix text true (rest ++ take i piece) now w w1 u u1 g g1 c c1
    → StreamMoves r prefix text true (now ++ take n (drop i piece)) after w1 w2 u1 u2 g1 g2 c1 c2
    → StreamMoves r prefix text true (rest ++ take (i + n) piece) after w w2 u u2 g g2 c c2
moves_part r prefix text rest piece now after i n w w1 w2 u u1 u2 g g1 g2 c c1 c2 before part =
    moves_on r prefix text true (rest ++ take (i + n) piece) (now ++ take n (drop i piece)) after w w1 w2 u u1 u2 g g1 g2 c c1 c2
    (subst (λ (b : List ℕ). StreamMoves r prefix text true b (now ++ take n (drop i piece)) w w1 u u1 g g1 c c1) (fed_more rest piece i n)
    (moves_fed r prefix text (rest ++ take i piece) now (take n (drop i piece)) w w1 u u1 g g1 c c1 before))
    part

pub stops_part : (r : ℕ) (prefix : List ℕ) (text : NavItem → List ℕ) (rest piece now : List ℕ) (i : ℕ) (w w1 w2 u u1 u2 : Option (List ℕ)) (g g1 : GivenState) (c c1 : StreamCounts)
    → StreamMoves r prefix text true (rest ++ take i piece) now w w1 u u1 g g1 c c1 → StreamStops r prefix text true (now ++ drop i piece) w1 w2 u1 u2 g1 c1
    → StreamStops r prefix text true (rest ++ piece) w w2 u u2 g c
stops_part r prefix text rest piece now i w w1 w2 u u1 u2 g g1 c c1 before part =
    let whole : (rest ++ take i piece) ++ drop i piece ≡ rest ++ piece =
    append_assoc rest (take i piece) (drop i piece) ∙ ap (λ (l : List ℕ). rest ++ l) (take-append-drop i piece) in
    subst (λ (l : List ℕ). StreamStops r prefix text true l w w2 u u2 g c) whole
    (stops_on r prefix text true ((rest ++ take i piece) ++ drop i piece) (now ++ drop i piece) w w1 w2 u u1 u2 g g1 c c1
    (moves_fed r prefix text (rest ++ take i piece) now (drop i piece) w w1 u u1 g g1 c c1 before) part)
