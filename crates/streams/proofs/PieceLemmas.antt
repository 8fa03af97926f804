-- What a run over a stream has taken so far, and how it ends.
use Rattle.std.proofs.Common.{◌≡◌, ◌+◌, ◌≤◌, ℕ, true, false, List, [], ◌++◌, length, refl, sym, ap, subst, inl, arith, length-append}
use Rattle.std.specs.Prelude.{Option}
use Rattle.std.specs.Io.KnownBytes.{Consumes}
use Rattle.std.proofs.KnownBytes.{Consumes-nil, Consumes-trans}
use Rattle.nav_eph.specs.declared.items.NavItem.{NavItem}
use Rattle.framing.specs.State.{DeframerState, MayFeed}
use Rattle.streams.specs.declared.counts.StreamCounts.{StreamCounts}
use Rattle.streams.specs.Mirrors.{GivenState, StreamMoves}
use Rattle.streams.proofs.MoveLemmas.{moves_nowhere, moves_on, moves_fed}

-- the bytes taken, and what they decide, so far
pub record PiecesSoFar (r : ℕ) (prefix : List ℕ) (text : NavItem → List ℕ) (left left_new w w1 u u1 : Option (List ℕ)) (g g1 : GivenState) (c c1 : StreamCounts) (state : DeframerState) (taken : ℕ) : Type 0 where
  pub bytes : List ℕ
  pub consumes : Consumes left left_new bytes
  pub moves : StreamMoves r prefix text true bytes state.rest w w1 u u1 g g1 c c1
  pub may_feed : MayFeed state
  pub size : length bytes ≡ taken
  pub room : c1.frames + length state.rest ≤ taken

-- nothing was taken
pub so_far_start : (r : ℕ) (prefix : List ℕ) (text : NavItem → List ℕ) (left w u : Option (List ℕ)) (g : GivenState) (c : StreamCounts) (state : DeframerState)
    → state.rest ≡ [] → state.finished ≡ false → c.frames ≡ 0 → PiecesSoFar r prefix text left left w w u u g g c c state 0
so_far_start r prefix text left w u g c state none waiting zero = record {
  bytes = [];
  consumes = Consumes-nil left;
  moves = subst (λ (l : List ℕ). StreamMoves r prefix text true [] l w w u u g g c c) (sym none) (moves_nowhere r prefix text true [] w u g c);
  may_feed = (waiting, inl none);
  size = refl;
  room = omega (arith, ap length none, zero);
}

-- a piece was taken
pub so_far_piece : (r : ℕ) (prefix : List ℕ) (text : NavItem → List ℕ) (left l1 l2 w w1 w2 u u1 u2 : Option (List ℕ)) (g g1 g2 : GivenState) (c c1 c2 : StreamCounts) (old new : DeframerState) (taken : ℕ) (piece : List ℕ) (n : ℕ)
    → PiecesSoFar r prefix text left l1 w w1 u u1 g g1 c c1 old taken → Consumes l1 l2 piece → length piece ≡ n
    → StreamMoves r prefix text true (old.rest ++ piece) new.rest w1 w2 u1 u2 g1 g2 c1 c2 → MayFeed new
    → c2.frames + length new.rest ≤ c1.frames + length old.rest + length piece
    → PiecesSoFar r prefix text left l2 w w2 u u2 g g2 c c2 new (taken + n)
so_far_piece r prefix text left l1 l2 w w1 w2 u u1 u2 g g1 g2 c c1 c2 old new taken piece n far read size moves may_feed room = record {
  bytes = far.bytes ++ piece;
  consumes = Consumes-trans left l1 l2 far.bytes piece far.consumes read;
  moves = moves_on r prefix text true (far.bytes ++ piece) (old.rest ++ piece) new.rest w w1 w2 u u1 u2 g g1 g2 c c1 c2
      (moves_fed r prefix text far.bytes old.rest piece w w1 u u1 g g1 c c1 far.moves) moves;
  may_feed = may_feed;
  size = omega (arith, length-append far.bytes piece, far.size, size);
  room = omega (arith, far.room, room, size);
}
