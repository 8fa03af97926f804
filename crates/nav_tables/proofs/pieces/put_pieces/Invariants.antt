use Rattle.std.proofs.Common.{◌≡◌, length, drop}
use Rattle.nav_tables.proofs.PieceLemmas.{AreListed}
use Rattle.nav_tables.proofs.pieces.put_pieces.Given as goal

abbrev pub invariant-loop-piece : goal.invariant-loop-piece
invariant-loop-piece l = record {
  listed : AreListed l.pieces (drop l.piece-index l.pieces) l.numbers l.fields.items;
  count : length l.fields.items ≡ l.piece-index;
}
