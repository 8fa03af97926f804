use Rattle.std.proofs.Common.{drop}
use Rattle.nav_tables.proofs.PieceLemmas.{AreAdded}
use Rattle.nav_tables.proofs.pieces.read_numbers.Given as goal

abbrev pub invariant-loop-piece : goal.invariant-loop-piece
invariant-loop-piece l = AreAdded l.bytes l.at l.pieces (drop l.piece-index l.pieces) l.numbers
