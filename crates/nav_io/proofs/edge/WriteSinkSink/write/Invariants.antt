use Rattle.std.proofs.Common.{◌≡◌, ℕ, List, ◌++◌, length}
use Rattle.std.specs.Io.KnownBytes.{Appends}
use Rattle.nav_io.proofs.edge.WriteSinkSink.write.Given as goal

-- what is written and what is left make the piece
abbrev pub invariant-loop-rest : goal.invariant-loop-rest
invariant-loop-rest g l =
    ((prefix : List ℕ) × (l.piece ≡ prefix ++ l.rest) × Appends (g.W.Write.contents l.fn.self.writer) (g.W.Write.contents l.self.writer) prefix)
    × (l.self.faults ≡ l.fn.self.faults)

abbrev pub decreases-loop-rest : goal.decreases-loop-rest
decreases-loop-rest g l = length l.rest
