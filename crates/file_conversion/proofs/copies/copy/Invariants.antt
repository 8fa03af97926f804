use Rattle.std.proofs.Common.{◌≡◌, ◌-◌, ◌≤◌, ◌^◌, ℕ, List, length}
use Rattle.std.specs.Io.KnownBytes.{Appends, Consumes}
use Rattle.file_conversion.proofs.copies.copy.Given as goal

-- what was read was written
abbrev pub invariant-loop-taken : goal.invariant-loop-taken
invariant-loop-taken g l =
    ((moved : List ℕ) × (length moved ≡ l.taken) × Consumes (g.S.Source.left l.fn.input) (g.S.Source.left l.input) moved
    × Appends (g.T.Sink.written l.fn.output) (g.T.Sink.written l.output) moved)
    × (l.taken ≤ 2 ^ 32)
    × (g.S.Source.faults l.input ≡ g.S.Source.faults l.fn.input)
    × (g.T.Sink.faults l.output ≡ g.T.Sink.faults l.fn.output)

abbrev pub decreases-loop-taken : goal.decreases-loop-taken
decreases-loop-taken g l = 2 ^ 32 - l.taken
