use Rattle.std.proofs.Common.{◌≡◌, ◌-◌, length, drop, vec_capacity}
use Rattle.std.specs.Io.KnownBytes.{Keeps, append_known}
use Rattle.whole_file.proofs.gathered.Gathered.put_out.Given as goal

-- what is out and the rest are what they were
abbrev pub invariant-loop-self : goal.invariant-loop-self
invariant-loop-self g l =
    Keeps (append_known (g.W.Write.contents l.fn.self.output.writer) (drop l.fn.self.out l.fn.self.kept.items))
    (append_known (g.W.Write.contents l.self.output.writer) (drop l.self.out l.self.kept.items))
    × (l.self.output.faults ≡ l.fn.self.output.faults)
    × (vec_capacity l.self.kept ≡ vec_capacity l.fn.self.kept)

abbrev pub decreases-loop-self : goal.decreases-loop-self
decreases-loop-self g l = length l.self.kept.items - l.self.out
