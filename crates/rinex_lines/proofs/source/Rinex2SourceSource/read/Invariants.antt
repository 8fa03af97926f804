use Rattle.std.proofs.Common.{◌≡◌}
use Rattle.std.specs.Io.KnownBytes.{Keeps}
use Rattle.rinex_lines.specs.OlderMirrors.{left_of, steps_left}
use Rattle.rinex_lines.proofs.source.Rinex2SourceSource.read.Given as goal

-- the same is left, and nothing has failed
abbrev pub invariant-loop-self : goal.invariant-loop-self
invariant-loop-self g l = record {
  left : Keeps (left_of l.fn.self.held (g.S.Source.left l.fn.self.source)) (left_of l.self.held (g.S.Source.left l.self.source));
  faults : g.S.Source.faults l.self.source ≡ g.S.Source.faults l.fn.self.source;
  own : l.self.faults ≡ l.fn.self.faults;
}

abbrev pub decreases-loop-self : goal.decreases-loop-self
decreases-loop-self g l = steps_left l.self.held
