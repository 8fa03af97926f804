use Rattle.std.proofs.Common.{◌≡◌, ℕ, ◌+◌, ◌-◌, ◌^◌, List, length}
use Rattle.std.specs.Prelude.{Option, IsTrue}
use Rattle.nav_io.specs.Lines.{Line}
use Rattle.captures.specs.declared.accept.Accepted.{Accepted}
use Rattle.captures.specs.Hearings.{Stands}
use Rattle.captures.proofs.Converting.{Between}
use Rattle.captures.proofs.convert.convert.Given as goal

abbrev pub invariant-lines : goal.invariant-lines
invariant-lines g l = record {
  between : (head : Accepted) (past : List Line) (start told : Option (List ℕ)) → l.fn.lines.number ≡ 1 + length past
      → Stands l.to head past l.fn.receiving start (g.T.Sink.written l.fn.output) told (g.U.Sink.written l.fn.report)
      → Between l.to head past (g.S.Source.left l.fn.input) (g.S.Source.left l.input) l.fn.lines l.lines l.receiving start (g.T.Sink.written l.output)
      told (g.U.Sink.written l.report);
  input : g.S.Source.faults l.input ≡ g.S.Source.faults l.fn.input;
  output : g.T.Sink.faults l.output ≡ g.T.Sink.faults l.fn.output;
  report : g.U.Sink.faults l.report ≡ g.U.Sink.faults l.fn.report;
  never : IsTrue (g.S.Source.never_fails l.fn.input) → IsTrue (g.S.Source.never_fails l.input);
}

abbrev pub decreases-lines : goal.decreases-lines
decreases-lines g l = 2 ^ 32 - l.lines.number
