use Rattle.std.proofs.Common.{◌≡◌, ◌+◌, ◌-◌, ◌≤◌, ◌^◌}
use Rattle.std.specs.Prelude.{IsTrue}
use Rattle.streams.specs.Targets.{prefix_text, item_text}
use Rattle.streams.specs.Mirrors.{AreFew}
use Rattle.streams.proofs.PieceLemmas.{PiecesSoFar}
use Rattle.streams.proofs.pieces.process_pieces.Given as goal

abbrev pub invariant-loop-taken : goal.invariant-loop-taken
invariant-loop-taken g l = record {
  so_far : PiecesSoFar l.r (prefix_text l.to) (item_text l.to 0) (g.S.Source.left l.fn.input) (g.S.Source.left l.input)
      (g.T.Sink.written l.fn.output) (g.T.Sink.written l.output) (g.U.Sink.written l.fn.report) (g.U.Sink.written l.report) l.fn.given l.given l.fn.counts l.counts l.deframer l.taken;
  few : AreFew l.counts;
  limit : l.taken ≤ 2 ^ 32;
  read : g.S.Source.faults l.input ≡ g.S.Source.faults l.fn.input;
  write : g.T.Sink.faults l.output ≡ g.T.Sink.faults l.fn.output;
  told : g.U.Sink.faults l.report ≡ g.U.Sink.faults l.fn.report;
  never : IsTrue (g.S.Source.never_fails l.fn.input) → IsTrue (g.S.Source.never_fails l.input);
}

abbrev pub decreases-loop-taken : goal.decreases-loop-taken
decreases-loop-taken g l = 4294967295 + 1 - l.taken
