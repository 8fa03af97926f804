use Rattle.std.proofs.Common.{◌≡◌, ◌+◌, ◌≤◌, not, length}
use Rattle.streams.specs.Targets.{prefix_text, item_text}
use Rattle.streams.specs.Mirrors.{AreFew, StreamMoves}
use Rattle.streams.proofs.frames.process_frames.Given as goal

abbrev pub invariant-giving : goal.invariant-giving
invariant-giving g l = record {
  moves : StreamMoves l.r (prefix_text l.to) (item_text l.to 0) (not l.fn.deframer.finished) l.fn.deframer.rest l.deframer.rest
      (g.T.Sink.written l.fn.output) (g.T.Sink.written l.output) (g.U.Sink.written l.fn.report) (g.U.Sink.written l.report) l.fn.given l.given l.fn.counts l.counts;
  finished : l.deframer.finished ≡ l.fn.deframer.finished;
  write : g.T.Sink.faults l.output ≡ g.T.Sink.faults l.fn.output;
  told : g.U.Sink.faults l.report ≡ g.U.Sink.faults l.fn.report;
  few : AreFew l.counts;
  room : l.counts.frames + length l.deframer.rest ≤ l.fn.counts.frames + length l.fn.deframer.rest;
}

abbrev pub decreases-giving : goal.decreases-giving
decreases-giving g l = length l.deframer.rest
