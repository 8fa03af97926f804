use Rattle.std.proofs.Common.{◌≡◌, ◌+◌, ◌-◌, ◌≤◌, ◌++◌, true, length, take}
use Rattle.framing.specs.State.{MayFeed}
use Rattle.streams.specs.Targets.{prefix_text, item_text}
use Rattle.streams.specs.Mirrors.{AreFew, StreamMoves}
use Rattle.streams.proofs.frames.process_piece.Given as goal

abbrev pub invariant-loop-fed : goal.invariant-loop-fed
invariant-loop-fed g l = record {
  moves : StreamMoves l.r (prefix_text l.to) (item_text l.to 0) true (l.fn.deframer.rest ++ take l.fed l.piece) l.deframer.rest
      (g.T.Sink.written l.fn.output) (g.T.Sink.written l.output) (g.U.Sink.written l.fn.report) (g.U.Sink.written l.report) l.fn.given l.given l.fn.counts l.counts;
  may_feed : MayFeed l.deframer;
  write : g.T.Sink.faults l.output ≡ g.T.Sink.faults l.fn.output;
  told : g.U.Sink.faults l.report ≡ g.U.Sink.faults l.fn.report;
  few : AreFew l.counts;
  room : l.counts.frames + length l.deframer.rest ≤ l.fn.counts.frames + length l.fn.deframer.rest + l.fed;
  within : l.fed ≤ length l.piece;
}

abbrev pub decreases-loop-fed : goal.decreases-loop-fed
decreases-loop-fed g l = length l.piece - l.fed
