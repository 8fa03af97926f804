use Rattle.std.proofs.Common.{◌≡◌, ◌+◌, ◌-◌, ◌≤◌, ◌++◌, true, length, take}
use Rattle.framing.specs.State.{MayFeed}
use Rattle.streams.specs.FrameLines.{line_of}
use Rattle.streams.specs.FrameRuns.{Goes}
use Rattle.streams.proofs.frame_run.process_piece.Given as goal

abbrev pub invariant-loop-fed : goal.invariant-loop-fed
invariant-loop-fed g l = record {
  goes : Goes line_of true (l.fn.deframer.rest ++ take l.fed l.piece) l.deframer.rest (g.T.Sink.written l.fn.output) (g.T.Sink.written l.output) l.fn.frames l.frames;
  may_feed : MayFeed l.deframer;
  faults : g.T.Sink.faults l.output ≡ g.T.Sink.faults l.fn.output;
  room : l.frames + length l.deframer.rest ≤ l.fn.frames + length l.fn.deframer.rest + l.fed;
  within : l.fed ≤ length l.piece;
}

abbrev pub decreases-loop-fed : goal.decreases-loop-fed
decreases-loop-fed g l = length l.piece - l.fed
