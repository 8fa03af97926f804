use Rattle.std.proofs.Common.{◌≡◌, ◌+◌, ◌≤◌, not, length}
use Rattle.streams.specs.FrameLines.{line_of}
use Rattle.streams.specs.FrameRuns.{Holds}
use Rattle.streams.proofs.frame_run.process_frames.Given as goal

abbrev pub invariant-giving : goal.invariant-giving
invariant-giving g l = record {
  holds : Holds line_of (not l.fn.deframer.finished) l.fn.deframer.rest l.deframer.rest (g.T.Sink.written l.fn.output) (g.T.Sink.written l.output) l.lines.items l.fn.frames l.frames;
  finished : l.deframer.finished ≡ l.fn.deframer.finished;
  faults : g.T.Sink.faults l.output ≡ g.T.Sink.faults l.fn.output;
  room : l.frames + length l.deframer.rest ≤ l.fn.frames + length l.fn.deframer.rest;
}

abbrev pub decreases-giving : goal.decreases-giving
decreases-giving g l = length l.deframer.rest
