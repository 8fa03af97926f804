use Rattle.std.proofs.Common.{◌≡◌, ◌+◌, ◌-◌}
use Rattle.std.specs.Prelude.{IsTrue}
use Rattle.streams.specs.FrameLines.{line_of}
use Rattle.streams.proofs.SoFar.{RunsSoFar}
use Rattle.streams.proofs.frame_run.run_frames.Given as goal

abbrev pub invariant-loop-taken : goal.invariant-loop-taken
invariant-loop-taken g l = record {
  so_far : RunsSoFar line_of (g.S.Source.left l.fn.input) (g.S.Source.left l.input) (g.T.Sink.written l.fn.output) (g.T.Sink.written l.output) l.deframer l.taken l.frames;
  read : g.S.Source.faults l.input ≡ g.S.Source.faults l.fn.input;
  write : g.T.Sink.faults l.output ≡ g.T.Sink.faults l.fn.output;
  never : IsTrue (g.S.Source.never_fails l.fn.input) → IsTrue (g.S.Source.never_fails l.input);
}

abbrev pub decreases-loop-taken : goal.decreases-loop-taken
decreases-loop-taken g l = 4294967295 + 1 - l.taken
