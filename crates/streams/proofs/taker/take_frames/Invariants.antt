use Rattle.std.proofs.Common.{◌≡◌, not, length}
use Rattle.streams.specs.Taken.{Takes}
use Rattle.streams.proofs.taker.take_frames.Given as goal

abbrev pub invariant-giving : goal.invariant-giving
invariant-giving g l = record {
  takes : Takes (g.K.FrameTaker.text l.taker) (g.K.FrameTaker.told l.taker) (g.K.FrameTaker.holds l.taker) (not l.fn.deframer.finished) l.fn.deframer.rest l.deframer.rest
      (g.T.Sink.written l.fn.output) (g.T.Sink.written l.output) (g.U.Sink.written l.fn.report) (g.U.Sink.written l.report) l.fn.state l.state;
  finished : l.deframer.finished ≡ l.fn.deframer.finished;
  write : g.T.Sink.faults l.output ≡ g.T.Sink.faults l.fn.output;
  told : g.U.Sink.faults l.report ≡ g.U.Sink.faults l.fn.report;
}

abbrev pub decreases-giving : goal.decreases-giving
decreases-giving g l = length l.deframer.rest
