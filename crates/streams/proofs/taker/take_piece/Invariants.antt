use Rattle.std.proofs.Common.{◌≡◌, ◌-◌, ◌≤◌, ◌++◌, true, length, take}
use Rattle.framing.specs.State.{MayFeed}
use Rattle.streams.specs.Taken.{Takes}
use Rattle.streams.proofs.taker.take_piece.Given as goal

abbrev pub invariant-loop-fed : goal.invariant-loop-fed
invariant-loop-fed g l = record {
  takes : Takes (g.K.FrameTaker.text l.taker) (g.K.FrameTaker.told l.taker) (g.K.FrameTaker.holds l.taker) true (l.fn.deframer.rest ++ take l.fed l.piece) l.deframer.rest
      (g.T.Sink.written l.fn.output) (g.T.Sink.written l.output) (g.U.Sink.written l.fn.report) (g.U.Sink.written l.report) l.fn.state l.state;
  may_feed : MayFeed l.deframer;
  write : g.T.Sink.faults l.output ≡ g.T.Sink.faults l.fn.output;
  told : g.U.Sink.faults l.report ≡ g.U.Sink.faults l.fn.report;
  within : l.fed ≤ length l.piece;
}

abbrev pub decreases-loop-fed : goal.decreases-loop-fed
decreases-loop-fed g l = length l.piece - l.fed
