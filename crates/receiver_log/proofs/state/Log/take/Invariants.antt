use Rattle.std.proofs.Common.{◌≡◌, ◌<◌, ◌≤◌, [], length}
use Rattle.std.specs.Io.KnownBytes.{Appends}
use Rattle.receiver_log.specs.Steps.{ReceivesLast, steps_left, view_of}
use Rattle.receiver_log.proofs.state.Log.take.Given as goal

abbrev pub invariant-loop-self : goal.invariant-loop-self
invariant-loop-self g l = record {
  hears : ReceivesLast g.J.Judge.heading g.J.Receiver.said (view_of l.fn.self)
      (view_of l.self) [] l.self.lines.items
      (Appends (g.R.Refused.reported l.fn.refused) (g.R.Refused.reported l.refused));
  given : l.self.given ≡ 0;
  taken : l.self.taken ≡ l.fn.self.taken;
  finished : l.self.deframer.finished ≡ l.fn.self.deframer.finished;
  faults : g.R.Refused.faults l.refused ≡ g.R.Refused.faults l.fn.refused;
  steady : steps_left (view_of l.self)
      ≤ steps_left (view_of l.fn.self);
  onward : 0 < length l.self.lines.items
      → steps_left (view_of l.self)
      < steps_left (view_of l.fn.self);
}

abbrev pub decreases-loop-self : goal.decreases-loop-self
decreases-loop-self g l =
    steps_left (view_of l.self)
