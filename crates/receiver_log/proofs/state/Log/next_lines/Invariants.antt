use Rattle.std.proofs.Common.{◌≡◌, ◌<◌, ◌≤◌, ◌+◌, [], length, nat_lt, cond}
use Rattle.std.specs.Prelude.{IsTrue}
use Rattle.std.specs.Io.KnownBytes.{Appends}
use Rattle.receiver_log.specs.Steps.{Advances, steps_left, view_of, waiting_of}
use Rattle.receiver_log.proofs.state.Log.next_lines.Given as goal

abbrev pub invariant-loop-self : goal.invariant-loop-self
invariant-loop-self g l = record {
  reads : Advances g.J.Judge.heading g.J.Receiver.said (view_of l.fn.self)
      (view_of l.self) (g.S.Source.left l.fn.source) (g.S.Source.left l.source)
      (waiting_of l.fn.self) (waiting_of l.self)
      (Appends (g.R.Refused.reported l.fn.refused) (g.R.Refused.reported l.refused));
  source : g.S.Source.faults l.source ≡ g.S.Source.faults l.fn.source;
  refused : g.R.Refused.faults l.refused ≡ g.R.Refused.faults l.fn.refused;
  never : IsTrue (g.S.Source.never_fails l.fn.source) → IsTrue (g.S.Source.never_fails l.source);
  steady : steps_left (view_of l.self)
      ≤ steps_left (view_of l.fn.self);
  onward : (waiting_of l.fn.self) ≡ [] → 0 < length (waiting_of l.self)
      → steps_left (view_of l.self)
      < steps_left (view_of l.fn.self);
}

abbrev pub decreases-loop-self : goal.decreases-loop-self
decreases-loop-self g l =
    steps_left (view_of l.self)
    + cond (nat_lt l.self.given (length l.self.lines.items)) 0 1
