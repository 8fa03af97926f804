use Rattle.std.proofs.Common.{◌≡◌, take}
use Rattle.capture_log.specs.Log.{noted}
use Rattle.captures.specs.Hearings.{Receives}
use Rattle.captures.specs.Notes.{of_received}
use Rattle.captures.proofs.receiver.PartReceiver.words.Given as goal

abbrev pub invariant-taking : goal.invariant-taking
invariant-taking g l = record {
  heard : Receives l.fn.self l.self (g.U.Sink.written l.fn.report) (g.U.Sink.written l.report) (noted l.number (of_received l.sat l.joined.stamp (take l.i l.joined.words)));
  faults : g.U.Sink.faults l.report ≡ g.U.Sink.faults l.fn.report;
  stamp : l.stamp ≡ l.joined.stamp;
}
