use Rattle.std.proofs.Common.{◌≡◌, ℕ, ◌≤◌, List}
use Rattle.std.specs.Prelude.{Option}
use Rattle.nav_eph.specs.declared.part.Part.{Part}
use Rattle.slot_assembly.specs.Standing.{Stood}
use Rattle.slot_assembly.specs.SlotStanding.{SlotsStandFor, slots_left}
use Rattle.captures.specs.Flushed.{Flushed}
use Rattle.captures.proofs.Writing.{Writes, Counts}
use Rattle.captures.proofs.flush.write_closed.Given as goal

abbrev pub invariant-giving : goal.invariant-giving
invariant-giving g l = record {
  reference : l.assembly.reference ≡ l.fn.assembly.reference;
  window : l.assembly.window ≡ l.fn.assembly.window;
  stood : Stood (SlotsStandFor l.assembly) (λ at. at.watermark ≤ l.watermark);
  writes : (parts : List Part) (before : ℕ) (start : Option (List ℕ)) → before ≤ l.watermark
      → Flushed (SlotsStandFor l.fn.assembly) l.fn.assembly.reference l.fn.assembly.window l.to
      parts before start (g.T.Sink.written l.fn.output) l.fn.said
      → Writes (SlotsStandFor l.assembly) l.fn.assembly.reference l.fn.assembly.window l.to
      before l.watermark parts start (g.T.Sink.written l.output) l.said;
  counts : Counts (SlotsStandFor l.assembly) l.fn.assembly.reference l.fn.assembly.window l.watermark l.said;
  faults : g.T.Sink.faults l.output ≡ g.T.Sink.faults l.fn.output;
}

abbrev pub decreases-giving : goal.decreases-giving
decreases-giving g l = slots_left l.assembly
