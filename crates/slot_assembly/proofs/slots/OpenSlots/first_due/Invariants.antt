use Rattle.std.proofs.Common.{◌≡◌, length}
use Rattle.slot_assembly.specs.Slots.{AreIndexed, AreSameSlots, lag}
use Rattle.slot_assembly.proofs.slots.OpenSlots.first_due.Given as goal

abbrev pub invariant-moving : goal.invariant-moving
invariant-moving l = record {
  indexed : AreIndexed l.self.slots.entries l.self.ends.keys;
  same : AreSameSlots l.fn.self.slots.entries l.self.slots.entries;
  len : length l.self.slots.entries ≡ length l.fn.self.slots.entries;
}

abbrev pub decreases-moving : goal.decreases-moving
decreases-moving l = lag l.limit l.self.ends.keys
