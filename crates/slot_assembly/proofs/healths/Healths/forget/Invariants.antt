use Rattle.std.specs.BTreeSet.{btree_set_len}
use Rattle.slot_assembly.specs.Healths.{AreStamped}
use Rattle.slot_assembly.proofs.HealthChanges.{IsThinned}
use Rattle.slot_assembly.proofs.healths.Healths.forget.Given as goal

abbrev pub invariant-forgetting : goal.invariant-forgetting
invariant-forgetting l = record {
  stamped : AreStamped l.self.heard.entries l.self.stamps.keys;
  thinned : IsThinned l.window l.watermark l.fn.self.heard.entries l.self.heard.entries;
}

abbrev pub decreases-forgetting : goal.decreases-forgetting
decreases-forgetting l = btree_set_len l.self.stamps
