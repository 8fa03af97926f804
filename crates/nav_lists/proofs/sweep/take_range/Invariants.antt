use Rattle.std.proofs.Common.{◌≡◌}
use Rattle.std.specs.BTreeSet.{btree_set_len}
use Rattle.nav_lists.specs.Ranges.{AreFilled, joined, joined_from}
use Rattle.nav_lists.proofs.sweep.take_range.Given as goal

abbrev pub invariant-joining : goal.invariant-joining
invariant-joining l = (joined_from l.range l.spans.keys ≡ joined l.fn.spans.keys) × (AreFilled l.fn.spans.keys → AreFilled l.spans.keys)

abbrev pub decreases-joining : goal.decreases-joining
decreases-joining l = btree_set_len l.spans
