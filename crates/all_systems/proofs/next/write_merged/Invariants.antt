use Rattle.std.proofs.Common.{◌≡◌, length}
use Rattle.all_systems.specs.MergeMirrors.{WroteSome, held}
use Rattle.all_systems.specs.Merging.{all_entries, entry_text}
use Rattle.all_systems.proofs.next.write_merged.Given as goal

abbrev pub invariant-items : goal.invariant-items
invariant-items g l = record {
  wrote : WroteSome (entry_text l.to) (all_entries l.navs l.rows l.records) (all_entries (held l.nav l.navs_left) (held l.row l.rows_left) (held l.carried l.records_left)) (g.T.Sink.written l.fn.out) (g.T.Sink.written l.out);
  faults : g.T.Sink.faults l.out ≡ g.T.Sink.faults l.fn.out;
}

abbrev pub decreases-items : goal.decreases-items
decreases-items g l = length (all_entries (held l.nav l.navs_left) (held l.row l.rows_left) (held l.carried l.records_left))
