use Rattle.std.proofs.Common.{◌≡◌, length}
use Rattle.streams.specs.ItemTexts.{rinex_item}
use Rattle.nav_files.specs.Kept.{WroteSome}
use Rattle.nav_files.proofs.merge.write_items.Given as goal

abbrev pub invariant-items : goal.invariant-items
invariant-items g l = record {
  wrote : WroteSome rinex_item l.merge l.left (g.T.Sink.written l.fn.out) (g.T.Sink.written l.out);
  faults : g.T.Sink.faults l.out ≡ g.T.Sink.faults l.fn.out;
}

abbrev pub decreases-items : goal.decreases-items
decreases-items g l = length l.left
