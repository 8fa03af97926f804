use Rattle.std.proofs.Common.{◌≡◌, drop}
use Rattle.streams.specs.ItemTexts.{rinex_item}
use Rattle.nav_files.specs.Kept.{WroteSome}
use Rattle.nav_files.proofs.merge.write_few.Given as goal

abbrev pub invariant-items : goal.invariant-items
invariant-items g l = record {
  wrote : WroteSome rinex_item l.items (drop l.item-index l.items) (g.T.Sink.written l.fn.out) (g.T.Sink.written l.out);
  faults : g.T.Sink.faults l.out ≡ g.T.Sink.faults l.fn.out;
}
