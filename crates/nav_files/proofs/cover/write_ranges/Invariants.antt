use Rattle.std.proofs.Common.{◌≡◌, length}
use Rattle.nav_files.specs.Archives.{cover_line}
use Rattle.nav_files.specs.Kept.{WroteSome}
use Rattle.nav_files.proofs.cover.write_ranges.Given as goal

abbrev pub invariant-lines : goal.invariant-lines
invariant-lines g l = record {
  wrote : WroteSome cover_line l.fn.cover l.cover (g.T.Sink.written l.fn.out) (g.T.Sink.written l.out);
  faults : g.T.Sink.faults l.out ≡ g.T.Sink.faults l.fn.out;
}

abbrev pub decreases-lines : goal.decreases-lines
decreases-lines g l = length l.cover
