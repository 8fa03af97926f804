use Rattle.std.proofs.Common.{◌≡◌, length, true, false, []}
use Rattle.std.specs.List.{flat_map}
use Rattle.nav_files.specs.Differences.{difference_text, differences}
use Rattle.nav_files.proofs.WriteLemmas.{WroteSome}
use Rattle.nav_files.proofs.walk.write_differences.Given as goal

abbrev pub invariant-differences : goal.invariant-differences
invariant-differences g l = record {
  wrote : WroteSome (flat_map difference_text (differences l.first l.second)) (flat_map difference_text l.walk)
      (g.T.Sink.written l.fn.out) (g.T.Sink.written l.out);
  faults : g.T.Sink.faults l.out ≡ g.T.Sink.faults l.fn.out;
  none : l.same ≡ true → l.walk ≡ differences l.first l.second;
  some : l.same ≡ false → differences l.first l.second ≡ [] → ⊥;
}

abbrev pub decreases-differences : goal.decreases-differences
decreases-differences g l = length l.walk
