use Rattle.std.proofs.Common.{◌≡◌, ◌-◌, ◌≤◌, drop, map, true}
use Rattle.nav_files.specs.Differences.{numbers_text}
use Rattle.nav_files.specs.DiffMirrors.{are_short}
use Rattle.nav_files.proofs.WriteLemmas.{WroteSome}
use Rattle.nav_files.proofs.texts.write_numbers.Given as goal

abbrev pub invariant-numbers : goal.invariant-numbers
invariant-numbers g l = record {
  wrote : WroteSome (numbers_text l.head (map (λ n. n.now) l.names) l.a l.b)
      (numbers_text l.head (map (λ n. n.now) (drop l.place l.names)) (drop l.place l.a) (drop l.place l.b))
      (g.T.Sink.written l.fn.out) (g.T.Sink.written l.out);
  faults : g.T.Sink.faults l.out ≡ g.T.Sink.faults l.fn.out;
  short : are_short (map (λ n. n.now) (drop l.place l.names)) ≡ true;
  within : l.place ≤ l.count;
}

abbrev pub decreases-numbers : goal.decreases-numbers
decreases-numbers g l = l.count - l.place
