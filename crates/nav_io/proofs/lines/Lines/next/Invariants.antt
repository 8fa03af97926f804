use Rattle.std.proofs.Common.{◌≡◌, ◌+◌, ◌-◌, ◌*◌, if◌then◌else◌, true, IsTrue}
use Rattle.nav_io.specs.Lines.{ends}
use Rattle.nav_io.proofs.Reading.{Reading}
use Rattle.nav_io.proofs.lines.Lines.next.Given as goal

abbrev pub invariant-reading : goal.invariant-reading
invariant-reading g l = record {
  reading : Reading (g.S.Source.left l.fn.source) (g.S.Source.left l.source) l.fn.self l.self l.looked;
  faults : g.S.Source.faults l.source ≡ g.S.Source.faults l.fn.source;
  never : IsTrue (g.S.Source.never_fails l.fn.source) → IsTrue (g.S.Source.never_fails l.source);
  held : ends l.fn.self.rest ≡ true → (l.source ≡ l.fn.source) × (l.self.rest ≡ l.fn.self.rest);
  after_end : l.fn.self.ended ≡ true → l.source ≡ l.fn.source;
}

abbrev pub decreases-reading : goal.decreases-reading
decreases-reading g l = 2 * (4294967296 - l.self.taken) + (if l.self.ended then 0 else 1)
