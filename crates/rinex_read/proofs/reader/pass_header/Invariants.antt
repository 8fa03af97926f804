use Rattle.std.proofs.Common.{◌≡◌, ℕ, ◌-◌, ◌≤◌, [], true, IsTrue}
use Rattle.rinex_read.specs.States.{NearHeader, is_waiting}
use Rattle.rinex_read.specs.Mirrors.{state_of}
use Rattle.rinex_read.proofs.reader.pass_header.Given as goal

abbrev pub invariant-header : goal.invariant-header
invariant-header g l = record {
  steps : (first : ℕ) → NearHeader (g.F.FileForm.form l.form) (g.S.Source.left l.fn.source) (g.S.Source.left l.source) (state_of l.fn.header [] first l.fn.lines) (state_of l.header [] first l.lines);
  waiting : is_waiting l.header ≡ true;
  numbered : l.lines.number ≤ l.lines.taken;
  faults : g.S.Source.faults l.source ≡ g.S.Source.faults l.fn.source;
  never : IsTrue (g.S.Source.never_fails l.fn.source) → IsTrue (g.S.Source.never_fails l.source);
}

abbrev pub decreases-header : goal.decreases-header
decreases-header g l = 4294967296 - l.lines.number
