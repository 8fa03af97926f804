use Rattle.std.proofs.Common.{◌≡◌, ◌-◌, ◌≤◌, [], IsTrue}
use Rattle.rinex_read.specs.declared.judged.HeaderState.{HeaderState}
use Rattle.rinex_read.specs.declared.judged.HeaderState.TheVariants.{Passed}
use Rattle.rinex_read.specs.States.{NearSteps, lines_left}
use Rattle.rinex_read.specs.Mirrors.{state_of}
use Rattle.rinex_read.proofs.reader.next_record.Given as goal

abbrev pub invariant-records : goal.invariant-records
invariant-records g l = record {
  steps : (header : HeaderState) → NearSteps (g.F.FileForm.form l.form) (g.S.Source.left l.fn.source) (g.S.Source.left l.source) (state_of header l.fn.kept l.fn.first l.fn.lines) (state_of header l.kept l.first l.lines) [];
  near : lines_left (state_of Passed l.kept l.first l.lines) ≤ lines_left (state_of Passed l.fn.kept l.fn.first l.fn.lines);
  numbered : l.lines.number ≤ l.lines.taken;
  faults : g.S.Source.faults l.source ≡ g.S.Source.faults l.fn.source;
  never : IsTrue (g.S.Source.never_fails l.fn.source) → IsTrue (g.S.Source.never_fails l.source);
}

abbrev pub decreases-records : goal.decreases-records
decreases-records g l = 4294967296 - l.lines.number
