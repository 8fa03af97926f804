use Rattle.std.proofs.Common.{◌≡◌}
use Rattle.std.specs.Prelude.{IsTrue}
use Rattle.rinex_read.specs.States.{lines_left}
use Rattle.rinex_read.specs.declared.judged.HeaderState.TheVariants.{Passed}
use Rattle.nav_files.specs.Taken.{TakenReads}
use Rattle.nav_files.proofs.RecordLemmas.{AreNear, Follow, FollowEarly}
use Rattle.nav_files.proofs.taker.process_records.Given as goal

abbrev pub invariant-records : goal.invariant-records
invariant-records g l = record {
  follow : Follow (g.F.FileForm.form l.form);
  follow_early : FollowEarly (g.F.FileForm.form l.form);
  nears : AreNear (g.F.FileForm.form l.form);
  header : l.records.header ≡ Passed;
  taken : TakenReads (g.F.FileForm.form l.form) (g.K.Taker.text l.taker) (g.K.Taker.told l.taker) (g.K.Taker.holds l.taker l.state) (g.S.Source.left l.fn.input) (g.S.Source.left l.input) l.fn.records l.records
      (g.T.Sink.written l.fn.output) (g.T.Sink.written l.output) (g.U.Sink.written l.fn.report) (g.U.Sink.written l.report);
  read : g.S.Source.faults l.input ≡ g.S.Source.faults l.fn.input;
  write : g.T.Sink.faults l.output ≡ g.T.Sink.faults l.fn.output;
  report : g.U.Sink.faults l.report ≡ g.U.Sink.faults l.fn.report;
  never : IsTrue (g.S.Source.never_fails l.fn.input) → IsTrue (g.S.Source.never_fails l.input);
}

abbrev pub decreases-records : goal.decreases-records
decreases-records g l = lines_left l.records
