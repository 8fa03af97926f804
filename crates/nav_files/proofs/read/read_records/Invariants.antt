use Rattle.std.proofs.Common.{◌≡◌}
use Rattle.std.specs.Prelude.{IsTrue}
use Rattle.rinex_read.specs.States.{lines_left}
use Rattle.rinex_read.specs.declared.judged.HeaderState.TheVariants.{Passed}
use Rattle.nav_files.specs.DiffMirrors.{ReadsSome}
use Rattle.nav_files.proofs.ReadLemmas.{Follow}
use Rattle.nav_files.proofs.read.read_records.Given as goal

abbrev pub invariant-records : goal.invariant-records
invariant-records g l = record {
  follow : Follow (g.F.FileForm.form l.form);
  header : l.records.header ≡ Passed;
  some : ReadsSome (g.F.FileForm.form l.form) l.all (g.S.Source.left l.fn.input) (g.S.Source.left l.input) l.fn.records l.records l.fn.items l.items l.counts;
  read : g.S.Source.faults l.input ≡ g.S.Source.faults l.fn.input;
  never : IsTrue (g.S.Source.never_fails l.fn.input) → IsTrue (g.S.Source.never_fails l.input);
}

abbrev pub decreases-records : goal.decreases-records
decreases-records g l = lines_left l.records
