use Rattle.std.proofs.Common.{length}
use Rattle.rinex_read.proofs.FileLemmas.{written_again, items_are}
use Rattle.rinex_read.proofs.laws.written_files_are_read.Goals as goal

pub returns : goal.returns
returns g c = λ header write items header_is all. (written_again (g.F.FileForm.form c.args.form.now) header write items header_is all, items_are write (length header) items)
