use Rattle.std.proofs.Common.{refl}
use Rattle.std.proofs.lemmas.Result.{err_from_is_err_and}
use Rattle.nav_files.proofs.ReadLemmas.{err_same, file_read, long_records}
use Rattle.nav_files.proofs.read.read_items.Goals as goal

pub returns-clause-file : goal.returns-clause-file
returns-clause-file g c =
    file_read (g.F.FileForm.form c.args.form.now) _ _ _ _ _ _ _ _ _ _ c.readers_begin_with_the_file.ensures c.new-records.ensures c.in_ok-pass_header.ensures.header c.in_ok-read_records.ensures.all c.requires

pub returns-in_err-read_records-clause-long : goal.returns-in_err-read_records-clause-long
returns-in_err-read_records-clause-long g c =
    let p = err_from_is_err_and c.from_residual-in_err-read_records.result c.from_residual-in_err-read_records.ensures.1 in
    rw (p.1, p.2) (λ is. long_records (g.F.FileForm.form c.args.form.now) _ _ _ _ _ _ _ c.new-records.ensures c.in_ok-pass_header.ensures.header c.in_err-read_records.ensures.broken
    (err_same _ _ _ refl is))
