use Rattle.rinex_read.proofs.StayLemmas.{begins_with_file}
use Rattle.rinex_read.proofs.laws.readers_begin_with_the_file.Goals as goal

pub returns : goal.returns
returns g c = begins_with_file (g.F.FileForm.form c.args.form.now) c.looks_at_kept.ensures
