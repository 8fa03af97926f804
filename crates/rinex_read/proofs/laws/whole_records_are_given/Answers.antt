use Rattle.rinex_read.proofs.GivenLemmas.{header_open, records_whole}
use Rattle.rinex_read.proofs.laws.whole_records_are_given.Goals as goal

pub returns-clause-records : goal.returns-clause-records
returns-clause-records g c = records_whole (g.F.FileForm.form c.args.form.now) c.looks_at_kept.ensures

pub returns-clause-header : goal.returns-clause-header
returns-clause-header g c = header_open (g.F.FileForm.form c.args.form.now) c.looks_at_kept.ensures
