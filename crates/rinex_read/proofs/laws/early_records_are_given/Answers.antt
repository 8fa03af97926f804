use Rattle.rinex_read.proofs.EarlyLemmas.{header_early, records_early, whole_first}
use Rattle.rinex_read.proofs.laws.early_records_are_given.Goals as goal

pub returns-clause-records : goal.returns-clause-records
returns-clause-records g c = records_early (g.F.FileForm.form c.args.form.now) c.looks_at_kept.ensures

pub returns-clause-header : goal.returns-clause-header
returns-clause-header g c = header_early (g.F.FileForm.form c.args.form.now) c.looks_at_kept.ensures

pub returns-clause-first : goal.returns-clause-first
returns-clause-first g c = whole_first (g.F.FileForm.form c.args.form.now) c.looks_at_kept.ensures
