use Rattle.rinex_read.proofs.StayLemmas.{many_stay, many_unread, many_unpassed, many_refused}
use Rattle.rinex_read.proofs.laws.too_many_bytes_stay_too_many.Goals as goal

pub returns-clause-read : goal.returns-clause-read
returns-clause-read g c = many_stay (g.F.FileForm.form c.args.form.now)

pub returns-clause-fault : goal.returns-clause-fault
returns-clause-fault g c = many_unread (g.F.FileForm.form c.args.form.now)

pub returns-clause-header : goal.returns-clause-header
returns-clause-header g c = many_unpassed (g.F.FileForm.form c.args.form.now)

pub returns-clause-refused : goal.returns-clause-refused
returns-clause-refused g c = many_refused (g.F.FileForm.form c.args.form.now)
