use Rattle.rinex_read.proofs.StayLemmas.{end_stays, end_unbroken}
use Rattle.rinex_read.proofs.laws.the_end_stays.Goals as goal

pub returns-clause-read : goal.returns-clause-read
returns-clause-read g c = end_stays (g.F.FileForm.form c.args.form.now)

pub returns-clause-fault : goal.returns-clause-fault
returns-clause-fault g c = end_unbroken (g.F.FileForm.form c.args.form.now)
