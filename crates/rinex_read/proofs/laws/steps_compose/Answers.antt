use Rattle.rinex_read.proofs.StepLemmas.{steps_none, steps_more, header_steps_none, header_steps_more}
use Rattle.rinex_read.proofs.NearSteps.{early_steps, early_steps_more, near_steps_more, near_steps_none}
use Rattle.rinex_read.proofs.laws.steps_compose.Goals as goal

pub returns-clause-none : goal.returns-clause-none
returns-clause-none g c = steps_none (g.F.FileForm.form c.args.form.now)

pub returns-clause-records : goal.returns-clause-records
returns-clause-records g c = steps_more (g.F.FileForm.form c.args.form.now)

pub returns-clause-header_none : goal.returns-clause-header_none
returns-clause-header_none g c = header_steps_none (g.F.FileForm.form c.args.form.now)

pub returns-clause-header : goal.returns-clause-header
returns-clause-header g c = header_steps_more (g.F.FileForm.form c.args.form.now)

pub returns-clause-near_none : goal.returns-clause-near_none
returns-clause-near_none g c = near_steps_none (g.F.FileForm.form c.args.form.now)

pub returns-clause-near : goal.returns-clause-near
returns-clause-near g c = near_steps_more (g.F.FileForm.form c.args.form.now)

pub returns-clause-early : goal.returns-clause-early
returns-clause-early g c = early_steps_more (g.F.FileForm.form c.args.form.now)

pub returns-clause-early_near : goal.returns-clause-early_near
returns-clause-early_near g c = early_steps (g.F.FileForm.form c.args.form.now)
