use Rattle.std.proofs.Common.{[], ap, ◌∙◌}
use Rattle.std.proofs.lemmas.Result.{err_from_is_err_and}
use Rattle.streams.specs.Targets.{prefix_text, item_text}
use Rattle.nav_files.specs.Files.{read_report, read_text}
use Rattle.nav_files.specs.Mirrors.{counted}
use Rattle.nav_files.proofs.ConvertLemmas.{grew_between, grew_more}
use Rattle.nav_files.proofs.Surface.{counts_more}
use Rattle.nav_files.proofs.convert.TargetTakerItemRead.take.Goals as goal

pub returns-in_err-report_item-clause-output : goal.returns-in_err-report_item-clause-output
returns-in_err-report_item-clause-output g c =
    let p = err_from_is_err_and c.from_residual.result c.from_residual.ensures.1 in
    rw p.1 (λ reads start held so_far. grew_between (prefix_text c.args.self.now) (read_text (item_text c.args.self.now)) reads c.args.read.now start _ _ so_far c.in_err-report_item.ensures.part)

pub returns-in_err-report_item-clause-report : goal.returns-in_err-report_item-clause-report
returns-in_err-report_item-clause-report g c =
    let p = err_from_is_err_and c.from_residual.result c.from_residual.ensures.1 in
    rw p.1 (λ reads start held so_far. grew_between [] read_report reads c.args.read.now start _ _ so_far c.in_err-report_item.ensures.report_part)

pub returns-clause-output : goal.returns-clause-output
returns-clause-output g c = λ reads start held so_far.
    grew_more (prefix_text c.args.self.now) (read_text (item_text c.args.self.now)) reads c.args.read.now start _ _ so_far c.in_ok-report_item.ensures.output

pub returns-clause-report : goal.returns-clause-report
returns-clause-report g c = λ reads start held so_far. grew_more [] read_report reads c.args.read.now start _ _ so_far c.in_ok-report_item.ensures.report

pub returns-clause-held : goal.returns-clause-held
returns-clause-held g c = λ reads held. (
  c.count_read.ensures.counts ∙ ap (λ x. counted x c.args.read.now) held.0 ∙ counts_more reads c.args.read.now,
  c.count_read.ensures.counted,
)
