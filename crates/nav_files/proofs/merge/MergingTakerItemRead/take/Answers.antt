use Rattle.std.proofs.Common.{[], ◌∷◌, ap, sym, ◌∙◌}
use Rattle.std.proofs.lemmas.Result.{err_from_is_err_and}
use Rattle.nav_lists.specs.Merging.{merged_of}
use Rattle.one_run.proofs.Surface.{between_whole}
use Rattle.nav_files.specs.Files.{read_report}
use Rattle.nav_files.specs.Mirrors.{counted}
use Rattle.nav_files.proofs.Surface.{counts_more, grew_between, grew_more, texts_prefix}
use Rattle.nav_files.proofs.ConvertLemmas.{between_all}
use Rattle.rinex_read.specs.Files.{items_of}
use Rattle.nav_files.proofs.KeptLemmas.{items_more}
use Rattle.nav_files.proofs.merge.MergingTakerItemRead.take.Goals as goal

pub returns-in_err-report_read-clause-output : goal.returns-in_err-report_read-clause-output
returns-in_err-report_read-clause-output g c =
    let p = err_from_is_err_and c.from_residual.result c.from_residual.ensures.1 in
    rw p.1 (λ reads start held so_far. between_whole start _ _ so_far)

pub returns-in_err-report_read-clause-report : goal.returns-in_err-report_read-clause-report
returns-in_err-report_read-clause-report g c =
    let p = err_from_is_err_and c.from_residual.result c.from_residual.ensures.1 in
    rw p.1 (λ reads start held so_far. grew_between [] read_report reads c.args.read.now start _ _ so_far c.in_err-report_read.ensures.part)

pub returns-in_err-merge_read-clause-output : goal.returns-in_err-merge_read-clause-output
returns-in_err-merge_read-clause-output g c =
    let p = err_from_is_err_and c.from_residual-in_err-merge_read.result c.from_residual-in_err-merge_read.ensures.1 in
    rw p.1 (λ reads start held so_far. between_whole start _ _ so_far)

pub returns-in_err-merge_read-clause-report : goal.returns-in_err-merge_read-clause-report
returns-in_err-merge_read-clause-report g c =
    let p = err_from_is_err_and c.from_residual-in_err-merge_read.result c.from_residual-in_err-merge_read.ensures.1 in
    rw p.1 (λ reads start held so_far. between_all start _ _ _ (texts_prefix read_report reads (c.args.read.now ∷ [])) (grew_more [] read_report reads c.args.read.now start _ _ so_far c.in_ok-report_read.ensures.report))

pub returns-clause-report : goal.returns-clause-report
returns-clause-report g c = λ reads start held so_far. grew_more [] read_report reads c.args.read.now start _ _ so_far c.in_ok-report_read.ensures.report

pub returns-clause-held : goal.returns-clause-held
returns-clause-held g c = λ reads held. (
  c.count_read.ensures.counts ∙ ap (λ x. counted x c.args.read.now) held.0 ∙ counts_more reads c.args.read.now,
  c.count_read.ensures.counted,
  c.in_ok-merge_read.ensures.kept (items_of reads) held.2 ∙ ap merged_of (sym (items_more reads c.args.read.now)),
)
