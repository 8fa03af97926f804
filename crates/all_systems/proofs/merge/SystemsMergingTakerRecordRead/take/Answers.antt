use Rattle.std.proofs.Common.{[], ◌∷◌, ◌++◌, List, ℕ, map, ap, subst, sym, ◌∙◌}
use Rattle.std.proofs.lemmas.Result.{err_from_is_err_and}
use Rattle.std.specs.Io.KnownBytes.{Appends}
use Rattle.nav_io.specs.Prefix.{AppendsPrefix}
use Rattle.nav_rows.specs.Order.{by_place, by_rank}
use Rattle.nav_lists.specs.Ranks.{ranked_of}
use Rattle.one_run.proofs.Surface.{between_whole}
use Rattle.nav_files.proofs.Surface.{grew_between, grew_more, texts_prefix}
use Rattle.all_systems.specs.Readings.{Item}
use Rattle.all_systems.specs.CarriedOrder.{by_text, kept_record}
use Rattle.all_systems.specs.Files.{carried_lines, is_unwritten, read_report}
use Rattle.all_systems.specs.Merging.{carried_of, item_of, items_of, navs_of, outlet_of, rows_of}
use Rattle.all_systems.specs.FileMirrors.{counted}
use Rattle.all_systems.specs.NavOrder.{by_numbers, by_sent}
use Rattle.all_systems.proofs.CarriedLaws.{records_more}
use Rattle.all_systems.proofs.Merges.{items_more}
use Rattle.all_systems.proofs.Records.{counts_more, same_report}
use Rattle.all_systems.proofs.Wrote.{between_all}
use Rattle.all_systems.proofs.merge.SystemsMergingTakerRecordRead.take.Goals as goal

pub returns-in_err-report_given-clause-output : goal.returns-in_err-report_given-clause-output
returns-in_err-report_given-clause-output g c =
    let p = err_from_is_err_and c.from_residual.result c.from_residual.ensures.1 in
    rw p.1 (λ reads start held so_far. between_whole start _ _ so_far)

pub returns-in_err-report_given-clause-report : goal.returns-in_err-report_given-clause-report
returns-in_err-report_given-clause-report g c =
    let p = err_from_is_err_and c.from_residual.result c.from_residual.ensures.1 in
    rw p.1 (λ reads start held so_far. grew_between [] read_report reads c.args.read.now start _ _ so_far
    (subst (λ (l : List ℕ). AppendsPrefix (g.U.Sink.written c.args.report.now) (g.U.Sink.written c.report_given.new.report) l)
    (same_report _ _ _ _ c.line.ensures c.given-given.ensures.same) c.in_err-report_given.ensures.part))

pub returns-in_err-merge_given-clause-output : goal.returns-in_err-merge_given-clause-output
returns-in_err-merge_given-clause-output g c =
    let p = err_from_is_err_and c.from_residual-in_err-merge_given.result c.from_residual-in_err-merge_given.ensures.1 in
    rw p.1 (λ reads start held so_far. between_whole start _ _ so_far)

pub returns-in_err-merge_given-clause-report : goal.returns-in_err-merge_given-clause-report
returns-in_err-merge_given-clause-report g c =
    let p = err_from_is_err_and c.from_residual-in_err-merge_given.result c.from_residual-in_err-merge_given.ensures.1 in
    rw p.1 (λ reads start held so_far. between_all start _ _ _ (texts_prefix read_report reads (c.args.read.now ∷ []))
    (grew_more [] read_report reads c.args.read.now start _ _ so_far
    (subst (λ (l : List ℕ). Appends (g.U.Sink.written c.args.report.now) (g.U.Sink.written c.report_given.new.report) l)
    (same_report _ _ _ _ c.line.ensures c.given-given.ensures.same) c.in_ok-report_given.ensures.report)))

pub returns-in_err-merge_carried-clause-output : goal.returns-in_err-merge_carried-clause-output
returns-in_err-merge_carried-clause-output g c =
    let p = err_from_is_err_and c.from_residual-in_err-merge_carried.result c.from_residual-in_err-merge_carried.ensures.1 in
    rw p.1 (λ reads start held so_far. between_whole start _ _ so_far)

pub returns-in_err-merge_carried-clause-report : goal.returns-in_err-merge_carried-clause-report
returns-in_err-merge_carried-clause-report g c =
    let p = err_from_is_err_and c.from_residual-in_err-merge_carried.result c.from_residual-in_err-merge_carried.ensures.1 in
    rw p.1 (λ reads start held so_far. between_all start _ _ _ (texts_prefix read_report reads (c.args.read.now ∷ []))
    (grew_more [] read_report reads c.args.read.now start _ _ so_far
    (subst (λ (l : List ℕ). Appends (g.U.Sink.written c.args.report.now) (g.U.Sink.written c.report_given.new.report) l)
    (same_report _ _ _ _ c.line.ensures c.given-given.ensures.same) c.in_ok-report_given.ensures.report)))

pub returns-clause-report : goal.returns-clause-report
returns-clause-report g c = λ reads start held so_far. grew_more [] read_report reads c.args.read.now start _ _ so_far
    (subst (λ (l : List ℕ). Appends (g.U.Sink.written c.args.report.now) (g.U.Sink.written c.report_given.new.report) l)
    (same_report _ _ _ _ c.line.ensures c.given-given.ensures.same) c.in_ok-report_given.ensures.report)

pub returns-clause-held : goal.returns-clause-held
returns-clause-held g c =
    let s = c.args.self.now in
    let written = c.is_written.result in λ reads held. (
      c.count_read.ensures.counts
          ∙ ap (λ x. counted c.args.state.now.counts written x) c.given-given.ensures.same
          ∙ ap (λ n. counted n written c.args.read.now.reading) held.0
          ∙ counts_more (outlet_of s.to s.words) reads c.args.read.now written (c.is_written.ensures s.words ∙ ap (is_unwritten (outlet_of s.to s.words)) c.given-given.ensures.same),
      c.count_read.ensures.counted,
      c.in_ok-merge_given.ensures.navs (items_of reads) held.2
          ∙ ap (λ x. ranked_of by_numbers by_sent (navs_of (items_of reads ++ item_of x))) c.given-given.ensures.same
          ∙ ap (λ (l : List Item). ranked_of by_numbers by_sent (navs_of l)) (sym (items_more reads c.args.read.now)),
      c.in_ok-merge_given.ensures.rows (items_of reads) held.3
          ∙ ap (λ x. ranked_of by_rank by_place (rows_of (items_of reads ++ item_of x))) c.given-given.ensures.same
          ∙ ap (λ (l : List Item). ranked_of by_rank by_place (rows_of l)) (sym (items_more reads c.args.read.now)),
      c.in_ok-merge_carried.ensures.kept (carried_of reads) held.4
          ∙ ap (λ x. ranked_of by_text by_text (carried_of reads ++ map kept_record (carried_lines x))) c.given-given.ensures.same
          ∙ ap (ranked_of by_text by_text) (records_more reads c.args.read.now),
    )
