use Rattle.std.proofs.Common.{[], ◌∷◌, List, ℕ, ap, subst, ◌∙◌}
use Rattle.std.proofs.lemmas.Result.{err_from_is_err_and}
use Rattle.std.specs.Io.KnownBytes.{Appends}
use Rattle.nav_io.specs.Prefix.{AppendsPrefix}
use Rattle.streams.specs.Targets.{prefix_text}
use Rattle.one_run.proofs.Surface.{prefix_after}
use Rattle.nav_files.proofs.Surface.{grew_between, grew_more, texts_prefix}
use Rattle.all_systems.specs.Files.{is_unwritten, read_report, read_text}
use Rattle.all_systems.specs.FileMirrors.{counted}
use Rattle.all_systems.proofs.HeldTexts.{held_more}
use Rattle.all_systems.proofs.Records.{counts_more, same_report, same_text}
use Rattle.all_systems.proofs.Wrote.{between_all}
use Rattle.all_systems.proofs.file_run.SystemsTakerRecordRead.take.Goals as goal

pub returns-in_err-written-clause-output : goal.returns-in_err-written-clause-output
returns-in_err-written-clause-output g c =
    let p = err_from_is_err_and c.from_residual.result c.from_residual.ensures.1 in
    let s = c.args.self.now in
    rw p.1 (λ reads start held so_far. grew_between (prefix_text s.to) (read_text s.to) reads c.args.read.now start _ _ so_far
    (subst (λ (l : List ℕ). AppendsPrefix (g.T.Sink.written c.args.output.now) (g.T.Sink.written c.report_item.new.output) l)
    (same_text s.to _ _ _ _ c.line-line.ensures c.given-given.ensures.same) c.in_err-written.ensures.part))

pub returns-in_err-written-clause-report : goal.returns-in_err-written-clause-report
returns-in_err-written-clause-report g c =
    let p = err_from_is_err_and c.from_residual.result c.from_residual.ensures.1 in
    rw p.1 (λ reads start held so_far. grew_between [] read_report reads c.args.read.now start _ _ so_far
    (subst (λ (l : List ℕ). AppendsPrefix (g.U.Sink.written c.args.report.now) (g.U.Sink.written c.report_item.new.report) l)
    (same_report _ _ _ _ c.line-line.ensures c.given-given.ensures.same) c.in_err-written.ensures.report_part))

pub returns-in_err-hold_given-clause-output : goal.returns-in_err-hold_given-clause-output
returns-in_err-hold_given-clause-output g c =
    let p = err_from_is_err_and c.from_residual-in_err-hold_given.result c.from_residual-in_err-hold_given.ensures.1 in
    let s = c.args.self.now in
    rw p.1 (λ reads start held so_far. between_all start _ _ _ (prefix_after (prefix_text s.to) _ _ (texts_prefix (read_text s.to) reads (c.args.read.now ∷ [])))
    (grew_more (prefix_text s.to) (read_text s.to) reads c.args.read.now start _ _ so_far
    (subst (λ (l : List ℕ). Appends (g.T.Sink.written c.args.output.now) (g.T.Sink.written c.report_item.new.output) l)
    (same_text s.to _ _ _ _ c.line-line.ensures c.given-given.ensures.same) c.in_ok-written.ensures.output)))

pub returns-in_err-hold_given-clause-report : goal.returns-in_err-hold_given-clause-report
returns-in_err-hold_given-clause-report g c =
    let p = err_from_is_err_and c.from_residual-in_err-hold_given.result c.from_residual-in_err-hold_given.ensures.1 in
    rw p.1 (λ reads start held so_far. between_all start _ _ _ (texts_prefix read_report reads (c.args.read.now ∷ []))
    (grew_more [] read_report reads c.args.read.now start _ _ so_far
    (subst (λ (l : List ℕ). Appends (g.U.Sink.written c.args.report.now) (g.U.Sink.written c.report_item.new.report) l)
    (same_report _ _ _ _ c.line-line.ensures c.given-given.ensures.same) c.in_ok-written.ensures.report)))

pub returns-clause-output : goal.returns-clause-output
returns-clause-output g c =
    let s = c.args.self.now in
    λ reads start held so_far. grew_more (prefix_text s.to) (read_text s.to) reads c.args.read.now start _ _ so_far
    (subst (λ (l : List ℕ). Appends (g.T.Sink.written c.args.output.now) (g.T.Sink.written c.report_item.new.output) l)
    (same_text s.to _ _ _ _ c.line-line.ensures c.given-given.ensures.same) c.in_ok-written.ensures.output)

pub returns-clause-report : goal.returns-clause-report
returns-clause-report g c = λ reads start held so_far. grew_more [] read_report reads c.args.read.now start _ _ so_far
    (subst (λ (l : List ℕ). Appends (g.U.Sink.written c.args.report.now) (g.U.Sink.written c.report_item.new.report) l)
    (same_report _ _ _ _ c.line-line.ensures c.given-given.ensures.same) c.in_ok-written.ensures.report)

pub returns-clause-held : goal.returns-clause-held
returns-clause-held g c =
    let s = c.args.self.now in
    let written = c.in_ok-written.written in λ reads held. (
      c.count_read.ensures.counts
          ∙ ap (λ x. counted c.args.state.now.counts written x) c.given-given.ensures.same
          ∙ ap (λ n. counted n written c.args.read.now.reading) held.0
          ∙ counts_more s.to reads c.args.read.now written (c.in_ok-written.ensures.has ∙ ap (is_unwritten s.to) c.given-given.ensures.same),
      c.count_read.ensures.counted,
      held_more s.to reads c.args.read.now _ _ _ _ c.in_ok-hold_given.ensures.held c.line-line.ensures c.given-given.ensures.same held.2,
    )
