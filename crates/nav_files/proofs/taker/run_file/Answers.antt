use Rattle.std.proofs.Common.{ℕ, List, [], inl, inr, refl, sym, ap, subst, ◌∙◌, append-nil}
use Rattle.std.proofs.lemmas.Result.{err_from_is_err_and}
use Rattle.std.proofs.KnownBytes.{Appends-nil, Appends-trans}
use Rattle.std.specs.Prelude.{Err}
use Rattle.std.specs.Io.KnownBytes.{Appends}
use Rattle.nav_io.specs.Causes.{Rose}
use Rattle.nav_io.specs.Prefix.{AppendsPrefix, IsPrefix}
use Rattle.one_run.specs.Runs.{AppendsBetween}
use Rattle.one_run.proofs.Surface.{between_behind, between_whole, prefix_same}
use Rattle.nav_files.proofs.ConvertLemmas.{between_all}
use Rattle.nav_files.proofs.FileEnds.{broke_begin, broke_end, broke_header, broke_taken, done_file, fails_of, fails_report, fails_write}
use Rattle.nav_files.proofs.taker.run_file.Goals as goal

pub returns-in_err-pass_header : goal.returns-in_err-pass_header
returns-in_err-pass_header g c =
    let p = err_from_is_err_and c.from_residual.result c.from_residual.ensures.1 in
    let header = c.in_err-pass_header.ensures in
    rw (p.1, p.2) (broke_header (g.F.FileForm.form c.args.form.now) g.K.Taker.memory _ _ _ _ _ _ _ _ _ _ c.readers_begin_with_the_file.ensures c.whole_records_are_given.ensures.header c.early_records_are_given.ensures.header c.new-records.ensures header.broken
    header.cause refl refl (λ quiet is. (header.never quiet).0 (ap Err is)) refl refl refl refl)

pub returns-in-Err : goal.returns-in-Err
returns-in-Err g c =
    broke_begin (g.F.FileForm.form c.args.form.now) g.K.Taker.memory _ _ _ _ _ _ _ _ _ c.readers_begin_with_the_file.ensures c.early_records_are_given.ensures.records c.early_records_are_given.ensures.first c.steps_compose.ensures.early_near c.begins.ensures.grows c.begins.ensures.more c.new-records.ensures
    c.in_ok-pass_header.ensures.header (c.steps_compose.ensures.near_none _ _) c.in-Err.ensures.bytes (c.begins.ensures.text []) c.begins.ensures.silent refl
    (fails_write _ _ c.in-Err.ensures.cause.failed (ap (λ f. f.input) c.in_ok-pass_header.ensures.cause) refl)

pub returns-in_err-process_records : goal.returns-in_err-process_records
returns-in_err-process_records g c =
    let p = err_from_is_err_and c.from_residual-in_err-process_records.result c.from_residual-in_err-process_records.ensures.1 in
    let header = c.in_ok-pass_header.ensures in
    let records = c.in_err-process_records.ensures in
    let part = records.broken in
    rw (p.1, p.2) (broke_taken (g.F.FileForm.form c.args.form.now) g.K.Taker.memory _ _ _ _ _ _ _ _ _ _ _ part.given _
    c.readers_begin_with_the_file.ensures c.whole_records_are_given.ensures.records c.early_records_are_given.ensures.records c.early_records_are_given.ensures.first c.begins.ensures.grows c.begins.ensures.more c.new-records.ensures header.header part.steps part.early
    (part.output _ c.in-Ok.ensures.bytes) (c.begins.ensures.text part.given)
    (part.report _ (subst (Appends (g.U.Sink.written c.args.report.now) (g.U.Sink.written c.args.report.now)) (sym c.begins.ensures.silent) (Appends-nil _))) (c.begins.ensures.told part.given)
    (fails_of _ _ _ _ _ _ (ap (λ f. f.input) header.cause) c.in-Ok.ensures.cause.stays refl records.cause (λ quiet. records.never (header.never quiet).1) part.form) part.too_long part.wants
    (λ is. let all = part.exact is in (all.0, all.1 _ c.in-Ok.ensures.bytes, all.2 _ (subst (Appends (g.U.Sink.written c.args.report.now) (g.U.Sink.written c.args.report.now)) (sym c.begins.ensures.silent) (Appends-nil _)))))

pub returns-in-Err-finish : goal.returns-in-Err-finish
returns-in-Err-finish g c =
    let header = c.in_ok-pass_header.ensures in
    let records = c.in_ok-process_records.ensures in
    let all = records.all in
    let told = all.report (g.U.Sink.written c.args.report.now) (subst (Appends (g.U.Sink.written c.args.report.now) (g.U.Sink.written c.args.report.now)) (sym c.begins.ensures.silent) (Appends-nil _)) in
    broke_end (g.F.FileForm.form c.args.form.now) g.K.Taker.memory _ _ _ _ _ _ _ _ _ _ _ all.given (g.K.Taker.whole c.args.taker.now all.given) (g.K.Taker.told c.args.taker.now all.given) _
    c.readers_begin_with_the_file.ensures c.early_records_are_given.ensures.records c.early_records_are_given.ensures.first c.steps_compose.ensures.early_near c.begins.ensures.grows c.begins.ensures.more c.new-records.ensures
    header.header (record { steps = all.steps; near = all.near }) all.end
    (c.in-Err-finish.ensures.output all.given _ all.held (all.output _ c.in-Ok.ensures.bytes)) (prefix_same _)
    (between_whole _ _ _ told) (subst (λ (l : List _). IsPrefix (g.K.Taker.told c.args.taker.now all.given) (g.K.Taker.reported c.args.taker.now l)) (append-nil all.given) (c.begins.ensures.told all.given []))
    (inl (prefix_same _))
    (fails_write _ _ (subst (λ n. Rose n (g.T.Sink.faults c.finish.new.output)) (ap (λ f. f.output) records.cause ∙ c.in-Ok.ensures.cause.stays) c.in-Err-finish.ensures.cause.failed)
    (ap (λ f. f.input) records.cause ∙ ap (λ f. f.input) header.cause) (ap (λ f. f.report) records.cause)) (λ long. cc) (λ wants. cc) (λ over. cc)

pub returns-in-Ok-write : goal.returns-in-Ok-write
returns-in-Ok-write g c =
    let header = c.in_ok-pass_header.ensures in
    let records = c.in_ok-process_records.ensures in
    let all = records.all in
    let told = all.report (g.U.Sink.written c.args.report.now) (subst (Appends (g.U.Sink.written c.args.report.now) (g.U.Sink.written c.args.report.now)) (sym c.begins.ensures.silent) (Appends-nil _)) in
    let counted = c.counts-counts.ensures all.given all.held in
    let text = subst (λ (l : List ℕ). Appends (g.U.Sink.written c.process_records.new.report) (g.U.Sink.written c.write.new.self) l) c.as_slice.ensures.value c.in-Ok-write.ensures.bytes in
    done_file (g.F.FileForm.form c.args.form.now) g.K.Taker.memory _ _ _ _ _ _ _ _ _ _ _ all.given _
    c.readers_begin_with_the_file.ensures c.new-records.ensures header.header all.steps all.end
    (c.in-Ok-finish.ensures.output all.given _ all.held (all.output _ c.in-Ok.ensures.bytes))
    (subst (Appends (g.U.Sink.written c.args.report.now) (g.U.Sink.written c.write.new.self)) (sym (c.counts_text.ensures all.given counted)) (Appends-trans _ _ _ _ _ told text))
    counted
    (ap (λ f. f.input) records.cause ∙ ap (λ f. f.input) header.cause) (c.in-Ok-finish.ensures.cause.stays ∙ (ap (λ f. f.output) records.cause ∙ c.in-Ok.ensures.cause.stays)) (c.in-Ok-write.ensures.cause.stays ∙ ap (λ f. f.report) records.cause)

pub returns-in-Err-write : goal.returns-in-Err-write
returns-in-Err-write g c =
    let header = c.in_ok-pass_header.ensures in
    let records = c.in_ok-process_records.ensures in
    let all = records.all in
    let told = all.report (g.U.Sink.written c.args.report.now) (subst (Appends (g.U.Sink.written c.args.report.now) (g.U.Sink.written c.args.report.now)) (sym c.begins.ensures.silent) (Appends-nil _)) in
    let counted = c.counts-counts.ensures all.given all.held in
    let text = subst (λ (l : List ℕ). AppendsPrefix (g.U.Sink.written c.process_records.new.report) (g.U.Sink.written c.write.new.self) l) c.as_slice.ensures.value c.in-Err-write.ensures.bytes in
    broke_end (g.F.FileForm.form c.args.form.now) g.K.Taker.memory _ _ _ _ _ _ _ _ _ _ _ all.given (g.K.Taker.whole c.args.taker.now all.given) (g.K.Taker.reported c.args.taker.now all.given) _
    c.readers_begin_with_the_file.ensures c.early_records_are_given.ensures.records c.early_records_are_given.ensures.first c.steps_compose.ensures.early_near c.begins.ensures.grows c.begins.ensures.more c.new-records.ensures
    header.header (record { steps = all.steps; near = all.near }) all.end
    (between_all _ _ (g.K.Taker.text c.args.taker.now all.given) (g.K.Taker.whole c.args.taker.now all.given)
    (subst (λ (l : List _). IsPrefix (g.K.Taker.text c.args.taker.now all.given) (g.K.Taker.whole c.args.taker.now l)) (append-nil all.given) (c.begins.ensures.text all.given []))
    (c.in-Ok-finish.ensures.output all.given _ all.held (all.output _ c.in-Ok.ensures.bytes))) (prefix_same _)
    (subst (AppendsBetween (g.U.Sink.written c.args.report.now) (g.U.Sink.written c.write.new.self) _) (sym (c.counts_text.ensures all.given counted)) (between_behind _ _ _ _ _ told text)) (prefix_same _)
    (inr (refl, c.in-Ok-finish.ensures.output all.given _ all.held (all.output _ c.in-Ok.ensures.bytes)))
    (fails_report _ _ (subst (λ n. Rose n (g.U.Sink.faults c.write.new.self)) (ap (λ f. f.report) records.cause) c.in-Err-write.ensures.cause.failed)
    (ap (λ f. f.input) records.cause ∙ ap (λ f. f.input) header.cause) (c.in-Ok-finish.ensures.cause.stays ∙ (ap (λ f. f.output) records.cause ∙ c.in-Ok.ensures.cause.stays))) (λ long. cc) (λ wants. cc) (λ over. cc)
