use Rattle.std.proofs.Common.{ℕ, None, Err, refl, ap, ◌∙◌, subst, sym}
use Rattle.captures.specs.Flushed.{with_counts}
use Rattle.captures.specs.Pushed.{CaptureRunState, IsCutShort, IsPushed, IsWhole}
use Rattle.captures.proofs.Prefixes.{LogLaws}
use Rattle.captures.proofs.Pushing.{all_cut, all_heard, all_whole, behind_ready, end_cut}
use Rattle.captures.proofs.push.CaptureRun.finish.Goals as goal

pub returns-in-Err-clause-short : goal.returns-in-Err-clause-short
returns-in-Err-clause-short g c bytes start begun old =
    let s = subst (λ (s : CaptureRunState). IsPushed s bytes start (g.T.Sink.written c.args.output.now) begun (g.U.Sink.written c.args.report.now)) (sym c.self.view_is) old in
    subst (λ (s : CaptureRunState). IsCutShort s.to s.week bytes bytes start (g.T.Sink.written c.follow.new.output) begun (g.U.Sink.written c.follow.new.report) c.in-Err.fault) c.self.view_is
    (end_cut _ _ bytes _ _ start _ begun _ c.in-Err.fault (λ e. c.in-Err.ensures.never refl (ap Err e)) (c.in-Err.ensures.follows bytes start begun s.waits s.behind))

pub unreachable-requires : goal.unreachable-requires
unreachable-requires g c =
    let ready = c.self.invariant c.in_default.is in
    all_heard _ _ ready.bytes _ _ None _ None _ (c.in-Ok.ensures.follows ready.bytes None None ready.waits (behind_ready _ _ _ _ _ _ ready)) c.in_default-receiving.is

pub returns-in-Ok-end_run-clause-whole : goal.returns-in-Ok-end_run-clause-whole
returns-in-Ok-end_run-clause-whole g c bytes start begun old =
    let s = subst (λ (s : CaptureRunState). IsPushed s bytes start (g.T.Sink.written c.args.output.now) begun (g.U.Sink.written c.args.report.now)) (sym c.self.view_is) old in
    subst (λ (s : CaptureRunState). IsWhole s.to s.week bytes start (g.T.Sink.written c.end_run.new.output) begun (g.U.Sink.written c.end_run.new.report) c.counts_with-counts.result) c.self.view_is
    (all_whole _ _ bytes _ _ start _ _ begun _ _ c.in-Some-receiving.receiving c.counts_with-counts.result (c.in-Ok.ensures.follows bytes start begun s.waits s.behind) c.in-Some-receiving.is
    (c.counts_with-counts.ensures ∙ ap (λ (n : ℕ). with_counts n c.in-Some-receiving.receiving.receiver.tally c.in-Some-receiving.receiving.said) c.number.ensures) c.in-Ok-end_run.ensures.text c.in-Ok-end_run.ensures.report)

pub returns-clause-short : goal.returns-clause-short
returns-clause-short g c bytes start begun old =
    let laws : LogLaws = record { later = c.what_is_closed_stays.ensures.later; rise = c.what_is_closed_stays.ensures.rise; prefix = c.what_is_closed_stays.ensures.prefix; values = c.parts_of_lines_are_values.ensures } in
    let s = subst (λ (s : CaptureRunState). IsPushed s bytes start (g.T.Sink.written c.args.output.now) begun (g.U.Sink.written c.args.report.now)) (sym c.self.view_is) old in
    subst (λ (s : CaptureRunState). IsCutShort s.to s.week bytes bytes start (g.T.Sink.written c.end_run.new.output) begun (g.U.Sink.written c.end_run.new.report) c.in-Err-end_run.fault) c.self.view_is
    (all_cut laws _ _ bytes _ _ start _ _ begun _ _ c.in-Some-receiving.receiving c.counts_with-counts.result c.in-Err-end_run.fault (c.in-Ok.ensures.follows bytes start begun s.waits s.behind) c.in-Some-receiving.is
    (c.counts_with-counts.ensures ∙ ap (λ (n : ℕ). with_counts n c.in-Some-receiving.receiving.receiver.tally c.in-Some-receiving.receiving.said) c.number.ensures) c.in-Err-end_run.ensures.part c.in-Err-end_run.ensures.report_part
    c.in-Err-end_run.ensures.kind (λ e. c.in-Err-end_run.ensures.untold (ap Err e)) (λ e. c.in-Err-end_run.ensures.wrote (ap Err e)))
