use Rattle.std.proofs.Common.{List, ℕ, Bool, not, subst, ◌∙◌}
use Rattle.std.proofs.lemmas.Result.{err_from_is_err_and}
use Rattle.streams.specs.Targets.{prefix_text, item_text}
use Rattle.streams.specs.Mirrors.{StreamStops}
use Rattle.streams.proofs.MoveLemmas.{stops_rest}
use Rattle.streams.proofs.frames.process_some.Goals as goal

pub returns-in_err-process_frames-clause-breaks : goal.returns-in_err-process_frames-clause-breaks
returns-in_err-process_frames-clause-breaks g c =
    let p = err_from_is_err_and c.from_residual.result c.from_residual.ensures.1 in
    let unfinished = subst
    (λ (b : Bool). StreamStops c.args.r (prefix_text c.args.to.now) (item_text c.args.to.now 0) (not b) c.feed_some-count.new.self.rest (g.T.Sink.written c.args.output.now) (g.T.Sink.written c.process_frames.new.output)
    (g.U.Sink.written c.args.report.now) (g.U.Sink.written c.process_frames.new.report) c.args.given.now c.args.counts.now)
    (c.feed_some-count.ensures.finished ∙ c.requires.may_feed.0) c.in_err-process_frames.ensures.breaks in
    let fed = subst
    (λ (l : List ℕ). StreamStops c.args.r (prefix_text c.args.to.now) (item_text c.args.to.now 0) _ l (g.T.Sink.written c.args.output.now) (g.T.Sink.written c.process_frames.new.output)
    (g.U.Sink.written c.args.report.now) (g.U.Sink.written c.process_frames.new.report) c.args.given.now c.args.counts.now)
    c.feed_some-count.ensures.rest unfinished in
    rw p.1 (stops_rest c.args.r _ _ _ _ _ _ _ _ _ _ _ fed)
