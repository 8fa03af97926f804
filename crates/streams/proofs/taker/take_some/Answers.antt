use Rattle.std.proofs.Common.{List, ℕ, Bool, not, subst, ◌∙◌}
use Rattle.std.proofs.lemmas.Result.{err_from_is_err_and}
use Rattle.streams.specs.Taken.{Stops}
use Rattle.streams.proofs.TakenLemmas.{stops_rest}
use Rattle.streams.proofs.taker.take_some.Goals as goal

pub returns-in_err-take_frames-clause-stops : goal.returns-in_err-take_frames-clause-stops
returns-in_err-take_frames-clause-stops g c =
    let p = err_from_is_err_and c.from_residual.result c.from_residual.ensures.1 in
    let unfinished = subst
    (λ (b : Bool). Stops (g.K.FrameTaker.text c.args.taker.now) (g.K.FrameTaker.told c.args.taker.now) (g.K.FrameTaker.holds c.args.taker.now) (not b) c.feed_some-count.new.self.rest (g.T.Sink.written c.args.output.now) (g.T.Sink.written c.take_frames.new.output)
    (g.U.Sink.written c.args.report.now) (g.U.Sink.written c.take_frames.new.report) c.args.state.now)
    (c.feed_some-count.ensures.finished ∙ c.requires.may_feed.0) c.in_err-take_frames.ensures.stops in
    let fed = subst
    (λ (l : List ℕ). Stops (g.K.FrameTaker.text c.args.taker.now) (g.K.FrameTaker.told c.args.taker.now) (g.K.FrameTaker.holds c.args.taker.now) _ l (g.T.Sink.written c.args.output.now) (g.T.Sink.written c.take_frames.new.output)
    (g.U.Sink.written c.args.report.now) (g.U.Sink.written c.take_frames.new.report) c.args.state.now)
    c.feed_some-count.ensures.rest unfinished in
    rw p.1 (stops_rest _ _ _ fed)
