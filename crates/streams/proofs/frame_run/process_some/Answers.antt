use Rattle.std.proofs.Common.{List, ℕ, Bool, not, subst, ◌∙◌}
use Rattle.std.proofs.lemmas.Result.{err_from_is_err_and}
use Rattle.streams.specs.FrameLines.{line_of}
use Rattle.streams.specs.FrameRuns.{Breaks}
use Rattle.streams.proofs.Feeding.{breaks_rest}
use Rattle.streams.proofs.frame_run.process_some.Goals as goal

pub returns-in_err-process_frames-clause-breaks : goal.returns-in_err-process_frames-clause-breaks
returns-in_err-process_frames-clause-breaks g c =
    let p = err_from_is_err_and c.from_residual.result c.from_residual.ensures.1 in
    let unfinished = subst
    (λ (b : Bool). Breaks line_of (not b) c.feed_some-count.new.self.rest (g.T.Sink.written c.args.output.now) (g.T.Sink.written c.process_frames.new.output))
    (c.feed_some-count.ensures.finished ∙ c.requires.may_feed.0) c.in_err-process_frames.ensures.breaks in
    let fed = subst
    (λ (l : List ℕ). Breaks line_of _ l (g.T.Sink.written c.args.output.now) (g.T.Sink.written c.process_frames.new.output))
    c.feed_some-count.ensures.rest unfinished in
    rw p.1 (breaks_rest line_of _ _ _ _ _ fed)
