use Rattle.std.proofs.Common.{refl, ap, ◌∙◌, arith}
use Rattle.receiver_log.proofs.LogSteps.{hears_nothing, reads_end, reads_failed, reads_fed, reads_none}
use Rattle.receiver_log.proofs.state.Log.fill.Goals as goal

pub returns-then-self-ge-TOO_MANY-clause-reads : goal.returns-then-self-ge-TOO_MANY-clause-reads
returns-then-self-ge-TOO_MANY-clause-reads g c =
    reads_none g.J.Judge.heading g.J.Receiver.said _ _ _ _ _ _ refl refl
    (hears_nothing g.J.Judge.heading g.J.Receiver.said _ _ _ refl)

pub returns-in-Err-clause-reads : goal.returns-in-Err-clause-reads
returns-in-Err-clause-reads g c =
    reads_failed g.J.Judge.heading g.J.Receiver.said _ _ _ _ _ c.in-Err.ensures.bytes refl
    c.requires.may_feed.0

pub returns-in-Ok-eq0-clause-reads : goal.returns-in-Ok-eq0-clause-reads
returns-in-Ok-eq0-clause-reads g c =
    let old = c.args.self.now in
    reads_end g.J.Judge.heading g.J.Receiver.said _ _ _ _ _ _ _ c.in-Ok-eq0.field-0-test
    c.in-Ok-eq0.ensures.bytes.0 c.in-Ok-eq0.ensures.bytes.1
    (ap (λ t. record { rest = t; queue = old.queue; counts = old.counts }) c.finish.ensures.rest)
    refl refl c.requires.may_feed.0 c.if-self-ge-TOO_MANY.false

pub returns-in-Ok-clause-reads : goal.returns-in-Ok-clause-reads
returns-in-Ok-clause-reads g c =
    let old = c.args.self.now in
    let place = ap (λ t. record { rest = t; queue = old.queue; counts = old.counts })
    c.feed.ensures.rest in
    reads_fed g.J.Judge.heading g.J.Receiver.said _ _ _ _ _ _ c.in-Ok.ensures.bytes.0
    place refl (omega (arith, c.in-Ok.ensures.count)) c.requires.may_feed.0
    (λ over. let still = c.feed.ensures.finished ∙ c.requires.may_feed.0 in cc (over, still))
