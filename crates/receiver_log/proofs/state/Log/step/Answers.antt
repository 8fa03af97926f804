use Rattle.std.proofs.Common.{◌≡◌, Bool, true, false, refl, ◌∙◌}
use Rattle.std.proofs.lemmas.Bool.{both_ways}
use Rattle.std.proofs.lemmas.Result.{err_from_is_err_and}
use Rattle.receiver_log.proofs.LogSteps.{appends_none}
use Rattle.receiver_log.proofs.OneStep.{end_step, given_step, message_step, none_step}
use Rattle.receiver_log.proofs.state.Log.step.Goals as goal

pub returns-in_err-tell-clause-stopped : goal.returns-in_err-tell-clause-stopped
returns-in_err-tell-clause-stopped g c =
    let p = err_from_is_err_and c.from_residual.result c.from_residual.ensures.1 in
    rw p.1 (given_step g.J.Judge.heading g.J.Receiver.said _ _ _ _ _ _ _ _ _ _ c.in-Some.reception _ _
    c.in-Some.ensures.some c.receive-reason.ensures.state_is c.receive-reason.ensures.lines
    c.receive-reason.ensures.refused_is c.in_err-tell.ensures.part)

pub returns-in-Some-clause-hears : goal.returns-in-Some-clause-hears
returns-in-Some-clause-hears g c =
    given_step g.J.Judge.heading g.J.Receiver.said _ _ _ _ _ _ _ _ _ _ c.in-Some.reception _ _
    c.in-Some.ensures.some c.receive-reason.ensures.state_is c.receive-reason.ensures.lines
    c.receive-reason.ensures.refused_is c.in_ok-tell.ensures.told

pub returns-then-next_message-clause-hears : goal.returns-then-next_message-clause-hears
returns-then-next_message-clause-hears g c =
    rw (
      c.take_message.ensures.deframer,
      c.next_message.ensures.finished,
      c.take_message.ensures.state,
      c.take_message.ensures.lines,
      c.take_message.ensures.kept.1,
    ) (message_step g.J.Judge.heading g.J.Receiver.said g.met.J.Judge.is_heading _ _ _ _ _ _ _ _ _ _
    _ _ _ (c.next_message.ensures.message c.if-next_message.true) c.in_default.ensures.none.1
    c.take_message.ensures.comes c.take_message.ensures.counts (appends_none _))

pub returns-then-is_empty-clause-hears : goal.returns-then-is_empty-clause-hears
returns-then-is_empty-clause-hears g c =
    rw c.next_message.ensures.finished
    (none_step g.J.Judge.heading g.J.Receiver.said g.met.J.Judge.is_heading _ _ _ _ _ _ _ _ _ _
    (c.next_message.ensures.none c.if-next_message.false) c.in_default.ensures.none.1
    (appends_none _))

pub returns-then-may_feed-clause-hears : goal.returns-then-may_feed-clause-hears
returns-then-may_feed-clause-hears g c =
    rw c.next_message.ensures.finished
    (none_step g.J.Judge.heading g.J.Receiver.said g.met.J.Judge.is_heading _ _ _ _ _ _ _ _ _ _
    (c.next_message.ensures.none c.if-next_message.false) c.in_default.ensures.none.1
    (appends_none _))

over_by : (b : Bool) → ((b ≡ false) → ⊥) → b ≡ true
over_by true f = refl
over_by false f = absurd (f refl)

pub returns-clause-hears : goal.returns-clause-hears
returns-clause-hears g c =
    let none = c.next_message.ensures.none c.if-next_message.false in
    rw c.next_message.ensures.finished
    (end_step g.J.Judge.heading g.J.Receiver.said _ _ _ _ _ _ _ _ _ _ _
    (over_by c.args.self.now.deframer.finished (λ began. both_ways false refl
    (c.if-may_feed.ensures.1 (c.next_message.ensures.finished ∙ began, none.waiting))))
    none c.in_default.ensures.none.1 c.end.ensures.comes (appends_none _))
