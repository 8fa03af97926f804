use Rattle.std.proofs.Common.{◌≡◌, ◌≤◌, [], drop, length, refl, sym, ap, ◌∙◌, arith}
use Rattle.std.proofs.lemmas.Bool.{eqb-true}
use Rattle.std.proofs.lemmas.List.{drop_all, nil_from_length}
use Rattle.std.proofs.lemmas.Result.{err_from_is_err_and}
use Rattle.receiver_log.proofs.LogSteps.{advances_filled, advances_none, advances_took}
use Rattle.receiver_log.proofs.LogSteps.{appends_none, both_told, breaks_filled, breaks_took}
use Rattle.receiver_log.proofs.LogSteps.{stops_from}
use Rattle.receiver_log.proofs.state.Log.next_lines.Goals as goal

pub loop-self-init : goal.loop-self-init
loop-self-init g c = record {
  reads = advances_none g.J.Judge.heading g.J.Receiver.said _ _ _ _ (appends_none _);
  source = refl;
  refused = refl;
  never = λ quiet. quiet;
  steady = omega arith;
  onward = λ none some. absurd (omega (arith, some, ap length none));
}

pub returns-in-Err-clause-stopped : goal.returns-in-Err-clause-stopped
returns-in-Err-clause-stopped g c =
    let s = c.loop-self.self in
    let took = c.in-Err.ensures in
    let none : drop s.given s.lines.items ≡ [] =
    drop_all s.given s.lines.items (omega (arith, c.loop-self-test.true, c.len.ensures.value)) in
    rw took.given (breaks_took g.J.Judge.heading g.J.Receiver.said _ _ _ _ _ _ _ _ _ _ _ none
    c.loop-self.invariant.reads took.taken took.finished took.stopped)

pub returns-then-not-may_feed-clause-reads : goal.returns-then-not-may_feed-clause-reads
returns-then-not-may_feed-clause-reads g c =
    let s = c.loop-self.self in
    let took = c.in-Ok.ensures in
    let none : drop s.given s.lines.items ≡ [] =
    drop_all s.given s.lines.items (omega (arith, c.loop-self-test.true, c.len.ensures.value)) in
    rw took.given (advances_took g.J.Judge.heading g.J.Receiver.said _ _ _ _ _ _ _ _ _ _ _
    (both_told _ _ _) none c.loop-self.invariant.reads took.taken took.finished took.hears)

pub loop-self-preserved : goal.loop-self-preserved
loop-self-preserved g c =
    let s = c.loop-self.self in
    let so_far = c.loop-self.invariant in
    let took = c.in-Ok.ensures in
    let none : drop s.given s.lines.items ≡ [] =
    drop_all s.given s.lines.items (omega (arith, c.loop-self-test.true, c.len.ensures.value)) in
    rw took.given (record {
      reads = advances_took g.J.Judge.heading g.J.Receiver.said _ _ _ _ _ _ _ _ _ _ _
          (both_told _ _ _) none so_far.reads took.taken took.finished took.hears;
      source = so_far.source;
      refused = took.cause.stays ∙ so_far.refused;
      never = so_far.never;
      steady = omega (arith, took.steady, so_far.steady);
      onward = λ empty some. omega (arith, took.onward some, so_far.steady);
    })

pub loop-self-preserved-in-Continue-1 : goal.loop-self-preserved-in-Continue-1
loop-self-preserved-in-Continue-1 g c =
    let s = c.loop-self.self in
    let so_far = c.loop-self.invariant in
    let took = c.in-Ok.ensures in
    let filled = c.in_ok-fill.ensures in
    let none : drop s.given s.lines.items ≡ [] =
    drop_all s.given s.lines.items (omega (arith, c.loop-self-test.true, c.len.ensures.value)) in
    let empty : length c.take.new.self.lines.items ≡ 0 =
    eqb-true _ _ (sym c.is_empty.ensures ∙ c.if-is_empty.true) in
    rw (filled.lines.1, took.given) (record {
      reads = advances_filled g.J.Judge.heading g.J.Receiver.said _ _ _ _ _ _ _ _ _ _
          (advances_took g.J.Judge.heading g.J.Receiver.said _ _ _ _ _ _ _ _ _ _ _
          (both_told _ _ _) none so_far.reads took.taken took.finished took.hears)
          filled.reads (nil_from_length _ empty) filled.lines.0 (took.idle empty)
          (c.may_feed.ensures.0 c.if-not-may_feed.false).0 filled.few;
      source = filled.faults ∙ so_far.source;
      refused = took.cause.stays ∙ so_far.refused;
      never = λ quiet. filled.never (so_far.never quiet);
      steady = omega (arith, took.steady, filled.onward, so_far.steady);
      onward = λ empty some. omega (arith, took.steady, filled.onward, so_far.steady);
    })

pub returns-in_err-fill-clause-stopped : goal.returns-in_err-fill-clause-stopped
returns-in_err-fill-clause-stopped g c =
    let s = c.loop-self.self in
    let took = c.in-Ok.ensures in
    let filled = c.in_err-fill.ensures in
    let p = err_from_is_err_and c.from_residual.result c.from_residual.ensures.1 in
    let none : drop s.given s.lines.items ≡ [] =
    drop_all s.given s.lines.items (omega (arith, c.loop-self-test.true, c.len.ensures.value)) in
    let empty : length c.take.new.self.lines.items ≡ 0 =
    eqb-true _ _ (sym c.is_empty.ensures ∙ c.if-is_empty.true) in
    rw (p.1, p.2, filled.lines.1, took.given) (breaks_filled g.J.Judge.heading
    g.J.Receiver.said _ _ _ _ _ _ _ _ _ _ _ _ _ _ _
    (advances_took g.J.Judge.heading g.J.Receiver.said _ _ _ _ _ _ _ _ _ _ _
    (both_told _ _ _) none c.loop-self.invariant.reads took.taken took.finished took.hears)
    filled.reads (nil_from_length _ empty) filled.lines.0 (took.idle empty)
    (c.may_feed.ensures.0 c.if-not-may_feed.false).0 filled.few (filled.why [] 0 refl (took.idle empty)))

pub returns-in_err-fill-clause-why : goal.returns-in_err-fill-clause-why
returns-in_err-fill-clause-why g c =
    let so_far = c.loop-self.invariant in
    let took = c.in-Ok.ensures in
    let filled = c.in_err-fill.ensures in
    let p = err_from_is_err_and c.from_residual.result c.from_residual.ensures.1 in
    let empty : length c.take.new.self.lines.items ≡ 0 =
    eqb-true _ _ (sym c.is_empty.ensures ∙ c.if-is_empty.true) in
    let waits : drop c.fill.new.self.given c.fill.new.self.lines.items ≡ [] =
    drop_all c.fill.new.self.given c.fill.new.self.lines.items
    (omega (arith, empty, ap length filled.lines.0)) in
    rw (p.1, p.2) (stops_from g.J.Judge.heading g.J.Receiver.said _ _ _ _ _ _ _ _ _ _ _
    so_far.source (took.cause.stays ∙ so_far.refused) so_far.never
    (filled.why _ _ waits (took.idle empty)))
