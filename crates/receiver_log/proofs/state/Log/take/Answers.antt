use Rattle.std.proofs.Common.{◌≡◌, ◌==◌, ℕ, Bool, true, List, [], length, refl, sym, ap, ◌∙◌, arith}
use Rattle.std.proofs.lemmas.Bool.{eqb-true}
use Rattle.std.proofs.lemmas.List.{nil_from_length}
use Rattle.std.proofs.lemmas.Result.{err_from_is_err_and}
use Rattle.receiver_log.specs.Steps.{steps_left}
use Rattle.receiver_log.proofs.LogSteps.{appends_none, both_told, hears_cleared, none_last, take_broken, take_on}
use Rattle.receiver_log.proofs.state.Log.take.Goals as goal

-- no line waits
empty_in : {b : Bool} (l : List ℕ) → b ≡ (length l == 0) → b ≡ true → l ≡ []
empty_in l is none = nil_from_length l (eqb-true _ _ (sym is ∙ none))

pub loop-self-init : goal.loop-self-init
loop-self-init g c =
    let view = c.clear.ensures.view in
    let m = hears_cleared g.J.Judge.heading g.J.Receiver.said _ _ _ _ view c.clear.ensures.lines
    (appends_none _) in
    record {
      hears = (m, none_last g.J.Judge.heading g.J.Receiver.said _ _ _ _ _ _ m refl c.clear.ensures.lines);
      given = c.clear.ensures.given;
      taken = ap (λ v. v.taken) view;
      finished = ap (λ v. v.ended) view;
      faults = refl;
      steady = omega (arith, ap steps_left view);
      onward = λ some. absurd (omega (arith, some, ap length c.clear.ensures.lines));
    }

pub returns-in_err-step-clause-stopped : goal.returns-in_err-step-clause-stopped
returns-in_err-step-clause-stopped g c =
    let p = err_from_is_err_and c.from_residual.result c.from_residual.ensures.1 in
    rw p.1 (take_broken g.J.Judge.heading g.J.Receiver.said _ _ _ _ _ _ _ _
    c.loop-self.invariant.hears.0 (empty_in _ c.is_empty.ensures c.loop-self-test.true) c.in_err-step.ensures.stopped)

pub returns-then-not-branch-clause-hears : goal.returns-then-not-branch-clause-hears
returns-then-not-branch-clause-hears g c =
    take_on g.J.Judge.heading g.J.Receiver.said _ _ _ _ _ _ _ _ (both_told _ _ _)
    c.loop-self.invariant.hears.0 (empty_in _ c.is_empty.ensures c.loop-self-test.true) c.in_ok-step.ensures.hears

pub loop-self-preserved : goal.loop-self-preserved
loop-self-preserved g c =
    let so_far = c.loop-self.invariant in
    let step = c.in_ok-step.ensures in
    let onward = step.onward c.if-not-branch.false in
    record {
      hears = take_on g.J.Judge.heading g.J.Receiver.said _ _ _ _ _ _ _ _ (both_told _ _ _)
          so_far.hears.0 (empty_in _ c.is_empty.ensures c.loop-self-test.true) step.hears;
      given = step.given;
      taken = step.taken ∙ so_far.taken;
      finished = step.finished ∙ so_far.finished;
      faults = step.cause.stays ∙ so_far.faults;
      steady = omega (arith, onward, so_far.steady);
      onward = λ some. omega (arith, onward, so_far.steady);
    }
