use Rattle.std.proofs.Common.{inl, sym, ap, refl, ◌∙◌}
use Rattle.bridge_engine.proofs.Ends.{calls, nothing_ahead, readings}
use Rattle.one_run.proofs.Surface.{ahead_forgotten, forget, forgotten, status_forgotten}
use Rattle.bridge_engine.proofs.TableRows.{given_job}
use Rattle.bridge_engine.specs.declared.done.Done.{Done}
use Rattle.bridge_engine.proofs.statuses.bridge.Goals as goal

pub returns-in-Err-clause-also : goal.returns-in-Err-clause-also
returns-in-Err-clause-also g c = λ job is broke. nothing_ahead job _ _ _

pub returns-in-Ok-Some : goal.returns-in-Ok-Some
returns-in-Ok-Some g c =
    let given = given_job _ _ c.in-Ok-Some.job c.in-Ok-Some.field-0-is c.in-Ok-Some.ensures in
    let laws = readings c.captures_are_selected.ensures.capture c.captures_are_selected.ensures.items
    c.lines_yield_what_is_received.ensures.periods in
    let call = calls laws _ _ _ _ (forget c.run_job-ended.result) _ given
    (forgotten {C = Done} _ _ _ c.run_job-ended.result c.run_job-ended.ensures.ended) (ahead_forgotten {C = Done} _ c.run_job-ended.result c.run_job-ended.ensures.also)
    (c.number-in-Ok-Some.ensures ∙ c.of.ensures ∙ status_forgotten _) in
    record { ended = inl call.ended; headline = call.headline; also = call.also }
