use Rattle.std.proofs.Common.{ap, sym, Some, ◌∙◌}
use Rattle.std.specs.Prelude.{option_map}
use Rattle.bridge_engine.proofs.TableRows.{asked}
use Rattle.bridge_engine.proofs.job.job_with.Goals as goal

pub returns-in-Some : goal.returns-in-Some
returns-in-Some c =
    asked _ c.in-Some.values c.as_bytes.result.now c.as_bytes-in-Some.result.now c.job_in.result
    (ap (option_map (λ t. t.now)) c.in_ok-from.was ∙ ap Some (sym c.as_bytes.ensures.value))
    (ap (option_map (λ t. t.now)) c.in_ok-to.was ∙ ap Some (sym c.as_bytes-in-Some.ensures.value)) c.in-Some.ensures c.job_in.ensures
