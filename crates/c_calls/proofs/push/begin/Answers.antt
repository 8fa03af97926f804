use Rattle.std.proofs.Common.{◌≡◌, sym, ◌∙◌, subst}
use Rattle.bridge_engine.specs.declared.job.Job.{Job}
use Rattle.c_calls.specs.Pushes.{Begins, closed}
use Rattle.c_calls.specs.declared.push.PushedRun.TheVariants.{Capture, Stream}
use Rattle.c_calls.proofs.PushLemmas.{capture_begins, capture_lives, state, stream_begins, stream_lives}
use Rattle.c_calls.proofs.push.begin.Goals as goal

pub returns-in-Capture : goal.returns-in-Capture
returns-in-Capture c =
    let s = c.state.inside in
    let was : state s.run s.output s.taken s.report s.told s.status ≡ closed = c.state.view_is ∙ c.requires in
    subst (λ (j : Job). Begins j (state (Capture c.new.result) s.output s.taken s.report s.told 0)) (sym c.in-Capture.is)
    (capture_begins s.run s.output s.taken s.report s.told s.status was c.new.result c.in-Capture.job c.new.ensures.run.0 c.new.ensures.run.1 c.new.ensures.pushed)

pub returns-in-Ok : goal.returns-in-Ok
returns-in-Ok c =
    let s = c.state.inside in
    let was : state s.run s.output s.taken s.report s.told s.status ≡ closed = c.state.view_is ∙ c.requires in
    let run = c.in-Ok.ensures.run in
    subst (λ (j : Job). Begins j (state (Stream c.in-Ok.run') c.new-in-Stream.new.output s.taken s.report s.told 0)) (sym c.in-Stream.is)
    (stream_begins s.run s.output s.taken s.report s.told s.status was c.in-Ok.run' c.in-Stream.job c.new-in-Stream.new.output run.3 run.2 run.0 run.1 c.in-Ok.ensures.pushed)

pub invariant_of-state : goal.invariant_of-state
invariant_of-state c =
    let s = c.state.inside in
    let was : state s.run s.output s.taken s.report s.told s.status ≡ closed = c.state.view_is ∙ c.requires in
    capture_lives s.run s.output s.taken s.report s.told s.status was c.new.result c.in-Capture.job c.new.ensures.run.0 c.new.ensures.run.1 c.new.ensures.pushed

pub invariant_of-state-in-Ok : goal.invariant_of-state-in-Ok
invariant_of-state-in-Ok c =
    let s = c.state.inside in
    let was : state s.run s.output s.taken s.report s.told s.status ≡ closed = c.state.view_is ∙ c.requires in
    let run = c.in-Ok.ensures.run in
    stream_lives s.run s.output s.taken s.report s.told s.status was c.in-Ok.run' c.in-Stream.job c.new-in-Stream.new.output run.3 run.2 run.0 run.1 c.in-Ok.ensures.pushed
