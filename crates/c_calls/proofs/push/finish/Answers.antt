use Rattle.std.proofs.Common.{◌≡◌, ℕ, List, sym, subst, arith}
use Rattle.bridge_engine.specs.declared.job.Job.{Job}
use Rattle.c_calls.specs.Mirrors.{Ends, EndsShort, KeepsReleased}
use Rattle.c_calls.specs.Pending.{all_of}
use Rattle.c_calls.specs.Pushes.{Finishes, IsRunOf, PushState}
use Rattle.c_calls.specs.declared.push.PushedRun.{PushedRun}
use Rattle.c_calls.proofs.GrowLemmas.{grows_to_whole}
use Rattle.c_calls.proofs.PushLemmas.{finished, state, unfinished}
use Rattle.c_calls.proofs.push.finish.Goals as goal

pub returns-in-Ok : goal.returns-in-Ok
returns-in-Ok c =
    let s = c.state.inside in
    let o = s.output in
    let r = s.report in
    let o' = c.finish.new.output in
    let r' = c.finish.new.report in
    let zero : s.status ≡ 0 = omega (arith, c.if-state-ne0.false) in
    let live : (job : Job) × (bytes : List ℕ) × IsRunOf s.run job bytes (all_of o) (all_of r) = c.state.invariant zero in
    let kept = subst (λ (run : PushedRun). KeepsReleased run o o' r r') c.replace-run.ensures.value c.finish.ensures.kept in
    let then : PushedRun → PushState = λ run. state run o' s.taken r' s.told 11 in
    subst (λ (old : PushState). Finishes old (then c.replace-run.new.dest) 0) c.state.view_is
    (subst (λ (n : ℕ). Finishes (state s.run o s.taken r s.told n) (then c.replace-run.new.dest) 0) (sym zero)
    (subst (λ (run : PushedRun). Finishes (state s.run o s.taken r s.told 0) (then run) 0) (sym c.replace-run.ensures.after)
    (finished s.run o o' r r' s.taken s.told live kept (subst (λ (run : PushedRun). Ends run (all_of o) (all_of o') (all_of r) (all_of r')) c.replace-run.ensures.value c.in-Ok.ensures.ends)
    (λ job bytes. grows_to_whole c.what_is_written_of_a_stream_stays.ensures.whole c.what_is_written_of_a_capture_stays.ensures.whole s.run job bytes (all_of o) (all_of o') (all_of r) (all_of r')))))

pub returns-in-Err : goal.returns-in-Err
returns-in-Err c =
    let s = c.state.inside in
    let o = s.output in
    let r = s.report in
    let o' = c.finish.new.output in
    let r' = c.finish.new.report in
    let zero : s.status ≡ 0 = omega (arith, c.if-state-ne0.false) in
    let live : (job : Job) × (bytes : List ℕ) × IsRunOf s.run job bytes (all_of o) (all_of r) = c.state.invariant zero in
    let kept = subst (λ (run : PushedRun). KeepsReleased run o o' r r') c.replace-run.ensures.value c.finish.ensures.kept in
    let answer = c.answer_of-answer.result in
    let is = c.answer_of-answer.ensures in
    let then : PushedRun → PushState = λ run. state run o' s.taken r' s.told answer in
    subst (λ (old : PushState). Finishes old (then c.replace-run.new.dest) answer) c.state.view_is
    (subst (λ (n : ℕ). Finishes (state s.run o s.taken r s.told n) (then c.replace-run.new.dest) answer) (sym zero)
    (subst (λ (run : PushedRun). Finishes (state s.run o s.taken r s.told 0) (then run) answer) (sym c.replace-run.ensures.after)
    (unfinished s.run o o' r r' s.taken s.told live kept c.in-Err.fault answer (record { some = is.some; form = is.form; long = is.last; lack = is.lack; known = is.capture })
    (subst (λ (run : PushedRun). EndsShort run (all_of o) (all_of o') (all_of r) (all_of r') c.in-Err.fault) c.replace-run.ensures.value c.in-Err.ensures.short))))
