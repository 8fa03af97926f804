use Rattle.std.proofs.Common.{◌≡◌, ℕ, List, sym, subst, arith}
use Rattle.bridge_engine.specs.declared.job.Job.{Job}
use Rattle.c_calls.specs.Pending.{all_of}
use Rattle.c_calls.specs.Pushes.{IsRunOf, PushState, Pushes}
use Rattle.c_calls.proofs.GrowLemmas.{grows_by}
use Rattle.c_calls.proofs.PushLemmas.{cut_off, pushed, state}
use Rattle.c_calls.proofs.push.push.Goals as goal

pub returns-in-Ok : goal.returns-in-Ok
returns-in-Ok c =
    let s = c.state.inside in
    let piece = c.args.piece.now in
    let o = s.output in
    let r = s.report in
    let o' = c.push.new.output in
    let r' = c.push.new.report in
    let run' = c.push.new.self in
    let zero : s.status ≡ 0 = omega (arith, c.if-state-ne0.false) in
    let live : (job : Job) × (bytes : List ℕ) × IsRunOf s.run job bytes (all_of o) (all_of r) = c.state.invariant zero in
    let then : ℕ → PushState = λ status. state run' o' s.taken r' s.told status in
    subst (λ (old : PushState). Pushes old piece (then s.status) 0) c.state.view_is
    (subst (λ (n : ℕ). Pushes (state s.run o s.taken r s.told n) piece (then n) 0) (sym zero)
    (pushed s.run o o' r r' s.taken s.told live c.push.ensures.kept run' piece c.in-Ok.ensures.goes
    (λ job bytes. grows_by c.what_is_written_of_a_stream_stays.ensures.pieces c.what_is_written_of_a_capture_stays.ensures.pieces s.run job bytes piece (all_of o) (all_of o') (all_of r) (all_of r'))))

pub returns-in-Err : goal.returns-in-Err
returns-in-Err c =
    let s = c.state.inside in
    let piece = c.args.piece.now in
    let o = s.output in
    let r = s.report in
    let o' = c.push.new.output in
    let r' = c.push.new.report in
    let run' = c.push.new.self in
    let zero : s.status ≡ 0 = omega (arith, c.if-state-ne0.false) in
    let live : (job : Job) × (bytes : List ℕ) × IsRunOf s.run job bytes (all_of o) (all_of r) = c.state.invariant zero in
    let answer = c.answer_of-answer.result in
    let is = c.answer_of-answer.ensures in
    let then = state run' o' s.taken r' s.told answer in
    subst (λ (old : PushState). Pushes old piece then answer) c.state.view_is
    (subst (λ (n : ℕ). Pushes (state s.run o s.taken r s.told n) piece then answer) (sym zero)
    (cut_off s.run o o' r r' s.taken s.told live c.push.ensures.kept run' piece c.in-Err.fault answer (record { some = is.some; form = is.form; long = is.last; lack = is.lack; known = is.capture }) c.in-Err.ensures.breaks))
