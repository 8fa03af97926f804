use Rattle.std.proofs.Common.{ℕ, List, subst}
use Rattle.c_calls.specs.Pushes.{PushState, Takes}
use Rattle.c_calls.proofs.TakeLemmas.{takes_behind}
use Rattle.c_calls.proofs.push.take.Goals as goal

pub returns-clause-takes : goal.returns-clause-takes
returns-clause-takes c =
    let s = c.state.inside in
    let count = c.put_behind-count.result in
    let is = subst (λ (l : List ℕ). Takes l s.taken c.args.room.now c.put_behind-count.new.room count) c.deref.ensures.value c.put_behind-count.ensures in
    subst (λ (old : PushState). Takes old.output old.taken c.args.room.now c.put_behind-count.new.room count) c.state.view_is
    (takes_behind s.output.released.text s.output.bytes.items s.taken c.args.room.now c.put_behind-count.new.room count is)
