use Rattle.std.proofs.Common.{[], None, refl}
use Rattle.captures.proofs.CaptureEnds.{IsFresh}
use Rattle.captures.proofs.Pushing.{behind_none, pushed_by, ready_behind, waits_none}
use Rattle.captures.proofs.push.CaptureRun.new.Goals as goal

pub invariant_of-result : goal.invariant_of-result
invariant_of-result c going =
    let fresh : IsFresh c.new-lines.result = record { rest = c.new-lines.ensures.rest; ended = c.new-lines.ensures.ended; taken = c.new-lines.ensures.taken; number = c.new-lines.ensures.number } in
    ready_behind _ _ _ _ [] None None None None (waits_none c.new-lines.result fresh) (behind_none _ _ c.new-lines.result None None fresh)

pub returns-clause-pushed : goal.returns-clause-pushed
returns-clause-pushed c start begun =
    let fresh : IsFresh c.new-lines.result = record { rest = c.new-lines.ensures.rest; ended = c.new-lines.ensures.ended; taken = c.new-lines.ensures.taken; number = c.new-lines.ensures.number } in
    pushed_by _ [] start start begun begun refl (waits_none c.new-lines.result fresh) (behind_none _ _ c.new-lines.result start begun fresh)
