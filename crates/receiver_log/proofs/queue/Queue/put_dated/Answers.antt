use Rattle.std.proofs.Common.{ap, ◌∙◌}
use Rattle.receiver_log.proofs.Comings.{put_dated, queue_is}
use Rattle.receiver_log.proofs.queue.Queue.put_dated.Goals as goal

pub returns-clause-comes : goal.returns-clause-comes
returns-clause-comes c = λ more before says number.
    let q = c.self.inside in
    let held = c.self.invariant.1 (ap (λ p. p.settled) c.self.view_is ∙ c.requires.settled) in
    let none = ap (λ p. p.time) c.self.view_is ∙ c.requires.none in
    put_dated more c.args.self.now q.pending.items c.append.new.pending.items q.taken q.time
    c.args.part.now before says
    (queue_is c.args.self.now q.pending.items q.taken q.time q.settled c.self.view_is
    c.requires.settled held.0)
    held.0 c.append.ensures number c.args.time none (held.2 none)
