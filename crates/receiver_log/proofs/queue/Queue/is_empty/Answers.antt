use Rattle.std.proofs.Common.{ap, ◌∙◌}
use Rattle.receiver_log.specs.Mirrors.{to_come}
use Rattle.std.proofs.Common.{true, []}
use Rattle.receiver_log.proofs.Comings.{none_comes, queue_is}
use Rattle.receiver_log.proofs.queue.Queue.is_empty.Goals as goal

pub returns-clause-waits : goal.returns-clause-waits
returns-clause-waits c = λ number.
    let q = c.self.inside in
    let held = c.self.invariant.1 (ap (λ p. p.settled) c.self.view_is ∙ c.requires) in
    ap (λ p. to_come true p number [])
    (queue_is c.args.self.now q.pending.items q.taken q.time q.settled c.self.view_is c.requires held.0)
    ∙ none_comes q.pending.items q.time number held.1 held.2
