use Rattle.std.proofs.Common.{◌≤◌, [], ◌∷◌, ap, length, ◌∙◌, arith}
use Rattle.std.proofs.lemmas.Bool.{both_ways}
use Rattle.std.proofs.lemmas.List.Elements.{All-append, All-cons, All-nil}
use Rattle.std.specs.Option.{is_some}
use Rattle.receiver_log.specs.Systems.{IsOfSystem}
use Rattle.receiver_log.specs.declared.queue.Pending.{Pending}
use Rattle.receiver_log.proofs.Comings.{put_over, put_untimed, put_waits, queue_is}
use Rattle.receiver_log.proofs.queue.Queue.put.Goals as goal

pub returns-then-len-gt-MOST-clause-comes : goal.returns-then-len-gt-MOST-clause-comes
returns-then-len-gt-MOST-clause-comes c = λ more before says number.
    let q = c.self.inside in
    let held = c.self.invariant.1 (ap (λ p. p.settled) c.self.view_is ∙ c.requires.settled) in
    put_over more c.args.self.now q.pending.items c.append.new.pending.items q.taken q.time
    c.args.part.now before says
    (queue_is c.args.self.now q.pending.items q.taken q.time q.settled c.self.view_is
    c.requires.settled held.0)
    held.0 c.append.ensures number (omega (arith, c.if-len-gt-MOST.true, c.len.ensures.value))

pub invariant_of-self-else-is_none : goal.invariant_of-self-else-is_none
invariant_of-self-else-is_none c =
    let q = c.self.inside in
    let held = c.self.invariant.1 (ap (λ p. p.settled) c.self.view_is ∙ c.requires.settled) in
    let few : length c.append.new.pending.items ≤ 1024 =
    omega (arith, c.if-len-gt-MOST.false, c.len.ensures.value) in (
      omega (arith, held.0),
      λ unset. (held.0, few, λ none. absurd (both_ways _ (ap is_some none) c.if-is_none.ensures)),
      rw c.append.ensures (All-append (λ (x : Pending). IsOfSystem x.content) q.pending.items
          (c.args.part.now ∷ []) c.self.invariant.2
          (All-cons (λ (x : Pending). IsOfSystem x.content) c.args.part.now [] c.requires.system
          (All-nil (λ (x : Pending). IsOfSystem x.content)))),
    )

pub returns-then-is_none-clause-comes : goal.returns-then-is_none-clause-comes
returns-then-is_none-clause-comes c = λ more before says number.
    let q = c.self.inside in
    let held = c.self.invariant.1 (ap (λ p. p.settled) c.self.view_is ∙ c.requires.settled) in
    put_untimed more c.args.self.now q.pending.items c.append.new.pending.items q.taken q.time
    c.args.part.now before says
    (queue_is c.args.self.now q.pending.items q.taken q.time q.settled c.self.view_is
    c.requires.settled held.0)
    held.0 c.append.ensures number c.if-is_none.ensures

pub returns-else-is_none-clause-comes : goal.returns-else-is_none-clause-comes
returns-else-is_none-clause-comes c = λ more before says number.
    let q = c.self.inside in
    let unset = ap (λ p. p.settled) c.self.view_is ∙ c.requires.settled in
    let held = c.self.invariant.1 unset in
    put_waits more c.args.self.now q.pending.items c.append.new.pending.items q.taken q.time
    c.args.part.now before says
    (queue_is c.args.self.now q.pending.items q.taken q.time q.settled c.self.view_is
    c.requires.settled held.0)
    held.0 c.append.ensures number q.settled unset
