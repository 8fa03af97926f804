use Rattle.std.proofs.Common.{sym, ◌∙◌}
use Rattle.nav_lists.proofs.HeldLemmas.{add_later, add_new, add_sooner}
use Rattle.nav_lists.proofs.merge.Merge.add.Goals as goal
use Rattle.nav_lists.proofs.merge.Merge.add.Goals.{in-Some-1, in-None-1}

pub returns-in_ok-insert-in-None-clause-ok : goal.returns-in_ok-insert-in-None-clause-ok
returns-in_ok-insert-in-None-clause-ok c =
    add_new c.args.self.now c.self.inside.held.keys c.insert.new.self.keys c.args.item.now c.in_ok-key.key c.in_ok-key.ensures c.self.view_is c.len-count.ensures.ordered
    (sym c.in-None.ensures.key) c.in_ok-insert-in-None.ensures.keys

pub returns-in_ok-replace-in-Some-clause-ok : goal.returns-in_ok-replace-in-Some-clause-ok
returns-in_ok-replace-in-Some-clause-ok c =
    let h = add_sooner c.args.self.now c.self.inside.held.keys c.replace.new.self.keys c.args.item.now c.in_ok-key.key c.in-Some.known.now c.item.result.now c.is_earlier.result
    c.in_ok-key.ensures c.item.ensures c.self.view_is c.len-count.ensures.ordered (sym c.in-Some.ensures.key) c.is_earlier.ensures c.if-is_earlier.true c.in_ok-replace-in-Some.ensures.keys in
    elim c.match-branch-4.branch [ in-Some-1 w ↦ w.self-is ∙ h | in-None-1 w ↦ w.self-is ∙ h ]

pub returns-else-is_earlier-clause-ok : goal.returns-else-is_earlier-clause-ok
returns-else-is_earlier-clause-ok c =
    add_later c.args.self.now c.self.inside.held.keys c.args.item.now c.in_ok-key.key c.in-Some.known.now c.item.result.now c.is_earlier.result
    c.in_ok-key.ensures c.item.ensures c.self.view_is c.len-count.ensures.ordered (sym c.in-Some.ensures.key) c.is_earlier.ensures c.if-is_earlier.false
