use Rattle.std.proofs.Common.{sym, ◌∙◌}
use Rattle.nav_lists.proofs.RankedHeldLemmas.{add_first, add_later, add_new}
use Rattle.nav_lists.proofs.list.RankedList.add.Goals as goal
use Rattle.nav_lists.proofs.list.RankedList.add.Goals.{in-Some-1, in-None-1}

pub returns-in_ok-insert-in-None-clause-ok : goal.returns-in_ok-insert-in-None-clause-ok
returns-in_ok-insert-in-None-clause-ok g c =
    add_new g.K.Ord.cmp g.K.Ranked.choice g.met.K.Ord.total g.met.K.Ranked.choice_total
    c.args.self.now c.self.inside.held.keys c.insert.new.self.keys c.args.value
    c.self.view_is c.len-count.ensures.ordered (sym c.in-None.ensures.key) c.in_ok-insert-in-None.ensures.keys

pub returns-in_ok-replace-in-Some-clause-ok : goal.returns-in_ok-replace-in-Some-clause-ok
returns-in_ok-replace-in-Some-clause-ok g c =
    let h = add_first g.K.Ord.cmp g.K.Ranked.choice g.met.K.Ord.total g.met.K.Ranked.choice_total
    c.args.self.now c.self.inside.held.keys c.replace.new.self.keys c.args.value c.in-Some.known.now c.choice.result c.is_lt.result
    c.self.view_is c.len-count.ensures.ordered (sym c.in-Some.ensures.key) c.choice.ensures c.is_lt.ensures c.if-is_lt.true c.in_ok-replace-in-Some.ensures.keys in
    elim c.match-branch-3.branch [ in-Some-1 w ↦ w.self-is ∙ h | in-None-1 w ↦ w.self-is ∙ h ]

pub returns-else-is_lt-clause-ok : goal.returns-else-is_lt-clause-ok
returns-else-is_lt-clause-ok g c =
    add_later g.K.Ord.cmp g.K.Ranked.choice g.met.K.Ord.total g.met.K.Ranked.choice_total
    c.args.self.now c.self.inside.held.keys c.args.value c.in-Some.known.now c.choice.result c.is_lt.result
    c.self.view_is c.len-count.ensures.ordered (sym c.in-Some.ensures.key) c.choice.ensures c.is_lt.ensures c.if-is_lt.false
