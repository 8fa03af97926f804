use Rattle.std.proofs.Common.{◌≡◌, ◌+◌, ap, sym, subst, ◌∙◌}
use Rattle.periods.proofs.Surface.{some_is}
use Rattle.slot_assembly.specs.declared.order.Rank.{Rank}
use Rattle.slot_assembly.specs.Joins.{IsPutForStarts, IsTouchedFrom}
use Rattle.slot_assembly.specs.Order.{rank_of}
use Rattle.slot_assembly.specs.Slots.{slot_of, IsTaken}
use Rattle.slot_assembly.proofs.PartLemmas.{joined, on_ok}
use Rattle.slot_assembly.proofs.slots.OpenSlots.join.Goals as goal

pub returns-clause-ok : goal.returns-clause-ok
returns-clause-ok c =
    let old = c.args.self.now.slots.entries in
    let new = c.replace.new.self.slots.entries in
    let p = c.args.part.now in
    let rank = c.rank_of_key-rank.result in
    let one = c.in-Some.one in
    let second = c.second_from-second.result in
    let first = slot_of c.in_ok-packed.packed in
    let both = slot_of c.add_second.new.packed in
    let is : rank ≡ rank_of one.key = c.rank_of_key-rank.ensures ∙ ap rank_of (some_is c.args.key.now one.key (sym c.requires.key ∙ c.in-Some.ensures.key)) in
    on_ok c.replace.result (IsPutForStarts old rank both c.args.first second new) (IsTaken old p c.args.window new)
    (joined old new c.args.self.now.ends.keys p one first both c.args.window rank c.args.first second c.requires.indexed is c.in-Some.ensures
    (subst (λ (x : Rank). IsTouchedFrom old x (p.stamp + c.args.window + 1) p.stamp c.args.window c.args.first) (sym c.rank_of_key-rank.ensures) c.requires.first)
    c.second_from-second.ensures c.in_ok-packed.ensures.slot c.add_second.ensures) c.replace.ensures.ok
