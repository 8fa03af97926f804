use Rattle.std.proofs.Common.{ℕ, ◌+◌, List, Option, arith, ap, sym, subst, ◌∙◌}
use Rattle.slot_assembly.specs.declared.order.ByStart.{ByStart}
use Rattle.slot_assembly.specs.declared.order.ByEnd.{ByEnd}
use Rattle.slot_assembly.specs.Joins.{IsMergedAt, IsTouchedFrom}
use Rattle.slot_assembly.specs.Order.{rank_of}
use Rattle.slot_assembly.specs.Slots.{AreIndexed}
use Rattle.slot_assembly.proofs.PartLemmas.{added, indexed_merged, one_slot_of}
use Rattle.slot_assembly.proofs.slots.OpenSlots.take.Goals as goal

pub returns-then-start-part-clause-indexed : goal.returns-then-start-part-clause-indexed
returns-then-start-part-clause-indexed c =
    let old = c.args.self.now.slots.entries in
    let new = c.merge_at.new.self.slots.entries in
    let ends = c.args.self.now.ends.keys in
    let one = one_slot_of c.args.part.now c.args.key.now c.requires.key in
    subst (λ (ys : List ByEnd). AreIndexed new ys) (sym c.merge_at.ensures.ends)
    (indexed_merged old new ends c.at_start.result one.0 c.requires.indexed (omega (arith, ap (λ (x : ByStart). x.start) c.at_start.ensures, c.if-start-part.true, one.1.start)) (c.merge_at.ensures.merged one.0 one.1) c.merge_at.ensures.alike)

pub returns-then-start-part-clause-ok : goal.returns-then-start-part-clause-ok
returns-then-start-part-clause-ok c =
    let old = c.args.self.now.slots.entries in
    let new = c.merge_at.new.self.slots.entries in
    let p = c.args.part.now in
    let rank = c.rank_of_key-rank.result in
    let one = one_slot_of p c.args.key.now c.requires.key in
    added old new c.args.self.now.ends.keys p one.0 c.args.window rank c.in-Some.start c.requires.indexed (c.rank_of_key-rank.ensures ∙ ap rank_of (sym one.2)) one.1
    (subst (λ (o : Option ℕ). IsTouchedFrom old rank (p.stamp + c.args.window + 1) p.stamp c.args.window o) c.in-Some.is c.touched_from-first.ensures) c.if-start-part.true
    (subst (λ (x : ByStart). IsMergedAt old x one.0 new) c.at_start.ensures (c.merge_at.ensures.merged one.0 one.1))
