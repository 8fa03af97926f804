use Rattle.std.proofs.Common.{ap, sym, ◌∙◌}
use Rattle.periods.proofs.Surface.{some_is}
use Rattle.slot_assembly.specs.Order.{by_end}
use Rattle.slot_assembly.proofs.Changes.{has_left, has_stays}
use Rattle.slot_assembly.proofs.slots.OpenSlots.unlist.Goals as goal

pub returns-else-is_end-clause-ends : goal.returns-else-is_end-clause-ends
returns-else-is_end-clause-ends c =
    let old = c.args.self.now.ends.keys in
    let new = c.remove.new.self.keys in
    let gone = c.at_end.result in
    record {
      only = λ y m.
          let l = has_left old new gone y c.remove.ensures.updates.0 m in
          (l.1, λ e w n. absurd (l.0 (c.at_end.ensures ∙ ap (by_end c.args.place) (some_is c.in-Some.end e (sym c.in-Some.is ∙ w)) ∙ sym n)));
      keeps = λ y m n. has_stays old new gone y c.remove.ensures.updates.0 m (λ e. c.is_end.ensures.no c.if-is_end.false (n c.in-Some.end c.in-Some.is (sym e ∙ c.at_end.ensures)));
    }
