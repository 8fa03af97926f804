use Rattle.std.proofs.Common.{◌≡◌, List, Some, arith, ap, sym, subst, ◌∙◌}
use Rattle.slot_assembly.specs.declared.order.ByStart.{ByStart}
use Rattle.slot_assembly.specs.declared.order.ByEnd.{ByEnd}
use Rattle.slot_assembly.specs.Order.{by_end, start_place}
use Rattle.slot_assembly.specs.Slots.{IsRelisted}
use Rattle.slot_assembly.proofs.Changes.{Adds, has_more, indexed_moved}
use Rattle.slot_assembly.proofs.Lags.{lag_moved}
use Rattle.slot_assembly.proofs.slots.OpenSlots.move_on.Goals as goal

pub returns-clause-indexed : goal.returns-clause-indexed
returns-clause-indexed c =
    let old = c.args.self.now.slots.entries in
    let new = c.list_at.new.self.slots.entries in
    let ends = c.args.self.now.ends.keys in
    let mid = c.list_at.new.self.ends.keys in
    let is : c.at_end.result ≡ by_end (start_place c.args.place) c.args.end = c.at_end.ensures ∙ ap (λ (x : ByStart). by_end x c.args.end) c.by_key-by_key.ensures in
    let adds = subst (λ (ks : List ByEnd). Adds ends c.at_end.result ks) (sym c.list_at.ensures.ends) c.in_ok-insert.ensures.updates.0 in
    indexed_moved old new ends mid c.remove.new.self.keys c.args.place c.args.end c.requires.indexed c.requires.there c.requires.later c.requires.slot
    (subst (λ (y : ByEnd). Adds ends y mid) is adds) c.remove.ensures.updates.0 c.list_at.ensures.same
    (subst (λ (x : ByStart). IsRelisted old x (Some c.args.end) new) c.by_key-by_key.ensures c.list_at.ensures.listed)

pub returns-clause-lag : goal.returns-clause-lag
returns-clause-lag c = λ limit l.
    let ends = c.args.self.now.ends.keys in
    let mid = c.list_at.new.self.ends.keys in
    let more = c.at_end.result in
    let adds = subst (λ (ks : List ByEnd). Adds ends more ks) (sym c.list_at.ensures.ends) c.in_ok-insert.ensures.updates.0 in
    let end : more.end ≡ c.args.end = ap (λ (y : ByEnd). y.end) c.at_end.ensures in
    lag_moved limit ends mid c.remove.new.self.keys c.args.place more (has_more ends mid more c.args.place adds c.requires.there) (c.list_at.ensures.ends ∙ c.in_ok-insert.ensures.keys) c.remove.ensures.keys
    (omega (arith, end, c.requires.later)) l
