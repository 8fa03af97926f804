use Rattle.std.proofs.Common.{ap, sym, subst, ◌∙◌}
use Rattle.std.specs.Option.{option_map}
use Rattle.std.specs.BTreeMap.Range.{IsLtBy}
use Rattle.slot_assembly.specs.declared.order.ByStart.{ByStart}
use Rattle.slot_assembly.specs.declared.slot.Held.{Held}
use Rattle.slot_assembly.specs.contracts.order.ByStartOrd.TheImpl.{cmp-value as start_cmp}
use Rattle.slot_assembly.specs.Slots.{slot_of}
use Rattle.slot_assembly.proofs.Changes.{packed_some}
use Rattle.slot_assembly.proofs.PartLemmas.{found_last, other_last}
use Rattle.slot_assembly.proofs.slots.OpenSlots.last_below.Goals as goal

pub returns-then-is_of : goal.returns-then-is_of
returns-then-is_of c =
    let place = c.in_ok-place.place.now in
    let held = c.in_ok-place.held.now in
    let range = c.range.ensures.in_range tt in
    let here = range.3 (place, held) c.next_back.new.self c.in_ok-place.ensures.steps in
    found_last c.args.self.now.slots.entries c.args.self.now.ends.keys c.args.rank c.args.bound place (slot_of held.packed) c.requires.indexed (ap (option_map (λ (h : Held). slot_of h.packed)) here.1)
    (subst (λ (x : ByStart). IsLtBy start_cmp.it place x) c.at_start.ensures here.0.1) (sym c.is_of.ensures ∙ c.if-is_of.true)
    (λ y l i. range.4 (place, held) c.next_back.new.self c.in_ok-place.ensures.steps y (tt, subst (λ (x : ByStart). IsLtBy start_cmp.it y x) (sym c.at_start.ensures) l) (packed_some _ i))

pub returns-else-is_of : goal.returns-else-is_of
returns-else-is_of c =
    let place = c.in_ok-place.place.now in
    let held = c.in_ok-place.held.now in
    let range = c.range.ensures.in_range tt in
    let here = range.3 (place, held) c.next_back.new.self c.in_ok-place.ensures.steps in
    other_last c.args.self.now.slots.entries c.args.rank c.args.bound place (subst (λ (x : ByStart). IsLtBy start_cmp.it place x) c.at_start.ensures here.0.1) (sym c.is_of.ensures ∙ c.if-is_of.false)
    (λ y l i. range.4 (place, held) c.next_back.new.self c.in_ok-place.ensures.steps y (tt, subst (λ (x : ByStart). IsLtBy start_cmp.it y x) (sym c.at_start.ensures) l) (packed_some _ i))
