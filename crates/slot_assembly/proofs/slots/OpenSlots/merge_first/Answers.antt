use Rattle.std.proofs.Common.{◌≡◌, ap, sym, ◌∙◌}
use Rattle.slot_assembly.specs.declared.slot.Slot.{Slot}
use Rattle.slot_assembly.specs.Order.{rank_of}
use Rattle.slot_assembly.specs.Slots.{slot_of}
use Rattle.slot_assembly.proofs.PartLemmas.{kept_rank}
use Rattle.slot_assembly.proofs.slots.OpenSlots.merge_first.Goals as goal

pub returns-in_ok-packed-in-Some-clause-rank : goal.returns-in_ok-packed-in-Some-clause-rank
returns-in_ok-packed-in-Some-clause-rank c =
    let touched = slot_of c.in-Some.touched.now in
    let is : touched ≡ slot_of c.in_ok-packed-in-Some.packed = sym c.slot.ensures ∙ sym c.in_ok-packed-in-Some.ensures in
    kept_rank c.args.self.now.slots.entries c.args.self.now.ends.keys c.args.rank c.args.first touched c.requires.indexed (sym c.in-Some.ensures)
    ∙ ap (λ (s : Slot). rank_of s.key) is ∙ ap (λ (s : Slot). rank_of s.key) (sym (c.add_part.ensures c.args.one c.requires.one))
