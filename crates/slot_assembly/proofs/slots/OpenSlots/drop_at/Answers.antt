use Rattle.std.proofs.Common.{◌≡◌, ℕ, List, Option, None, ap, sym, subst, ◌∙◌}
use Rattle.std.specs.Option.{option_map}
use Rattle.slot_assembly.specs.declared.order.ByStart.{ByStart}
use Rattle.slot_assembly.specs.declared.slot.Held.{Held}
use Rattle.slot_assembly.specs.Joins.{IsUnlisted}
use Rattle.slot_assembly.specs.Slots.{AreIndexed, listed_at}
use Rattle.slot_assembly.proofs.Changes.{indexed_drop, packed_changed, relisted}
use Rattle.slot_assembly.proofs.slots.OpenSlots.drop_at.Goals as goal

pub returns-clause-indexed : goal.returns-clause-indexed
returns-clause-indexed c =
    let old = c.args.self.now.slots.entries in
    let new = c.remove-old.new.self.entries in
    let ends = c.args.self.now.ends.keys in
    let left = c.unlist.new.self.ends.keys in
    let place = c.args.place in
    let was : c.listed_in.result ≡ listed_at old place = c.listed_in.ensures ∙ ap (option_map (λ (h : Held). h.listed)) c.remove-old.ensures.value in
    subst (λ (xs : List (ByStart × Held)). AreIndexed xs left) (sym c.unlist.ensures.same)
    (indexed_drop old new ends left place c.requires.indexed (packed_changed old new place None c.remove-old.ensures.updates.0) (relisted old new place None c.remove-old.ensures.updates.0)
    (subst (λ (o : Option ℕ). IsUnlisted ends place o None left) was c.unlist.ensures.ends))
