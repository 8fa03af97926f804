use Rattle.std.proofs.Common.{ℕ, ◌≤◌, sym, subst, ◌∙◌}
use Rattle.slot_assembly.specs.contracts.slotted.SlotAssembly.{the_view}
use Rattle.slot_assembly.specs.SlotStanding.{SlotsState, SlotsStandFor}
use Rattle.slot_assembly.proofs.StandLemmas.{stands_slots, stands_healths, stands_taken, stands_heard}
use Rattle.slot_assembly.proofs.slotted.SlotAssemblyAssembly.take.Goals as goal

pub returns-in-Err-clause-err : goal.returns-in-Err-clause-err
returns-in-Err-clause-err c = λ at h.
    stands_slots (the_view c.self.inside) at c.take.new.self.slots.entries c.take.new.self.ends.keys c.in-Err.ensures.err c.in-Err.ensures.indexed (subst (λ (s : SlotsState). SlotsStandFor s at) (sym c.self.view_is) h)

pub returns-in-Ok-clause-ok : goal.returns-in-Ok-clause-ok
returns-in-Ok-clause-ok c = λ at h.
    let l = subst (λ (m : ℕ). m ≤ c.args.part.now.stamp) (sym c.requires.1.at_watermark ∙ h.at_watermark) c.requires.2 in
    stands_taken (the_view c.self.inside) at c.args.part.now c.take.new.self.slots.entries c.take.new.self.ends.keys (subst (λ (s : SlotsState). SlotsStandFor s at) (sym c.self.view_is) h) l c.note_value.ensures
    c.in-Ok.ensures.ok c.in-Ok.ensures.indexed

pub returns-in-Err-take-clause-err : goal.returns-in-Err-take-clause-err
returns-in-Err-take-clause-err c = λ at h.
    stands_healths (the_view c.self.inside) at c.take-in-None.new.self.heard.entries c.take-in-None.new.self.stamps.keys c.in-Err-take.ensures.err c.in-Err-take.ensures.stamped (subst (λ (s : SlotsState). SlotsStandFor s at) (sym c.self.view_is) h)

pub returns-in-Ok-take-clause-ok : goal.returns-in-Ok-take-clause-ok
returns-in-Ok-take-clause-ok c = λ at h.
    let l = subst (λ (m : ℕ). m ≤ c.args.part.now.stamp) (sym c.requires.1.at_watermark ∙ h.at_watermark) c.requires.2 in
    stands_heard (the_view c.self.inside) at c.args.part.now c.take-in-None.new.self.heard.entries c.take-in-None.new.self.stamps.keys (subst (λ (s : SlotsState). SlotsStandFor s at) (sym c.self.view_is) h) l c.note_value.ensures (sym c.in-None.ensures)
    c.in-Ok-take.ensures.ok c.in-Ok-take.ensures.stamped
