use Rattle.std.proofs.Common.{ℕ, ◌≤◌, Contains, Some, None, refl, sym, subst, ◌∙◌}
use Rattle.periods.specs.declared.key.PeriodId.{PeriodId}
use Rattle.periods.specs.DigestsOf.{digest_finding}
use Rattle.slot_assembly.specs.Closing.{closed_by}
use Rattle.slot_assembly.specs.Healths.{IsChosen}
use Rattle.slot_assembly.specs.Standing.{IsNext, giving}
use Rattle.slot_assembly.specs.declared.order.ByStart.{ByStart}
use Rattle.slot_assembly.specs.contracts.slotted.SlotAssembly.{the_view}
use Rattle.slot_assembly.specs.Slots.{IsChanged, IsFirstDueAt, slot_of, slot_place}
use Rattle.slot_assembly.specs.SlotStanding.{SlotsState, SlotsStandFor, known_for}
use Rattle.slot_assembly.proofs.StandLemmas.{stands_known, stands_reached, stands_slots, with_slots}
use Rattle.slot_assembly.proofs.GiveLemmas.{next_is, stands_given}
use Rattle.slot_assembly.proofs.ClosingLemmas.{first_at, if_given}
use Rattle.slot_assembly.proofs.slotted.SlotAssembly.close_next.Goals as goal

pub returns-in-Err-clause-err : goal.returns-in-Err-clause-err
returns-in-Err-clause-err c = λ at h.
    stands_slots (the_view c.self.inside) at c.first_due.new.self.slots.entries c.first_due.new.self.ends.keys c.first_due.ensures.same c.first_due.ensures.indexed (subst (λ (x : SlotsState). SlotsStandFor x at) (sym c.self.view_is) h)

pub returns-in-Err-close_slot-clause-err : goal.returns-in-Err-close_slot-clause-err
returns-in-Err-close_slot-clause-err c = λ at h.
    let s = the_view c.self.inside in
    let slots = c.first_due.new.self.slots.entries in
    let ends = c.first_due.new.self.ends.keys in
    let k = subst (λ (x : SlotsState). SlotsStandFor x at) (sym c.self.view_is) h in
    stands_known (with_slots s slots ends) at c.close_slot.new.known.entries c.in-Err-close_slot.ensures.err c.in-Err-close_slot.ensures.ordered
    (stands_slots s at slots ends c.first_due.ensures.same c.first_due.ensures.indexed k)

pub returns-in-Ok-None-clause-reached : goal.returns-in-Ok-None-clause-reached
returns-in-Ok-None-clause-reached c = λ e at h.
    let s = the_view c.self.inside in
    let slots = c.first_due.new.self.slots.entries in
    let ends = c.first_due.new.self.ends.keys in
    let l = subst (λ (m : ℕ). m ≤ c.args.watermark) (sym c.requires.1.at_watermark ∙ h.at_watermark) c.requires.2 in
    let k = subst (λ (x : SlotsState). SlotsStandFor x at) (sym c.self.view_is) h in
    let due = subst (IsFirstDueAt slots s.window c.args.watermark) c.in-Ok-None.field-0-is c.in-Ok-None.ensures.first in
    stands_reached (with_slots s slots ends) at c.args.watermark c.forget.new.self.heard.entries c.forget.new.self.stamps.keys
    (stands_slots s at slots ends c.first_due.ensures.same c.first_due.ensures.indexed k) l due c.forget.ensures.forgotten c.forget.ensures.stamped

pub returns-in-Ok-clause-next : goal.returns-in-Ok-clause-next
returns-in-Ok-clause-next c = λ e. if_given _ _ _ c.in-Ok.ensures.ok.given (λ at h.
    let s = the_view c.self.inside in
    let slots = c.first_due.new.self.slots.entries in
    let ends = c.first_due.new.self.ends.keys in
    let slot = slot_of c.in-Some.packed.now in
    let health = c.choose-health.result in
    let k = subst (λ (x : SlotsState). SlotsStandFor x at) (sym c.self.view_is) h in
    let due = first_at slots s.window c.args.watermark c.in-Ok-Some.place slot (subst (IsFirstDueAt slots s.window c.args.watermark) c.in-Ok-Some.field-0-is c.in-Ok-Some.ensures.first) (sym c.in-Some.ensures) in
    let chosen = subst (λ (p : PeriodId). IsChosen s.heard s.window p.key p.end health) c.period-period.ensures c.choose-health.ensures in
    subst (λ (x : SlotsState). IsNext x.reference x.window (Contains at.parts) c.args.watermark at.last (closed_by slot (known_for slot.key s.known) (digest_finding s.reference slot.key slot.digest health))) c.self.view_is
    (next_is (with_slots s slots ends) at c.args.watermark slot health (stands_slots s at slots ends c.first_due.ensures.same c.first_due.ensures.indexed k) due chosen))

pub returns-in-Ok-clause-given : goal.returns-in-Ok-clause-given
returns-in-Ok-clause-given c = λ e. if_given _ _ _ c.in-Ok.ensures.ok.given (λ at h.
    let s = the_view c.self.inside in
    let slots = c.first_due.new.self.slots.entries in
    let ends = c.first_due.new.self.ends.keys in
    let left = c.drop_at.new.self.slots.entries in
    let left_ends = c.drop_at.new.self.ends.keys in
    let known = c.close_slot.new.known.entries in
    let slot = slot_of c.in-Some.packed.now in
    let health = c.choose-health.result in
    let l = subst (λ (m : ℕ). m ≤ c.args.watermark) (sym c.requires.1.at_watermark ∙ h.at_watermark) c.requires.2 in
    let k = subst (λ (x : SlotsState). SlotsStandFor x at) (sym c.self.view_is) h in
    let due = first_at slots s.window c.args.watermark c.in-Ok-Some.place slot (subst (IsFirstDueAt slots s.window c.args.watermark) c.in-Ok-Some.field-0-is c.in-Ok-Some.ensures.first) (sym c.in-Some.ensures) in
    let chosen = subst (λ (p : PeriodId). IsChosen s.heard s.window p.key p.end health) c.period-period.ensures c.choose-health.ensures in
    let gone = subst (λ (x : ByStart). IsChanged slots x None left) (c.first_due.ensures.indexed.own c.in-Ok-Some.place slot (sym c.in-Some.ensures)) c.drop_at.ensures.gone in
    subst (λ (q : PeriodId). SlotsStandFor (record { reference = s.reference; window = s.window; slots = left; ends = left_ends; heard = s.heard; stamps = s.stamps; watermark = c.args.watermark; last = Some q; none_at = s.none_at; known = known }) (giving c.args.watermark (slot_place slot) at))
    (sym c.period-period.ensures)
    (stands_given (with_slots s slots ends) at c.args.watermark slot health (digest_finding s.reference slot.key slot.digest health) left left_ends known
    (stands_slots s at slots ends c.first_due.ensures.same c.first_due.ensures.indexed k) l due chosen refl gone c.drop_at.ensures.indexed c.in-Ok.ensures.ok.remembered c.in-Ok.ensures.ordered))
