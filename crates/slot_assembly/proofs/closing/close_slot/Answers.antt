use Rattle.std.proofs.Common.{Some, refl, ◌∙◌}
use Rattle.periods.specs.declared.closed.Verdict.TheVariants.{Partial}
use Rattle.slot_assembly.specs.Slots.{slot_of}
use Rattle.slot_assembly.proofs.ClosingLemmas.{closed_partial}
use Rattle.slot_assembly.proofs.closing.close_slot.Goals as goal

pub returns-then-lacks_parts-clause-ok : goal.returns-then-lacks_parts-clause-ok
returns-then-lacks_parts-clause-ok c =
    let slot = slot_of c.args.packed.now in
    closed_partial slot c.args.r c.args.health c.args.known.now.entries c.put_partial.new.into (c.if-lacks_parts.ensures refl c.args.r slot.key c.args.health)
    (c.put_partial.ensures ∙ (λ i. Some (record { end = c.end.ensures i; key = c.key.ensures i; verdict = Partial })))
