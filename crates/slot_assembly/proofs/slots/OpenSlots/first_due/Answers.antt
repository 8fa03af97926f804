use Rattle.std.proofs.Common.{◌≡◌, Some, arith, ap, sym, subst, ◌∙◌}
use Rattle.slot_assembly.specs.Slots.{IsFirstEnd, kept_at, slot_of}
use Rattle.slot_assembly.proofs.PartLemmas.{due_none, due_some}
use Rattle.slot_assembly.proofs.slots.OpenSlots.first_due.Goals as goal

pub returns-then-end-place-clause-first : goal.returns-then-end-place-clause-first
returns-then-end-place-clause-first c =
    let slots = c.moving.self.slots.entries in
    let place = c.in-Some.place in
    let s = slot_of c.in-Some-slot_at.packed.now in
    let here : kept_at slots c.by_key-by_key.result ≡ Some s = sym c.in-Some-slot_at.ensures in (
      s,
      here,
      due_some slots c.moving.self.ends.keys c.args.window c.args.watermark c.saturating_sub-limit.result place s c.moving.invariant.indexed c.saturating_sub-limit.ensures c.in-Some.ensures
          (ap (kept_at slots) (sym c.by_key-by_key.ensures) ∙ here) (omega (arith, c.if-end-place.true, c.end-end.ensures)),
    )

pub returns-clause-first : goal.returns-clause-first
returns-clause-first c =
    let ends = c.moving.self.ends.keys in
    let limit = c.saturating_sub-limit.result in
    due_none c.moving.self.slots.entries ends c.args.window c.args.watermark limit c.moving.invariant.indexed c.saturating_sub-limit.ensures
    (subst (IsFirstEnd ends limit) c.in_default.is c.first_end.ensures)
