use Rattle.std.proofs.Common.{◌≡◌, inl, inr, List, Some, arith, ap, sym, subst, ◌∙◌}
use Rattle.std.specs.Option.{option_map}
use Rattle.periods.proofs.Surface.{some_is}
use Rattle.slot_assembly.specs.declared.order.ByStart.{ByStart}
use Rattle.slot_assembly.specs.declared.order.ByEnd.{ByEnd}
use Rattle.slot_assembly.specs.declared.slot.Held.{Held}
use Rattle.slot_assembly.specs.Order.{by_end, by_start, start_place}
use Rattle.slot_assembly.specs.Slots.{AreIndexed, HasEnd, IsChanged, at_of, listed_at, slot_of}
use Rattle.slot_assembly.proofs.Changes.{has_added, has_more, has_put, has_was, indexed_back, indexed_put, packed_changed, relisted}
use Rattle.slot_assembly.proofs.slots.OpenSlots.put.Goals as goal

pub returns-in-Ok-clause-indexed : goal.returns-in-Ok-clause-indexed
returns-in-Ok-clause-indexed c =
    let old = c.args.self.now.slots.entries in
    let new = c.insert-2.new.self.entries in
    let ends = c.args.self.now.ends.keys in
    let mid = c.insert.new.self.keys in
    let left = c.unlist.new.self.ends.keys in
    let slot = slot_of c.args.packed in
    let place = c.at_start-place.result in
    let end = c.end-end.result in
    let more = c.at_end-listed.result in
    let adds = c.in_ok-insert.ensures.updates.0 in
    let held : Held = record { listed = end; packed = c.args.packed } in
    let at : place ≡ at_of slot = c.at_start-place.ensures ∙ (λ i. by_start (c.requires.rank i) (c.start.ensures i)) in
    let is : by_end place end ≡ by_end (at_of slot) slot.end = λ i. by_end (at i) (c.end-end.ensures i) in
    let was : c.listed_in.result ≡ listed_at old place = c.listed_in.ensures ∙ ap (option_map (λ (h : Held). h.listed)) c.in-Ok.ensures.old in
    let stays : HasEnd left (by_end place end) = c.unlist.ensures.ends.keeps (by_end place end) (subst (HasEnd mid) c.at_end-listed.ensures (has_added ends mid more adds)) (λ e w n. ap (λ (y : ByEnd). Some y.end) n) in
    subst (λ (xs : List (ByStart × Held)). AreIndexed xs left) (sym c.unlist.ensures.same)
    (indexed_put old new ends left slot c.requires.indexed (subst (λ (x : ByStart). IsChanged old x (Some slot) new) at (packed_changed old new place (Some held) c.in-Ok.ensures.updates.0))
    (record { e = slot.end; by = omega arith; has = subst (HasEnd left) is stays })
    (λ y m n. c.unlist.ensures.ends.keeps y (has_more ends mid more y adds m) (λ e w k. absurd (n (sym (ap start_place k ∙ at)))))
    (has_put old new ends left place end c.requires.indexed (relisted old new place (Some held) c.in-Ok.ensures.updates.0) (λ y m.
    let o = c.unlist.ensures.ends.only y m in (
      elim (has_was ends mid more y adds o.0) [ inl e ↦ inl (sym e ∙ c.at_end-listed.ensures) | inr i ↦ inr i ],
      λ k w. sym (some_is end y.end (o.1 y.end (was ∙ w) (ap (λ (x : ByStart). by_end x y.end) k))),
    ))))

pub returns-in-Err-clause-indexed : goal.returns-in-Err-clause-indexed
returns-in-Err-clause-indexed c =
    let old = c.args.self.now.slots.entries in
    let left = c.remove.new.self.keys in
    subst (λ (xs : List (ByStart × Held)). AreIndexed xs left) (sym c.in-Err.ensures.err)
    (indexed_back old c.args.self.now.ends.keys c.insert.new.self.keys left c.at_end-listed.result c.requires.indexed c.in_ok-insert.ensures.updates.0 c.remove.ensures.updates.0
    (ap (listed_at old) (ap start_place c.at_end-listed.ensures) ∙ ap (option_map (λ (h : Held). h.listed)) c.in-Err.ensures.absent))
