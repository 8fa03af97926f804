use Rattle.std.proofs.Common.{◌≡◌, true, cond, Some, subst, ap, ◌∙◌}
use Rattle.std.specs.List.{list_any}
use Rattle.std.specs.BTreeMap.{is_at}
use Rattle.slot_assembly.specs.declared.order.BySat.{BySat}
use Rattle.slot_assembly.specs.declared.order.ByStamp.{ByStamp}
use Rattle.slot_assembly.specs.contracts.order.ByStampOrd.TheImpl.{cmp-value as stamp_cmp}
use Rattle.slot_assembly.specs.Order.{by_stamp}
use Rattle.slot_assembly.specs.Healths.{IsReceivedChanged}
use Rattle.slot_assembly.proofs.HealthChanges.{stamped_put}
use Rattle.slot_assembly.proofs.healths.Healths.put.Goals as goal

pub returns-in-Ok-clause-stamped : goal.returns-in-Ok-clause-stamped
returns-in-Ok-clause-stamped c =
    stamped_put _ _ _ _ c.args.sat c.args.health c.requires.stamped c.insert-2.ensures.ordered c.insert.ensures.ordered
    (subst (λ (x : BySat). IsReceivedChanged c.args.self.now.heard.entries x (Some c.args.health) c.insert-2.new.self.entries) c.place_of_received-place.ensures c.in-Ok.ensures.updates.0)
    (subst (λ (x : ByStamp). (k : ByStamp) → list_any (is_at (stamp_cmp.it k)) c.insert.new.self.keys ≡ cond (is_at (stamp_cmp.it x) k) true (list_any (is_at (stamp_cmp.it k)) c.args.self.now.stamps.keys))
    (c.among_all-stamp.ensures ∙ ap by_stamp c.place_of_received-place.ensures) c.in_ok-insert.ensures.updates.0)
