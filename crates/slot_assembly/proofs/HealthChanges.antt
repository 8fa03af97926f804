-- The index of health stays consistent.
use Rattle.std.proofs.Common.{◌≡◌, ℕ, ◌<◌, ◌≤◌, ◌+◌, ◌*◌, ◌⊎◌, Bool, true, cond, List, None, Some, sym, ap, ◌∙◌}
use Rattle.std.specs.List.{list_any}
use Rattle.std.specs.List.Sorted.{IsStrictlySortedBy}
use Rattle.std.specs.BTreeMap.{is_at}
use Rattle.std.specs.Map.{keys_of}
use Rattle.nav_eph.specs.Satellite.{Satellite}
use Rattle.nav_eph.specs.declared.galileo.GalHealth.{GalHealth}
use Rattle.nav_eph.specs.declared.tag.SentTag.{SentTag}
use Rattle.slot_assembly.specs.declared.order.BySat.{BySat}
use Rattle.slot_assembly.specs.declared.order.ByStamp.{ByStamp}
use Rattle.slot_assembly.specs.contracts.order.BySatOrd.TheImpl.{cmp-value as sat_cmp}
use Rattle.slot_assembly.specs.contracts.order.ByStampOrd.TheImpl.{cmp-value as stamp_cmp}
use Rattle.slot_assembly.specs.Order.{by_stamp, sat_place, place_of_health}
use Rattle.slot_assembly.specs.Healths.{received_at, AreStamped, IsReceivedChanged}
use Rattle.slot_assembly.proofs.SatOrder.{same_stamp, received_is}
use Rattle.slot_assembly.proofs.Changes.{put_own, put_some, put_true}

-- a health with its stamp, and those that are kept
abbrev pub Health : Type 0
Health = ℕ × GalHealth × SentTag

abbrev pub ReceivedList : Type 0
ReceivedList = List (BySat × Health)

pub stamped_put : (heard heard' : ReceivedList) (stamps stamps' : List ByStamp) (sat : Satellite) (h : Health) → AreStamped heard stamps
    → IsStrictlySortedBy sat_cmp.it (keys_of heard') → IsStrictlySortedBy stamp_cmp.it stamps' → IsReceivedChanged heard (place_of_health sat h) (Some h) heard'
    → ((k : ByStamp) → list_any (is_at (stamp_cmp.it k)) stamps' ≡ cond (is_at (stamp_cmp.it (by_stamp (place_of_health sat h))) k) true (list_any (is_at (stamp_cmp.it k)) stamps)) → AreStamped heard' stamps'
stamped_put heard heard' stamps stamps' sat h k o o' c d =
    let p = place_of_health sat h in
    record {
      ordered = o;
      in_order = o';
      own = λ x v e. put_own (λ (w : Health). (t : Satellite) × (x ≡ place_of_health t w)) (is_at (sat_cmp.it p) x) (received_at heard' x) (received_at heard x) h v (c x) (λ f. (sat, sym (received_is p x f))) (k.own x v) e;
      has = λ x e. put_some (is_at (sat_cmp.it p) (sat_place x)) (list_any (is_at (stamp_cmp.it x)) stamps') (list_any (is_at (stamp_cmp.it x)) stamps) (received_at heard' (sat_place x)) (received_at heard (sat_place x)) h
          (d x ∙ ap (λ (b : Bool). cond b true (list_any (is_at (stamp_cmp.it x)) stamps)) (sym (same_stamp p x))) (c (sat_place x)) (k.has x) e;
      had = λ x e. put_true (is_at (sat_cmp.it p) x) (list_any (is_at (stamp_cmp.it (by_stamp x))) stamps') (list_any (is_at (stamp_cmp.it (by_stamp x))) stamps) (received_at heard' x) (received_at heard x) h
          (d (by_stamp x) ∙ ap (λ (b : Bool). cond b true (list_any (is_at (stamp_cmp.it (by_stamp x))) stamps)) (sym (same_stamp p (by_stamp x)))) (c x) (k.had x) e;
    }

-- what two windows leave, while the oldest are removed
pub record IsThinned (window watermark : ℕ) (old new : ReceivedList) : Type 0 where
  pub low : (x : BySat) → x.stamp + 2 * window < watermark → (received_at new x ≡ received_at old x) ⊎ (received_at new x ≡ None)
  pub stays : (x : BySat) → watermark ≤ x.stamp + 2 * window → received_at new x ≡ received_at old x
