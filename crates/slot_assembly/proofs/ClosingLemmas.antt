-- A period of which a kind of part is missing: its verdict is known without a finding, and nothing is stored.
use Rattle.std.proofs.Common.{◌≡◌, ℕ, List, Option, Some, IfSome, refl, sym, ap, subst, ◌∙◌}
use Rattle.nav_eph.specs.declared.galileo.GalHealth.{GalHealth}
use Rattle.nav_eph.specs.declared.tag.SentTag.{SentTag}
use Rattle.nav_eph.specs.declared.items.NavItem.{NavItem}
use Rattle.periods.specs.declared.key.PeriodKey.{PeriodKey}
use Rattle.periods.specs.declared.key.PeriodKey.TheVariants.{Gps, Gal, GpsIon, GalIon}
use Rattle.periods.specs.declared.closed.Closed.{Closed}
use Rattle.periods.specs.declared.closed.Finding.{Finding}
use Rattle.periods.specs.declared.closed.Finding.TheVariants.{Misses}
use Rattle.periods.specs.declared.closed.Verdict.TheVariants.{Partial}
use Rattle.periods.specs.DigestsOf.{digest_finding}
use Rattle.periods.proofs.Surface.{some_is}
use Rattle.slot_assembly.specs.declared.order.Rank.{Rank}
use Rattle.slot_assembly.specs.declared.order.ByStart.{ByStart}
use Rattle.slot_assembly.specs.declared.slot.Held.{Held}
use Rattle.slot_assembly.specs.declared.slot.Slot.{Slot}
use Rattle.slot_assembly.specs.Closing.{IsClosedBy, closed_by}
use Rattle.slot_assembly.specs.Order.{rank_of}
use Rattle.slot_assembly.specs.Slots.{kept_at, IsFirstDue, IsFirstDueAt}
use Rattle.slot_assembly.specs.SlotStanding.{IsRemembered, item_to_keep, known_for}

nothing_kept : (known : List (Rank × NavItem)) (key : PeriodKey) → IsRemembered known (rank_of key) (item_to_keep key Misses) known
nothing_kept known (Gps sat issue) = λ x. refl
nothing_kept known (Gal sat issue) = λ x. refl
nothing_kept known (GpsIon content) = λ x. refl
nothing_kept known (GalIon content) = λ x. refl

pub closed_partial : (slot : Slot) (r : ℕ) (health : Option (ℕ × GalHealth × SentTag)) (known : List (Rank × NavItem)) (closed : Option Closed) → digest_finding r slot.key slot.digest health ≡ Misses
    → closed ≡ Some (record { end = slot.end; key = slot.key; verdict = Partial }) → IsClosedBy slot r health known known closed
closed_partial slot r health known closed e is = record {
  remembered = subst (λ (f : Finding). IsRemembered known (rank_of slot.key) (item_to_keep slot.key f) known) (sym e) (nothing_kept known slot.key);
  given = is ∙ ap (λ (f : Finding). Some (closed_by slot (known_for slot.key known) f)) (sym e);
}

-- what holds of the one that there is
pub if_given : (closed : Option Closed) (one : Closed) (P : Closed → Type 0) → closed ≡ Some one → P one → IfSome closed P
if_given closed one P e h = subst (λ (o : Option Closed). IfSome o P) (sym e) h

-- the slot at the place of the first due one is that one
pub first_at : (slots : List (ByStart × Held)) (window watermark : ℕ) (x : ByStart) (slot : Slot) → IsFirstDueAt slots window watermark (Some x) → kept_at slots x ≡ Some slot → IsFirstDue slots window watermark (Some slot)
first_at slots window watermark x slot due here =
    subst (λ (t : Slot). IsFirstDue slots window watermark (Some t)) (some_is due.0 slot (sym due.1 ∙ here)) due.2
