-- What closes with a slot, as the code does it.
use Rattle.std.specs.Prelude.{◌≡◌, ℕ, List, Option, Some}
use Rattle.nav_eph.specs.declared.galileo.GalHealth.{GalHealth}
use Rattle.nav_eph.specs.declared.tag.SentTag.{SentTag}
use Rattle.nav_eph.specs.declared.items.NavItem.{NavItem}
use Rattle.periods.specs.declared.closed.Closed.{Closed}
use Rattle.periods.specs.declared.closed.Finding.{Finding}
use Rattle.periods.specs.DigestsOf.{digest_finding, verdict_of}
use Rattle.slot_assembly.specs.declared.order.Rank.{Rank}
use Rattle.slot_assembly.specs.declared.slot.Slot.{Slot}
use Rattle.slot_assembly.specs.Order.{rank_of}
use Rattle.slot_assembly.specs.SlotStanding.{IsRemembered, item_to_keep, known_for}

-- the period of a slot, with the verdict on its finding
abbrev pub closed_by : Slot → Option NavItem → Finding → Closed
closed_by slot before finding = record { end = slot.end; key = slot.key; verdict = verdict_of before finding }

-- the period of a slot is given, and its item stored for later comparison if it is that of a
-- complete ephemeris
pub record IsClosedBy (slot : Slot) (r : ℕ) (health : Option (ℕ × GalHealth × SentTag)) (old new : List (Rank × NavItem)) (closed : Option Closed) : Type 0 where
  pub remembered : IsRemembered old (rank_of slot.key) (item_to_keep slot.key (digest_finding r slot.key slot.digest health)) new
  pub given : closed ≡ Some (closed_by slot (known_for slot.key old) (digest_finding r slot.key slot.digest health))
