use Rattle.std.proofs.Common.{◌≡◌, ℕ, List, All}
use Rattle.nav_eph.specs.Ranges.{IsItem}
use Rattle.nav_eph.specs.declared.items.NavItem.{NavItem}
use Rattle.periods.proofs.Surface.{In-from_contains}
use Rattle.periods.specs.PeriodLists.{items_in}
use Rattle.periods.specs.PeriodsOf.{periods_of}
use Rattle.sent_captures.specs.Sendable.{sendable}
use Rattle.sent_captures.specs.SentItems.{sent_items}
use Rattle.nav_laws.specs.SlotParts.{slots_parts}
use Rattle.nav_laws.proofs.Circle.{slots_come_back}
use Rattle.nav_laws.proofs.Sendable.{are_sent, in_slots, values_in}
use Rattle.nav_laws.proofs.laws.parts_of_slots_come_back.Goals as goal

come_back : (r : ℕ) (items : List NavItem) → All IsItem items → items_in (periods_of r 7200 (slots_parts 0 (sendable r 0 items))) ≡ sent_items r items
unfolding sent_items
come_back r items all =
    let xs = sendable r 0 items in
    let h = in_slots r 0 items all in
    slots_come_back r xs (λ p i. values_in r 0 xs p h (In-from_contains (slots_parts 0 xs) p i)) (are_sent r 0 xs h)

pub returns : goal.returns
returns c = λ r items all. come_back r items all
