-- Which ephemerides are sent, in which slots, and the text of all of them.
use Rattle.std.specs.Prelude.{ℕ, ◌+◌, ◌%◌, Bool, true, false, not, ◌&&◌, nat_eq, nat_le, if◌then◌else◌}
use Rattle.std.specs.Prelude.{List, [], ◌∷◌, ◌++◌, codes, Option, None, Some}
use Rattle.nav_eph.specs.Functions.{near_galileo, near_gps}
use Rattle.nav_eph.specs.declared.items.NavItem.{NavItem}
use Rattle.nav_eph.specs.declared.items.NavItem.TheVariants.{Gps, Gal, Ion}
use Rattle.capture_lines.specs.declared.item.LineItem.{LineItem}
use Rattle.sent_captures.specs.declared.fault.SendFault.{SendFault}
use Rattle.sent_captures.specs.declared.fault.SendFault.TheVariants.{Issue, Week, Room}
use Rattle.sent_captures.specs.Slots.{slot_items, text_of_items}

-- the item is an ephemeris
abbrev pub IsEphemeris : NavItem → Type 0
IsEphemeris (Gps e) = Unit {0}
IsEphemeris (Gal e) = Unit {0}
IsEphemeris (Ion e) = ⊥

abbrev pub is_ephemeris : NavItem → Bool
is_ephemeris (Gps e) = true
is_ephemeris (Gal e) = true
is_ephemeris (Ion e) = false

-- IODC and IODE of GPS are of different issues: the low eight bits of IODC differ from IODE
abbrev pub has_other_issue : NavItem → Bool
has_other_issue (Gps e) = not (nat_eq (e.clock.iodc % 256) e.a.iode)
has_other_issue (Gal e) = false
has_other_issue (Ion e) = false

-- the transmitted week number does not resolve to the week of toe near the week r
abbrev pub is_far : ℕ → NavItem → Bool
is_far r (Gps e) = not (near_gps r e.toe_week)
is_far r (Gal e) = not (near_galileo r e.toe_week)
is_far r (Ion e) = false

-- the slot's time tags do not fit in 32 bits; those of 198,842 slots do
abbrev pub is_full : ℕ → Bool
is_full slot = nat_le 198842 slot

-- the first of the three that holds
abbrev pub first_fault : Bool → Bool → Bool → Option SendFault
first_fault issue week room =
    if issue then Some Issue else if week then Some Week else if room then Some Room else None

-- why an ephemeris may not be sent in a slot near the week r, if so
abbrev pub send_fault : ℕ → NavItem → ℕ → Option SendFault
send_fault r item slot = first_fault (has_other_issue item) (is_far r item) (is_full slot)

-- there is no reason against sending
abbrev pub no_fault : Option SendFault → Bool
no_fault None = true
no_fault (Some fault) = false

abbrev pub is_sent : ℕ → NavItem → ℕ → Bool
is_sent r item slot = is_ephemeris item && no_fault (send_fault r item slot)

-- the items that are sent, the first having this slot; one that may not be sent takes no slot
abbrev pub sendable : ℕ → ℕ → List NavItem → List NavItem
sendable r slot [] = []
sendable r slot (x ∷ xs) =
    if is_sent r x slot then x ∷ sendable r (slot + 1) xs else sendable r slot xs

-- what is sent of them, slot by slot
abbrev pub slots_items : ℕ → List NavItem → List LineItem
slots_items slot [] = []
slots_items slot (x ∷ xs) = slot_items slot x ++ slots_items (slot + 1) xs

-- the first line of a capture
abbrev pub sent_head : List ℕ
sent_head = codes "NAVCAP 1" ++ 10 ∷ []

-- what is sent of a list of items
abbrev pub sent_lines : ℕ → List NavItem → List LineItem
sent_lines r items = slots_items 0 (sendable r 0 items)

-- the text that is sent of a list of items, near the week r
unfoldable pub sent_text : ℕ → List NavItem → List ℕ
sent_text r items = sent_head ++ text_of_items (sent_lines r items)
