-- The state of the slot assembly, and what it represents.
use Rattle.std.specs.Prelude.{◌≡◌, ℕ, ◌+◌, ◌*◌, ◌≤◌, cond, List, length, Option, None, Some, IsSome, All, Contains}
use Rattle.std.specs.List.Sorted.{IsStrictlySortedBy}
use Rattle.std.specs.BTreeMap.{is_at}
use Rattle.std.specs.Map.{keys_of, lookup}
use Rattle.nav_eph.specs.Satellite.{Satellite}
use Rattle.nav_eph.specs.Values.{IsPartValue}
use Rattle.nav_eph.specs.declared.galileo.GalHealth.{GalHealth}
use Rattle.nav_eph.specs.declared.tag.SentTag.{SentTag}
use Rattle.nav_eph.specs.declared.items.NavItem.{NavItem}
use Rattle.nav_eph.specs.declared.part.Part.{Part}
use Rattle.periods.specs.declared.key.PeriodKey.{PeriodKey}
use Rattle.periods.specs.declared.key.PeriodKey.TheVariants.{Gps, Gal, GpsIon, GalIon}
use Rattle.periods.specs.declared.key.PeriodId.{PeriodId}
use Rattle.periods.specs.declared.closed.Finding.{Finding}
use Rattle.periods.specs.Digests.{IsDigest}
use Rattle.periods.specs.DigestsOf.{item_of}
use Rattle.periods.specs.Parts.{HealthOf, HasValue}
use Rattle.periods.specs.Periods.{IsPeriod, IsMember}
use Rattle.periods.specs.PeriodsOf.{end_place}
use Rattle.periods.specs.Verdicts.{IsOfEphemeris, IsComplete}
use Rattle.slot_assembly.specs.Given.{GivenBelow}
use Rattle.slot_assembly.specs.Standing.{Standing, IsAfter, NoneDue}
use Rattle.slot_assembly.specs.declared.order.Rank.{Rank}
use Rattle.slot_assembly.specs.declared.order.ByEnd.{ByEnd}
use Rattle.slot_assembly.specs.declared.order.ByStart.{ByStart}
use Rattle.slot_assembly.specs.declared.order.BySat.{BySat}
use Rattle.slot_assembly.specs.declared.order.ByStamp.{ByStamp}
use Rattle.slot_assembly.specs.declared.slot.Slot.{Slot}
use Rattle.slot_assembly.specs.declared.slot.Held.{Held}
use Rattle.slot_assembly.specs.contracts.order.RankOrd.TheImpl.{cmp-value as rank_cmp}
use Rattle.slot_assembly.specs.Order.{rank_of, place_of_health}
use Rattle.slot_assembly.specs.Slots.{IsOpen, slot_place, AreIndexed}
use Rattle.slot_assembly.specs.Healths.{received_at, AreStamped}

-- the item to store for later comparison: that of a complete ephemeris
abbrev pub item_to_keep : PeriodKey → Finding → Option NavItem
item_to_keep (Gps sat issue) finding = item_of finding
item_to_keep (Gal sat issue) finding = item_of finding
item_to_keep (GpsIon content) finding = None
item_to_keep (GalIon content) finding = None

-- the state of the assembly, as contracts see it
pub record SlotsState : Type 0 where
  -- the reference week near which week numbers are resolved
  pub reference : ℕ
  -- how long after a part another one of its key may belong to the same period
  pub window : ℕ
  -- the slots, each at its place by key and start
  pub slots : List (ByStart × Held)
  -- an end of each slot, which may be earlier than its own
  pub ends : List ByEnd
  -- the health, each at its place by satellite
  pub heard : List (BySat × (ℕ × GalHealth × SentTag))
  -- the places of the health, by time tag
  pub stamps : List ByStamp
  -- the greatest watermark given
  pub watermark : ℕ
  -- the last period given
  pub last : Option PeriodId
  -- the greatest watermark at which no period was due
  pub none_at : ℕ
  -- the item of the last complete period given, of each ephemeris
  pub known : List (Rank × NavItem)

-- the slot is that of an open period: key, end, time tag of the first member, and digest of the
-- members
pub record IsSlot (window : ℕ) (parts : Part → Type 0) (last : Option PeriodId) (slot : Slot) : Type 0 where
  pub period : IsPeriod window parts (slot_place slot)
  pub after : IsAfter last (slot_place slot)
  pub starts : (p : Part) × IsMember window parts (slot_place slot) p × (p.stamp ≡ slot.start)
  pub start : (p : Part) → IsMember window parts (slot_place slot) p → slot.start ≤ p.stamp
  pub digest : IsDigest slot.key (IsMember window parts (slot_place slot)) slot.digest

-- exactly one slot for each period after the last one given
pub record AreSlots (window : ℕ) (parts : Part → Type 0) (last : Option PeriodId) (slots : List (ByStart × Held)) : Type 0 where
  pub each : (s : Slot) → IsOpen slots s → IsSlot window parts last s
  pub every : (q : PeriodId) → IsPeriod window parts q → IsAfter last q → (s : Slot) × IsOpen slots s × (slot_place s ≡ q)

-- exactly the health whose time tag plus two windows is at or above the watermark
pub record AreKept (window watermark : ℕ) (parts : Part → Type 0) (heard : List (BySat × (ℕ × GalHealth × SentTag))) : Type 0 where
  pub was_received : (x : BySat) (h : ℕ × GalHealth × SentTag) → received_at heard x ≡ Some h → (sat : Satellite) × HasValue (HealthOf sat) parts h × (x ≡ place_of_health sat h)
  pub recent : (x : BySat) → IsSome (received_at heard x) → watermark ≤ x.stamp + 2 * window
  pub every : (sat : Satellite) (h : ℕ × GalHealth × SentTag) → HasValue (HealthOf sat) parts h → watermark ≤ h.0 + 2 * window → received_at heard (place_of_health sat h) ≡ Some h

-- the item stored for a key
abbrev pub known_at : List (Rank × NavItem) → Rank → Option NavItem
known_at known r = lookup (is_at (rank_cmp.it r)) known

-- the item that one of the key is compared with; none for an ionosphere
abbrev pub known_for : PeriodKey → List (Rank × NavItem) → Option NavItem
known_for (Gps sat issue) known = known_at known (rank_of (Gps sat issue))
known_for (Gal sat issue) known = known_at known (rank_of (Gal sat issue))
known_for (GpsIon content) known = None
known_for (GalIon content) known = None

-- the same items are stored for every key
abbrev pub AreSameItems : List (Rank × NavItem) → List (Rank × NavItem) → Type 0
AreSameItems old new = (x : Rank) → known_at new x ≡ known_at old x

-- the item, if there is one, is stored in place of the one before
abbrev pub IsRemembered : List (Rank × NavItem) → Rank → Option NavItem → List (Rank × NavItem) → Type 0
IsRemembered old r None new = AreSameItems old new
IsRemembered old r (Some item) new = (x : Rank) → known_at new x ≡ cond (is_at (rank_cmp.it r) x) (Some item) (known_at old x)

-- the period was given: it is not after the last one given
abbrev pub IsGiven : Option PeriodId → PeriodId → Type 0
IsGiven last place = IsAfter last place → ⊥

-- the item of the key's last complete period given
pub record IsLastGiven (r window : ℕ) (parts : Part → Type 0) (last : Option PeriodId) (key : PeriodKey) (item : NavItem) : Type 0 where
  pub ephemeris : IsOfEphemeris key
  pub at : ℕ
  pub complete : IsComplete r window parts key at item
  pub given : IsGiven last (end_place key at)
  pub greatest : (f : ℕ) (other : NavItem) → IsComplete r window parts key f other → IsGiven last (end_place key f) → f ≤ at

-- that item or, for an ephemeris key, that no complete period of it was given
abbrev pub IsKnownGiven : ℕ → ℕ → (Part → Type 0) → Option PeriodId → PeriodKey → Option NavItem → Type 0
IsKnownGiven r window parts last key None = IsOfEphemeris key → (f : ℕ) (item : NavItem) → IsComplete r window parts key f item → IsGiven last (end_place key f) → ⊥
IsKnownGiven r window parts last key (Some item) = IsLastGiven r window parts last key item

-- that item for each ephemeris key, and nothing else
pub record AreKnown (r window : ℕ) (parts : Part → Type 0) (last : Option PeriodId) (known : List (Rank × NavItem)) : Type 0 where
  pub each : (key : PeriodKey) → IsKnownGiven r window parts last key (known_at known (rank_of key))
  pub only : (x : Rank) → IsSome (known_at known x) → (key : PeriodKey) × IsOfEphemeris key × (x ≡ rank_of key)

-- the assembly stores one slot for each open period, the health of the last two windows, the items for comparison, the watermark
-- and the last period given; at `none_at` no period was due
pub record SlotsStandFor (assembly : SlotsState) (at : Standing) : Type 0 where
  pub slots : AreSlots assembly.window (Contains at.parts) at.last assembly.slots
  pub indexed : AreIndexed assembly.slots assembly.ends
  pub kept : AreKept assembly.window assembly.none_at (Contains at.parts) assembly.heard
  pub stamped : AreStamped assembly.heard assembly.stamps
  pub known : AreKnown assembly.reference assembly.window (Contains at.parts) at.last assembly.known
  pub known_ordered : IsStrictlySortedBy rank_cmp.it (keys_of assembly.known)
  pub at_watermark : assembly.watermark ≡ at.watermark
  pub at_last : assembly.last ≡ at.last
  pub given : GivenBelow assembly.window at.watermark at.last
  pub none_due : NoneDue assembly.window (Contains at.parts) assembly.none_at at.last
  pub none_by : assembly.none_at ≤ at.watermark
  pub values : All IsPartValue at.parts

-- the bound on periods still to give: the number of slots
abbrev pub slots_left : SlotsState → ℕ
slots_left s = length s.slots
