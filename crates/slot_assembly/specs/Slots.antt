-- The stored slots, and their changes.
use Rattle.std.specs.Prelude.{◌≡◌, ℕ, ◌+◌, ◌-◌, ◌<◌, ◌≤◌, ◌⊎◌, Bool, true, false, cond, ◌==◌, List, [], ◌∷◌, Option, None, Some, IsSome, IfSome, IsTrue, min, max}
use Rattle.std.specs.List.{list_any}
use Rattle.std.specs.Option.{option_map}
use Rattle.std.specs.BTreeMap.{is_at}
use Rattle.std.specs.BTreeMap.Range.{IsLeBy}
use Rattle.std.specs.Map.{lookup}
use Rattle.nav_eph.specs.declared.part.Part.{Part}
use Rattle.periods.specs.declared.key.PeriodId.{PeriodId}
use Rattle.periods.specs.Parts.{key_of}
use Rattle.periods.specs.Periods.{IsBefore}
use Rattle.periods.specs.DigestsOf.{digest_of, digest_join}
use Rattle.slot_assembly.specs.declared.order.Rank.{Rank}
use Rattle.slot_assembly.specs.declared.order.ByStart.{ByStart}
use Rattle.slot_assembly.specs.declared.order.ByEnd.{ByEnd}
use Rattle.slot_assembly.specs.declared.slot.Slot.{Slot}
use Rattle.slot_assembly.specs.declared.slot.PackedSlot.{PackedSlot}
use Rattle.slot_assembly.specs.declared.slot.Held.{Held}
use Rattle.slot_assembly.specs.declared.slot.PackedSlot.TheVariants.{Ephemeris, Ionosphere}
use Rattle.periods.specs.declared.digest.Digest.TheVariants.{Ion as IonForm}
use Rattle.slot_assembly.specs.contracts.order.ByStartOrd.TheImpl.{cmp-value as start_cmp}
use Rattle.slot_assembly.specs.contracts.order.ByEndOrd.TheImpl.{cmp-value as end_cmp}
use Rattle.slot_assembly.specs.Order.{rank_of, by_start, by_end, start_place}

-- the unpacked slot: of an ephemeris from its box, of an ionosphere with its earliest transmission
abbrev pub slot_of : PackedSlot → Slot
slot_of (Ephemeris boxed) = boxed.value
slot_of (Ionosphere s) = record { key = s.key; start = s.start; end = s.end; digest = IonForm s.transmission }

-- the slot stored at a place
abbrev pub kept_at : List (ByStart × Held) → ByStart → Option Slot
kept_at slots x = option_map (λ h. slot_of h.packed) (lookup (is_at (start_cmp.it x)) slots)

-- the end by which the slot at a place is listed
abbrev pub listed_at : List (ByStart × Held) → ByStart → Option ℕ
listed_at slots x = option_map (λ h. h.listed) (lookup (is_at (start_cmp.it x)) slots)

-- the place of a slot
abbrev pub at_of : Slot → ByStart
at_of s = by_start (rank_of s.key) s.start

-- the end and key of a slot's period
abbrev pub slot_place : Slot → PeriodId
slot_place s = record { end = s.end; key = s.key }

-- the slot is stored
abbrev pub IsOpen : List (ByStart × Held) → Slot → Type 0
IsOpen slots s = kept_at slots (at_of s) ≡ Some s

-- the list of ends has the place
abbrev pub HasEnd : List ByEnd → ByEnd → Type 0
HasEnd ends y = IsTrue (list_any (is_at (end_cmp.it y)) ends)

-- the list has an end of the place that is not after the true one
pub record IsListed (ends : List ByEnd) (x : ByStart) (end : ℕ) : Type 0 where
  pub e : ℕ
  pub by : e ≤ end
  pub has : HasEnd ends (by_end x e)

-- each slot is at its place and in the list, by an end that may be earlier than its own; and the
-- list has nothing else
pub record AreIndexed (slots : List (ByStart × Held)) (ends : List ByEnd) : Type 0 where
  pub own : (x : ByStart) (s : Slot) → kept_at slots x ≡ Some s → x ≡ at_of s
  pub listed : (x : ByStart) (s : Slot) → kept_at slots x ≡ Some s → IsListed ends x s.end
  pub has : (y : ByEnd) → HasEnd ends y → listed_at slots (start_place y) ≡ Some y.end

-- the slot of one part
pub record IsOneSlot (p : Part) (s : Slot) : Type 0 where
  pub key : key_of p ≡ Some s.key
  pub digest : digest_of p ≡ Some s.digest
  pub start : s.start ≡ p.stamp
  pub end : s.end ≡ p.stamp

-- the slot of one part; none for health, which has no key
abbrev pub IsOne : Part → Option Slot → Type 0
IsOne p None = key_of p ≡ None
IsOne p (Some s) = IsOneSlot p s

-- a slot merged with another of its key, if there is one
abbrev pub slot_with : Slot → Option Slot → Slot
slot_with s None = s
slot_with s (Some o) = record { key = s.key; start = min s.start o.start; end = max s.end o.end; digest = digest_join s.digest o.digest }

-- the slot of a part, merged into the first slot that it touches
abbrev pub merged : Option Slot → Slot → Slot
merged None one = one
merged (Some f) one = slot_with f (Some one)

-- the key's last slot that starts below a bound
pub record IsLastSlot (slots : List (ByStart × Held)) (r : Rank) (bound : ℕ) (s : Slot) : Type 0 where
  pub here : kept_at slots (by_start r s.start) ≡ Some s
  pub below : s.start < bound
  pub last : (a : ℕ) → IsSome (kept_at slots (by_start r a)) → a < bound → a ≤ s.start

-- that slot, or none
abbrev pub IsSlotBelow : List (ByStart × Held) → Rank → ℕ → Option Slot → Type 0
IsSlotBelow slots r bound None = (a : ℕ) → IsSome (kept_at slots (by_start r a)) → bound ≤ a
IsSlotBelow slots r bound (Some s) = IsLastSlot slots r bound s

-- the key's last slot that starts below a bound, if the time tag is at most a window after its end
abbrev pub IsLastTouched : List (ByStart × Held) → Rank → ℕ → ℕ → ℕ → Option Slot → Type 0
IsLastTouched slots r bound stamp window None = (o : Option Slot) × IsSlotBelow slots r bound o × IfSome o (λ s. s.end + window < stamp)
IsLastTouched slots r bound stamp window (Some s) = IsLastSlot slots r bound s × (stamp ≤ s.end + window)

-- the slot before the first, if the first starts after the time tag
abbrev pub IsSecondTouched : List (ByStart × Held) → Rank → ℕ → ℕ → Option Slot → Option Slot → Type 0
IsSecondTouched slots r stamp window None second = second ≡ None
IsSecondTouched slots r stamp window (Some s) second = ((s.start ≤ stamp) × (second ≡ None)) ⊎ IsLastTouched slots r s.start stamp window second

-- the slot at one place is replaced or removed; all else is the same
abbrev pub IsChanged : List (ByStart × Held) → ByStart → Option Slot → List (ByStart × Held) → Type 0
IsChanged old x w new = (q : ByStart) → kept_at new q ≡ cond (is_at (start_cmp.it x) q) w (kept_at old q)

-- the end by which the slot at one place is listed is another, or none; all else is the same
abbrev pub IsRelisted : List (ByStart × Held) → ByStart → Option ℕ → List (ByStart × Held) → Type 0
IsRelisted old x w new = (q : ByStart) → listed_at new q ≡ cond (is_at (start_cmp.it x) q) w (listed_at old q)

-- the slots are listed by the same ends
abbrev pub AreListedAlike : List (ByStart × Held) → List (ByStart × Held) → Type 0
AreListedAlike old new = (q : ByStart) → listed_at new q ≡ listed_at old q

-- the same slots are stored at every place
abbrev pub AreSameSlots : List (ByStart × Held) → List (ByStart × Held) → Type 0
AreSameSlots old new = (q : ByStart) → kept_at new q ≡ kept_at old q

-- the slot is removed, unless the flag is set
abbrev pub IsGoneUnless : Bool → List (ByStart × Held) → Slot → List (ByStart × Held) → Type 0
IsGoneUnless true old s new = AreSameSlots old new
IsGoneUnless false old s new = IsChanged old (at_of s) None new

-- the slot, if there is one, is removed, unless it has the start a
abbrev pub IsWithout : List (ByStart × Held) → Option Slot → ℕ → List (ByStart × Held) → Type 0
IsWithout old None a new = AreSameSlots old new
IsWithout old (Some s) a new = IsGoneUnless (s.start == a) old s new

-- the slot is inserted, and the first and second are removed
pub record IsReplaced (old : List (ByStart × Held)) (slot : Slot) (first second : Option Slot) (new : List (ByStart × Held)) : Type 0 where
  pub put : List (ByStart × Held)
  pub one : List (ByStart × Held)
  pub has : IsChanged old (at_of slot) (Some slot) put
  pub without_first : IsWithout put first slot.start one
  pub without_second : IsWithout one second slot.start new

-- a part is merged with the one or two slots of its key that lie within the window, and the slot replaces them
pub record IsTaken (old : List (ByStart × Held)) (p : Part) (window : ℕ) (new : List (ByStart × Held)) : Type 0 where
  pub one : Slot
  pub first : Option Slot
  pub second : Option Slot
  pub is_one : IsOneSlot p one
  pub is_first : IsLastTouched old (rank_of one.key) (p.stamp + window + 1) p.stamp window first
  pub is_second : IsSecondTouched old (rank_of one.key) p.stamp window first second
  pub replaced : IsReplaced old (slot_with (merged first one) second) first second new

-- the first end in the list, if it is below a limit
abbrev pub IsFirstEnd : List ByEnd → ℕ → Option ByEnd → Type 0
IsFirstEnd ends limit None = (z : ByEnd) → HasEnd ends z → limit ≤ z.end
IsFirstEnd ends limit (Some y) = HasEnd ends y × (y.end < limit) × ((z : ByEnd) → HasEnd ends z → IsLeBy end_cmp.it y z)

-- how far the ends in the list are below a limit, together
abbrev pub lag : ℕ → List ByEnd → ℕ
lag limit [] = 0
lag limit (y ∷ ys) = (limit - y.end) + lag limit ys

-- the first slot in the order of periods
pub record IsFirstOpen (slots : List (ByStart × Held)) (s : Slot) : Type 0 where
  pub here : IsOpen slots s
  pub least : (t : Slot) → IsOpen slots t → IsBefore (slot_place t) (slot_place s) → ⊥

-- the first slot in order, if its end plus the window is below the watermark
abbrev pub IsFirstDue : List (ByStart × Held) → ℕ → ℕ → Option Slot → Type 0
IsFirstDue slots window watermark None = (s : Slot) → IsOpen slots s → watermark ≤ s.end + window
IsFirstDue slots window watermark (Some s) = IsFirstOpen slots s × (s.end + window < watermark)

-- the place of that slot
abbrev pub IsFirstDueAt : List (ByStart × Held) → ℕ → ℕ → Option ByStart → Type 0
IsFirstDueAt slots window watermark None = IsFirstDue slots window watermark None
IsFirstDueAt slots window watermark (Some x) = (s : Slot) × (kept_at slots x ≡ Some s) × IsFirstDue slots window watermark (Some s)
