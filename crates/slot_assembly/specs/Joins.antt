-- Merging and replacing slots by their starts, as the code does.
use Rattle.std.specs.Prelude.{◌≡◌, ℕ, Bool, true, false, ◌==◌, List, Option, None, Some}
use Rattle.std.specs.Option.{option_map, option_copied}
use denote.Ref.{Bor}
use Rattle.slot_assembly.specs.declared.order.Rank.{Rank}
use Rattle.slot_assembly.specs.declared.order.ByStart.{ByStart}
use Rattle.slot_assembly.specs.declared.order.ByEnd.{ByEnd}
use Rattle.slot_assembly.specs.declared.slot.Slot.{Slot}
use Rattle.slot_assembly.specs.declared.slot.PackedSlot.{PackedSlot}
use Rattle.slot_assembly.specs.declared.slot.Held.{Held}
use Rattle.slot_assembly.specs.Order.{by_end, by_start}
use Rattle.slot_assembly.specs.Slots.{slot_of, slot_with, at_of, kept_at, HasEnd, IsChanged, AreSameSlots, IsLastTouched}

-- the slot after a reference
abbrev pub packed_in : Option (Bor PackedSlot) → Option Slot
packed_in r = option_map slot_of (option_copied r)

-- the start of a slot
abbrev pub start_in : Option Slot → Option ℕ
start_in o = option_map (λ s. s.start) o

-- the key's slot with a start, if there is one
abbrev pub kept_from : List (ByStart × Held) → Rank → Option ℕ → Option Slot
kept_from slots r None = None
kept_from slots r (Some a) = kept_at slots (by_start r a)

-- the start of the last slot that is touched
pub record IsTouchedFrom (slots : List (ByStart × Held)) (r : Rank) (bound stamp window : ℕ) (start : Option ℕ) : Type 0 where
  pub slot : Option Slot
  pub touched : IsLastTouched slots r bound stamp window slot
  pub starts : start ≡ start_in slot

-- the start of the slot before the first, if there is a first
abbrev pub IsSecondFrom : List (ByStart × Held) → Rank → ℕ → ℕ → Option ℕ → Option ℕ → Type 0
IsSecondFrom slots r stamp window None second = second ≡ None
IsSecondFrom slots r stamp window (Some a) second = IsTouchedFrom slots r a stamp window second

-- the slot at a place, if there is one, is merged with another
abbrev pub IsMergedAt : List (ByStart × Held) → ByStart → Slot → List (ByStart × Held) → Type 0
IsMergedAt old x one new = IsChanged old x (option_map (λ s. slot_with s (Some one)) (kept_at old x)) new

-- the slot at a place is removed, unless the flag is set
abbrev pub IsGoneUnlessAt : Bool → List (ByStart × Held) → ByStart → List (ByStart × Held) → Type 0
IsGoneUnlessAt true old x new = AreSameSlots old new
IsGoneUnlessAt false old x new = IsChanged old x None new

-- the slot of the key with the first start is removed, unless both starts are equal
abbrev pub IsWithoutStart : List (ByStart × Held) → Rank → Option ℕ → ℕ → List (ByStart × Held) → Type 0
IsWithoutStart old r None a new = AreSameSlots old new
IsWithoutStart old r (Some f) a new = IsGoneUnlessAt (f == a) old (by_start r f) new

-- the slot is inserted, and those of its key with two other starts are removed
pub record IsPutForStarts (old : List (ByStart × Held)) (r : Rank) (slot : Slot) (first second : Option ℕ) (new : List (ByStart × Held)) : Type 0 where
  pub put : List (ByStart × Held)
  pub one : List (ByStart × Held)
  pub has : IsChanged old (at_of slot) (Some slot) put
  pub without_first : IsWithoutStart put r first slot.start one
  pub without_second : IsWithoutStart one r second slot.start new

-- an end of the place is taken from the list, if there is one and it is not to stay
pub record IsUnlisted (old : List ByEnd) (x : ByStart) (was stays : Option ℕ) (new : List ByEnd) : Type 0 where
  pub only : (y : ByEnd) → HasEnd new y → HasEnd old y × ((e : ℕ) → was ≡ Some e → y ≡ by_end x e → stays ≡ Some e)
  pub keeps : (y : ByEnd) → HasEnd old y → ((e : ℕ) → was ≡ Some e → y ≡ by_end x e → stays ≡ Some e) → HasEnd new y
