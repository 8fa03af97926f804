-- The keys of page parts that the ring buffer of seconds holds between two calls.
use Rattle.std.specs.Prelude.{◌≡◌, ℕ, ◌+◌, ◌%◌, ◌≤◌, ◌⊎◌, ◌↔◌, ◌++◌, List, [], ◌∷◌, length, nat_lt, Some, slice_get, nat_eq, if◌then◌else◌, Contains}
use Rattle.inav.specs.declared.second.Second.{Second}
use Rattle.inav.specs.declared.seconds.Seconds.{Seconds}
use Rattle.inav.specs.Keeping.{IsRecent}
use Rattle.inav.specs.Mirrors.{half_of, IsKey}

-- the keys of a second, if it has that time tag
abbrev pub keys_of : ℕ → Second → List (ℕ × ℕ)
keys_of stamp second = if nat_eq second.stamp stamp then second.keys else []

-- the keys of a second, unless it is too old
abbrev pub recent_keys : ℕ → ℕ → Second → List (ℕ × ℕ)
recent_keys window greatest second = if nat_lt (second.stamp + window + 1) greatest then [] else second.keys

-- the keys of those seconds that are not too old
abbrev pub keys_among : ℕ → ℕ → List Second → List (ℕ × ℕ)
keys_among window greatest [] = []
keys_among window greatest (second ∷ seconds) = recent_keys window greatest second ++ keys_among window greatest seconds

-- the stored keys of the ring buffer
abbrev pub keys_in : Seconds → List (ℕ × ℕ)
keys_in seconds = keys_among seconds.window seconds.greatest seconds.places.items

-- the keys of all seconds, also of those too old
abbrev pub keys_held : List Second → List (ℕ × ℕ)
keys_held [] = []
keys_held (second ∷ seconds) = second.keys ++ keys_held seconds

-- the key may be in a second at a slot: it has its time tag, which is at most the greatest, and the
-- slot is that of the time tag
pub record IsKeyAt (window greatest place stamp : ℕ) (key : ℕ × ℕ) : Type 0 where
  pub is_key : IsKey key
  pub stamp_is : (half_of key).stamp ≡ stamp
  pub place_is : place ≡ stamp % (window + 2)
  pub early : stamp ≤ greatest

-- each key of the ring buffer has the time tag and slot of its second
abbrev pub ArePlaced : ℕ → ℕ → List Second → Type 0
ArePlaced window greatest seconds = (place : ℕ) (second : Second) → slice_get seconds place ≡ Some second
    → (key : ℕ × ℕ) → Contains second.keys key → IsKeyAt window greatest place second.stamp key

-- the ring buffer is valid: its window is at most 14,400 seconds, and its keys have their slots
pub record AreSeconds (seconds : Seconds) : Type 0 where
  pub small : seconds.window ≤ 14400
  pub placed : ArePlaced seconds.window seconds.greatest seconds.places.items

-- the keys are exactly those of one time tag among all
abbrev pub IsSecondOf : List (ℕ × ℕ) → ℕ → List (ℕ × ℕ) → Type 0
IsSecondOf all stamp keys = ((key : ℕ × ℕ) → Contains keys key ↔ (Contains all key × ((half_of key).stamp ≡ stamp))) × (length keys ≤ length all)

-- the new seconds have the same stored keys as the old, and keep them in valid slots
abbrev pub KeepsKeys : List Second → List Second → Type 0
KeepsKeys old new = (window greatest : ℕ) → (keys_among window greatest new ≡ keys_among window greatest old)
    × (ArePlaced window greatest old → ArePlaced window greatest new)

-- a key was inserted: of the keys before and this one the recent ones are stored, at most one more than before
abbrev pub PutsKey : Seconds → ℕ × ℕ → Seconds → Type 0
PutsKey old key new = ((other : ℕ × ℕ) → Contains (keys_in new) other
    ↔ ((Contains (keys_in old) other ⊎ (key ≡ other)) × IsRecent old.window new.greatest (half_of other)))
    × (length (keys_in new) ≤ length (keys_in old) + 1)

-- a key was inserted: no keys are allocated but those before and this one, at most one more than before
abbrev pub HoldsKey : Seconds → ℕ × ℕ → Seconds → Type 0
HoldsKey old key new = ((other : ℕ × ℕ) → Contains (keys_held new.places.items) other
    → Contains (keys_held old.places.items) other ⊎ (key ≡ other))
    × (length (keys_held new.places.items) ≤ length (keys_held old.places.items) + 1)
