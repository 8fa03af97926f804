-- The page parts that `Halves` stores.
use Rattle.std.specs.Prelude.{◌≡◌, ℕ, ◌+◌, ◌%◌, ◌≤◌, ◌⊎◌, List, Contains}
use Rattle.nav_eph.specs.Satellite.{Satellite}
use Rattle.nav_eph.specs.declared.signal.Signal.{Signal}
use Rattle.inav.specs.Received.{StampedHalf}

-- what contracts see: the window in seconds, the greatest time tag taken (0 before the first), the
-- stored page parts, and all allocated ones: those stored, and those too old but not freed yet
pub record Keeping : Type 0 where
  pub window : ℕ
  pub greatest : ℕ
  pub kept : List StampedHalf
  pub held : List StampedHalf

-- a page part with its time tag, satellite and signal
abbrev pub stamped : ℕ → Satellite → Signal → ℕ → StampedHalf
stamped stamp sat signal half = record { stamp = stamp; sat = sat; signal = signal; half = half }

-- the time tag is at most the window plus one second below the greatest time tag
abbrev pub IsRecent : ℕ → ℕ → StampedHalf → Type 0
IsRecent window greatest half = greatest ≤ half.stamp + window + 1

-- what is stored after a page part was taken: of those stored before and this one, the recent ones
abbrev pub IsKeptWith : Keeping → StampedHalf → ℕ → StampedHalf → Type 0
IsKeptWith old taken greatest half = (Contains old.kept half ⊎ (taken ≡ half)) × IsRecent old.window greatest half

-- in each slot of the ring buffer (the time tags with equal remainder modulo window + 2) the
-- allocated page parts have one time tag
abbrev pub HoldsOneSecond : Keeping → Type 0
HoldsOneSecond keeping = (one other : StampedHalf) → Contains keeping.held one → Contains keeping.held other
    → one.stamp % (keeping.window + 2) ≡ other.stamp % (keeping.window + 2) → one.stamp ≡ other.stamp

-- what contracts see of the words of a page part: the words, in order, and their time tag
pub record Words : Type 0 where
  pub words : List (List ℕ)
  pub stamp : ℕ
