-- The times for which there is an ephemeris, as a list of ranges.
use Rattle.std.specs.Prelude.{◌≡◌, ℕ, ◌<◌, ◌⊎◌, List, [], ◌∷◌}
use Rattle.std.specs.List.{Contains, filter_map, fold}
use Rattle.std.specs.BTreeSet.{insert_key}
use Rattle.nav_eph.specs.Items.{galileo_toe_moment, gps_toe_moment}
use Rattle.nav_eph.specs.Satellite.{Satellite, IsBefore}
use Rattle.nav_eph.specs.declared.items.NavItem.{NavItem}
use Rattle.nav_eph.specs.declared.items.NavItem.TheVariants.{Gps, Gal, Ion}
use Rattle.nav_lists.specs.declared.range.CoverRange.{CoverRange}
use Rattle.nav_lists.specs.Ranges.{InRange, around, half_of, by_place, span_of, joined}

-- an ephemeris covers the seconds around its toe: three hours before and after if the GPS fit
-- interval flag is 1, else two; an ionosphere covers none
abbrev pub CoversSecond : NavItem → Satellite → ℕ → Type 0
CoversSecond (Gps e) sat m = InRange (around e.sat (gps_toe_moment e) (half_of e.fit)) sat m
CoversSecond (Gal e) sat m = InRange (around e.sat (galileo_toe_moment e) 7200) sat m
CoversSecond (Ion e) sat m = ⊥

-- some of the items covers the second
abbrev pub AreCovering : (NavItem → Type 0) → Satellite → ℕ → Type 0
AreCovering items sat m = (item : NavItem) × items item × CoversSecond item sat m

-- the order of ranges: by satellite, then by start
abbrev pub Precedes : CoverRange → CoverRange → Type 0
Precedes a b = IsBefore a.sat b.sat ⊎ ((a.sat ≡ b.sat) × (a.from < b.from))

-- each range precedes all that follow it
abbrev pub Ascend : List CoverRange → Type 0
Ascend [] = Unit {0}
Ascend (x ∷ xs) = ((y : CoverRange) → Contains xs y → Precedes x y) × Ascend xs

-- the ranges ascend, none is empty, and two of one satellite have a gap between them
pub record AreRanges (ranges : List CoverRange) : Type 0 where
  pub ascending : Ascend ranges
  pub filled : (a : CoverRange) → Contains ranges a → a.from < a.to
  pub apart : (a b : CoverRange) → Contains ranges a → Contains ranges b → a.sat ≡ b.sat → a.from < b.from → a.to < b.from

-- a second of a satellite lies in one of the ranges
abbrev pub IsIn : List CoverRange → Satellite → ℕ → Type 0
IsIn ranges sat m = (range : CoverRange) × Contains ranges range × InRange range sat m

-- the ranges contain exactly the covered seconds
pub record AreCovers (covered : Satellite → ℕ → Type 0) (ranges : List CoverRange) : Type 0 where
  pub form : AreRanges ranges
  pub covers : (sat : Satellite) (m : ℕ) → IsIn ranges sat m → covered sat m
  pub every : (sat : Satellite) (m : ℕ) → covered sat m → IsIn ranges sat m

-- the spans of the items, sorted and without duplicates
abbrev pub spans_of : List NavItem → List CoverRange
spans_of items = fold (insert_key by_place) [] (filter_map span_of items)

-- the ranges that the items cover
unfoldable pub covers_of : List NavItem → List CoverRange
covers_of items = joined (spans_of items)
