-- The times that an ephemeris covers, and the order of ranges.
use Rattle.std.specs.Prelude.{◌≡◌, ℕ, ◌+◌, ◌-◌, ◌<◌, ◌≤◌, ◌==◌, ◌&&◌, Bool, cond, leb, max, List, [], ◌∷◌, Option, Some, None}
use Rattle.std.specs.Cmp.{IsTotalOrder, nat_cmp_total, on_total, then_total}
use Rattle.std.specs.Ordering.{nat_cmp, on, then_cmp}
use Rattle.std.specs.declared.cmp.Ordering.{Ordering}
use Rattle.nav_eph.specs.Items.{galileo_toe_moment, gps_toe_moment}
use Rattle.nav_eph.specs.Satellite.{Satellite, place_of}
use Rattle.nav_eph.specs.declared.items.NavItem.{NavItem}
use Rattle.nav_eph.specs.declared.items.NavItem.TheVariants.{Gps, Gal, Ion}
use Rattle.nav_lists.specs.declared.range.CoverRange.{CoverRange}

-- half of the covered time in seconds: three hours if the fit interval flag is 1, else two
abbrev pub half_of : ℕ → ℕ
half_of fit = cond (fit == 1) 10800 7200

-- the seconds from toe - half up to, but without, toe + half
abbrev pub around : Satellite → ℕ → ℕ → CoverRange
around sat toe half = record { sat = sat; from = toe - half; to = toe + half }

-- the range that an item covers: around toe for an ephemeris, none for an ionosphere
abbrev pub span_of : NavItem → Option CoverRange
span_of (Gps e) = Some (around e.sat (gps_toe_moment e) (half_of e.fit))
span_of (Gal e) = Some (around e.sat (galileo_toe_moment e) 7200)
span_of (Ion e) = None

-- a second of a satellite lies in the range; the end is excluded
abbrev pub InRange : CoverRange → Satellite → ℕ → Type 0
InRange range sat m = (range.sat ≡ sat) × (range.from ≤ m) × (m < range.to)

-- the order of ranges: by system (GPS first), satellite number, start and end
abbrev pub by_place : CoverRange → CoverRange → Ordering
by_place = then_cmp (on (λ r. place_of r.sat.system) nat_cmp) (then_cmp (on (λ r. r.sat.number) nat_cmp) (then_cmp (on (λ r. r.from) nat_cmp) (on (λ r. r.to) nat_cmp)))

-- the order of ranges is total
pub by_place_total : IsTotalOrder by_place
by_place_total = then_total (on_total (λ r. place_of r.sat.system) nat_cmp_total) (then_total (on_total (λ r. r.sat.number) nat_cmp_total) (then_total (on_total (λ r. r.from) nat_cmp_total) (on_total (λ r. r.to) nat_cmp_total)))

-- both ranges are of the same satellite
abbrev pub is_of_one : CoverRange → CoverRange → Bool
is_of_one a b = (place_of a.sat.system == place_of b.sat.system) && (a.sat.number == b.sat.number)

-- `b`, which starts no earlier than `a`, overlaps or touches it and is of the same satellite
abbrev pub touches : CoverRange → CoverRange → Bool
touches a b = is_of_one a b && leb b.from a.to

-- the range `a`, extended to the end of `b` if that is later
abbrev pub drawn_out : CoverRange → CoverRange → CoverRange
drawn_out a b = record a { to = max a.to b.to }

-- a range and the sorted ranges after it, joined if they overlap or touch
abbrev pub joined_from : CoverRange → List CoverRange → List CoverRange
joined_from range [] = range ∷ []
joined_from range (next ∷ rest) = cond (touches range next) (joined_from (drawn_out range next) rest) (range ∷ joined_from next rest)

-- sorted ranges, joined if they overlap or touch
abbrev pub joined : List CoverRange → List CoverRange
joined [] = []
joined (first ∷ rest) = joined_from first rest

-- none of the ranges is empty
abbrev pub AreFilled : List CoverRange → Type 0
AreFilled [] = Unit {0}
AreFilled (x ∷ xs) = (x.from < x.to) × AreFilled xs
