-- Periods of a set of parts: their ends, members and order.
use Rattle.std.specs.Prelude.{◌≡◌, ℕ, List, [], ◌∷◌, Some}
use Rattle.periods.specs.Ends.{IsEnd, IsEndOf}
use Rattle.nav_eph.specs.Satellite.{place_of}
use Rattle.nav_eph.specs.Numbers.{gps_ion_number, gal_ion_number}
use Rattle.nav_eph.specs.declared.part.Part.{Part}
use Rattle.periods.specs.declared.key.PeriodKey.{PeriodKey}
use Rattle.periods.specs.declared.key.PeriodKey.TheVariants.{Gps, Gal, GpsIon, GalIon}
use Rattle.periods.specs.declared.key.PeriodId.{PeriodId}
use Rattle.periods.specs.Values.{IsBelow}
use Rattle.periods.specs.Parts.{key_of}

-- a part of the key was received at the time tag
pub record IsReceivedAt (parts : Part → Type 0) (key : PeriodKey) (stamp : ℕ) : Type 0 where
  pub part : Part
  pub here : parts part
  pub of_key : key_of part ≡ Some key
  pub at_stamp : part.stamp ≡ stamp

-- a period: a key, and one of its ends
abbrev pub IsPeriod : ℕ → (Part → Type 0) → PeriodId → Type 0
IsPeriod window parts place = IsEnd window (IsReceivedAt parts place.key) place.end

-- the part belongs to the period: it is of the key, and the period's end is the first at or after it
pub record IsMember (window : ℕ) (parts : Part → Type 0) (place : PeriodId) (part : Part) : Type 0 where
  pub here : parts part
  pub of_key : key_of part ≡ Some place.key
  pub ends : IsEndOf window (IsReceivedAt parts place.key) place.end part.stamp

-- the order of keys: ephemerides of GPS, of Galileo, ionospheres of GPS, of Galileo; then the satellite; then the issue
-- of data or, for an ionosphere, the number of its content
abbrev pub key_numbers : PeriodKey → List ℕ
key_numbers (Gps sat issue) = 0 ∷ place_of sat.system ∷ sat.number ∷ issue ∷ []
key_numbers (Gal sat issue) = 1 ∷ place_of sat.system ∷ sat.number ∷ issue ∷ []
key_numbers (GpsIon content) = 2 ∷ 0 ∷ 0 ∷ gps_ion_number content ∷ []
key_numbers (GalIon content) = 3 ∷ 0 ∷ 0 ∷ gal_ion_number content ∷ []

-- the order of periods: by end, then by key
abbrev pub place_numbers : PeriodId → List ℕ
place_numbers place = place.end ∷ key_numbers place.key

-- the first period comes before the second
abbrev pub IsBefore : PeriodId → PeriodId → Type 0
IsBefore a b = IsBelow (place_numbers a) (place_numbers b)
