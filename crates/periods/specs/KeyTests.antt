-- The test whether a part is of a key; the theorem `keys_are_decided` states that it agrees with
-- `key_of`.
use Rattle.std.specs.Prelude.{Bool, false, ◌&&◌, ◌==◌, Option, None, Some}
use Rattle.nav_eph.specs.declared.part.Part.{Part}
use Rattle.nav_eph.specs.contracts.ion.GpsIonPartialEq.TheImpl.{eq-value as gps_ion_eq}
use Rattle.nav_eph.specs.contracts.ion.GalIonPartialEq.TheImpl.{eq-value as gal_ion_eq}
use Rattle.periods.specs.declared.key.PeriodKey.{PeriodKey}
use Rattle.periods.specs.declared.key.PeriodKey.TheVariants.{Gps, Gal, GpsIon, GalIon}
use Rattle.periods.specs.Parts.{key_of}
use Rattle.periods.specs.Readings.{same_sat}

-- both keys are the same
abbrev pub same_key : PeriodKey → PeriodKey → Bool
same_key (Gps s i) (Gps t j) = same_sat s t && (i == j)
same_key (Gal s i) (Gal t j) = same_sat s t && (i == j)
same_key (GpsIon a) (GpsIon b) = gps_ion_eq.it a b
same_key (GalIon a) (GalIon b) = gal_ion_eq.it a b
same_key a b = false

-- the option is that key
abbrev pub is_key : Option PeriodKey → PeriodKey → Bool
is_key None key = false
is_key (Some k) key = same_key k key

-- the part is of the key
abbrev pub is_of : PeriodKey → Part → Bool
is_of key p = is_key (key_of p) key
