-- Keys of parts, and the values that parts carry.
use Rattle.std.specs.Prelude.{◌≡◌, ℕ, ◌%◌, ◌⊎◌, List, [], ◌∷◌, Option, None, Some}
use Rattle.nav_eph.specs.Satellite.{Satellite, place_of}
use Rattle.nav_eph.specs.Numbers.{side_number, tag_number, health_number, gal_transmission}
use Rattle.nav_eph.specs.declared.gps.GpsClock.{GpsClock}
use Rattle.nav_eph.specs.declared.gps.GpsSide.{GpsSide}
use Rattle.nav_eph.specs.declared.gps.GpsOrbitA.{GpsOrbitA}
use Rattle.nav_eph.specs.declared.gps.GpsOrbitB.{GpsOrbitB}
use Rattle.nav_eph.specs.declared.galileo.GalWord1.{GalWord1}
use Rattle.nav_eph.specs.declared.galileo.GalWord2.{GalWord2}
use Rattle.nav_eph.specs.declared.galileo.GalWord3.{GalWord3}
use Rattle.nav_eph.specs.declared.galileo.GalWord4.{GalWord4}
use Rattle.nav_eph.specs.declared.galileo.GalHealth.{GalHealth}
use Rattle.nav_eph.specs.declared.ion.GpsIon.{GpsIon as GpsIonosphere}
use Rattle.nav_eph.specs.declared.ion.GalIon.{GalIon as GalIonosphere}
use Rattle.nav_eph.specs.declared.tag.SentTag.{SentTag}
use Rattle.nav_eph.specs.declared.tag.SentTag.TheVariants.{Sent, Toe}
use Rattle.nav_eph.specs.declared.part.Part.{Part}
use Rattle.nav_eph.specs.declared.part.Body.{Body}
use Rattle.nav_eph.specs.declared.part.Body.TheVariants.{GpsClock as OfClock, GpsA as OfOrbitA, GpsB as OfOrbitB, GalW1 as OfWord1, GalW2 as OfWord2, GalW3 as OfWord3, GalW4 as OfWord4, GalHealth as OfHealth, GpsIon as OfGpsIon, GalIon as OfGalIon}
use Rattle.periods.specs.declared.key.PeriodKey.{PeriodKey}
use Rattle.periods.specs.declared.key.PeriodKey.TheVariants.{Gps, Gal, GpsIon, GalIon}
use Rattle.periods.specs.declared.key.Transmission.{Transmission}

-- the key of a satellite and body: the satellite with the low eight bits of IODC, with IODE or with IODnav; the content of an
-- ionosphere; none for health (IS-GPS-200, 20.3.3.3.1.5 and 20.3.4.4; Galileo OS SIS ICD, 5.1.9.2)
abbrev pub key_in : Satellite → Body → Option PeriodKey
key_in sat (OfClock clock side tag) = Some (Gps sat (clock.iodc % 256))
key_in sat (OfOrbitA orbit fit) = Some (Gps sat orbit.iode)
key_in sat (OfOrbitB orbit) = Some (Gps sat orbit.iode)
key_in sat (OfWord1 word) = Some (Gal sat word.iodnav)
key_in sat (OfWord2 word) = Some (Gal sat word.iodnav)
key_in sat (OfWord3 word) = Some (Gal sat word.iodnav)
key_in sat (OfWord4 word) = Some (Gal sat word.iodnav)
key_in sat (OfHealth health tag) = None
key_in sat (OfGpsIon ionosphere second) = Some (GpsIon ionosphere)
key_in sat (OfGalIon ionosphere wn second) = Some (GalIon ionosphere)

-- the key of a part
abbrev pub key_of : Part → Option PeriodKey
key_of p = key_in p.sat p.body

-- the kinds of values that parts carry: contents, and values that are sent along with a content
pub data Kind : Type 0 where
  Clock : Kind
  OrbitA : Kind
  OrbitB : Kind
  Word1 : Kind
  Word2 : Kind
  Word3 : Kind
  Word4 : Kind
  Side : Kind
  FitFlag : Kind
  TransmissionTag : Kind
  ToeTag : Kind
  IonTransmission : Kind
  HealthOf : Satellite → Kind

-- the values of a kind; those sent along with a content have the time tag of their part
abbrev pub Value : Kind → Type 0
Value Clock = GpsClock
Value OrbitA = GpsOrbitA
Value OrbitB = GpsOrbitB
Value Word1 = GalWord1
Value Word2 = GalWord2
Value Word3 = GalWord3
Value Word4 = GalWord4
Value Side = ℕ × GpsSide
Value FitFlag = ℕ × ℕ
Value TransmissionTag = ℕ × SentTag
Value ToeTag = ℕ × SentTag
Value IonTransmission = Transmission
Value (HealthOf sat) = ℕ × GalHealth × SentTag

-- The part carries the value. A GPS tag names a transmission time or a toe; the week of a GPS ionosphere is not sent and is 0;
-- health is that of the part's satellite.
abbrev pub Says : (k : Kind) → Part → Value k → Type 0
Says Clock p clock = (side : GpsSide) × (tag : SentTag) × (p.body ≡ OfClock clock side tag)
Says OrbitA p orbit = (fit : ℕ) × (p.body ≡ OfOrbitA orbit fit)
Says OrbitB p orbit = p.body ≡ OfOrbitB orbit
Says Word1 p word = p.body ≡ OfWord1 word
Says Word2 p word = p.body ≡ OfWord2 word
Says Word3 p word = p.body ≡ OfWord3 word
Says Word4 p word = p.body ≡ OfWord4 word
Says Side p v = (clock : GpsClock) × (tag : SentTag) × (p.body ≡ OfClock clock v.1 tag) × (p.stamp ≡ v.0)
Says FitFlag p v = (orbit : GpsOrbitA) × (p.body ≡ OfOrbitA orbit v.1) × (p.stamp ≡ v.0)
Says TransmissionTag p v = (clock : GpsClock) × (side : GpsSide) × (wn : ℕ) × (second : ℕ) × (p.body ≡ OfClock clock side (Sent wn second)) × (v ≡ (p.stamp, Sent wn second))
Says ToeTag p v = (clock : GpsClock) × (side : GpsSide) × (wn : ℕ) × (second : ℕ) × (p.body ≡ OfClock clock side (Toe wn second)) × (v ≡ (p.stamp, Toe wn second))
Says IonTransmission p s = (p.stamp ≡ s.stamp) × (p.sat ≡ s.sat)
    × (((ion : GpsIonosphere) × (p.body ≡ OfGpsIon ion s.second) × (s.wn ≡ 0)) ⊎ ((ion : GalIonosphere) × (p.body ≡ OfGalIon ion s.wn s.second)))
Says (HealthOf sat) p v = (p.sat ≡ sat) × (p.body ≡ OfHealth v.1 v.2) × (p.stamp ≡ v.0)

-- some part of the set carries the value
pub record HasValue (k : Kind) (set : Part → Type 0) (v : Value k) : Type 0 where
  pub part : Part
  pub here : set part
  pub says : Says k part v

-- the kinds of contents that make an item of the key; none for an ionosphere, whose content is the key
abbrev pub kinds_of : PeriodKey → List Kind
kinds_of (Gps sat issue) = Clock ∷ OrbitA ∷ OrbitB ∷ []
kinds_of (Gal sat issue) = Word1 ∷ Word2 ∷ Word3 ∷ Word4 ∷ []
kinds_of (GpsIon content) = []
kinds_of (GalIon content) = []

-- P holds of one of the kinds
abbrev pub AnyOf : (Kind → Type 0) → List Kind → Type 0
AnyOf P [] = ⊥
AnyOf P (k ∷ []) = P k
AnyOf P (k ∷ l ∷ ks) = P k ⊎ AnyOf P (l ∷ ks)

-- the order of SV statuses: by time tag, then by the number of their bits
abbrev pub side_numbers : ℕ × GpsSide → List ℕ
side_numbers v = v.0 ∷ side_number v.1 ∷ []

-- the order of fit interval flags: by time tag, then by flag
abbrev pub fit_numbers : ℕ × ℕ → List ℕ
fit_numbers v = v.0 ∷ v.1 ∷ []

-- the order of tags: by time tag, then by the number of their bits
abbrev pub tag_numbers : ℕ × SentTag → List ℕ
tag_numbers v = v.0 ∷ tag_number v.1 ∷ []

-- the order of healths: by time tag, then by the number of their bits and those of the tag
abbrev pub health_numbers : ℕ × GalHealth × SentTag → List ℕ
health_numbers v = v.0 ∷ health_number v.1 v.2 ∷ []

-- the order of transmissions: by time tag, satellite, and week number and second
abbrev pub transmission_numbers : Transmission → List ℕ
transmission_numbers s = s.stamp ∷ place_of s.sat.system ∷ s.sat.number ∷ gal_transmission s.wn s.second ∷ []
