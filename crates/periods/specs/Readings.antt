-- The value of a kind that a part carries, as a function; `ReadingLemmas` proves that it agrees with `Says`.
use Rattle.std.specs.Prelude.{ℕ, Option, None, Some, Bool, if◌then◌else◌, ◌==◌, ◌&&◌}
use Rattle.nav_eph.specs.Satellite.{Satellite, place_of}
use Rattle.nav_eph.specs.declared.tag.SentTag.{SentTag}
use Rattle.nav_eph.specs.declared.tag.SentTag.TheVariants.{Sent, Toe}
use Rattle.nav_eph.specs.declared.part.Part.{Part}
use Rattle.nav_eph.specs.declared.part.Body.{Body}
use Rattle.nav_eph.specs.declared.part.Body.TheVariants.{GpsClock as OfClock, GpsA as OfOrbitA, GpsB as OfOrbitB, GalW1 as OfWord1, GalW2 as OfWord2, GalW3 as OfWord3, GalW4 as OfWord4, GalHealth as OfHealth, GpsIon as OfGpsIon, GalIon as OfGalIon}
use Rattle.periods.specs.Parts.{Kind, Clock, OrbitA, OrbitB, Word1, Word2, Word3, Word4, Side, FitFlag, TransmissionTag, ToeTag, IonTransmission, HealthOf, Value}

-- both are the same satellite
abbrev pub same_sat : Satellite → Satellite → Bool
same_sat s t = (place_of s.system == place_of t.system) && (s.number == t.number)

-- a tag with its time tag, if it names a transmission time
abbrev pub sent_in : ℕ → SentTag → Option (ℕ × SentTag)
sent_in stamp (Sent wn second) = Some (stamp, Sent wn second)
sent_in stamp (Toe wn second) = None

-- a tag with its time tag, if it names a toe
abbrev pub toe_in : ℕ → SentTag → Option (ℕ × SentTag)
toe_in stamp (Sent wn second) = None
toe_in stamp (Toe wn second) = Some (stamp, Toe wn second)

-- the value of a kind in a part's time tag, satellite and body
abbrev pub reading_in : (k : Kind) → ℕ → Satellite → Body → Option (Value k)
reading_in Clock stamp sat (OfClock clock side tag) = Some clock
reading_in OrbitA stamp sat (OfOrbitA orbit fit) = Some orbit
reading_in OrbitB stamp sat (OfOrbitB orbit) = Some orbit
reading_in Word1 stamp sat (OfWord1 word) = Some word
reading_in Word2 stamp sat (OfWord2 word) = Some word
reading_in Word3 stamp sat (OfWord3 word) = Some word
reading_in Word4 stamp sat (OfWord4 word) = Some word
reading_in Side stamp sat (OfClock clock side tag) = Some (stamp, side)
reading_in FitFlag stamp sat (OfOrbitA orbit fit) = Some (stamp, fit)
reading_in TransmissionTag stamp sat (OfClock clock side tag) = sent_in stamp tag
reading_in ToeTag stamp sat (OfClock clock side tag) = toe_in stamp tag
reading_in IonTransmission stamp sat (OfGpsIon ionosphere second) = Some (record { stamp = stamp; sat = sat; wn = 0; second = second })
reading_in IonTransmission stamp sat (OfGalIon ionosphere wn second) = Some (record { stamp = stamp; sat = sat; wn = wn; second = second })
reading_in (HealthOf of) stamp sat (OfHealth health tag) = if same_sat sat of then Some (stamp, health, tag) else None
reading_in k stamp sat body = None

-- the value of a kind that a part carries
abbrev pub reading : (k : Kind) → Part → Option (Value k)
reading k p = reading_in k p.stamp p.sat p.body
