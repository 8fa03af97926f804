-- The digest of a set of parts, by kind.
use Rattle.std.specs.Prelude.{ℕ, Option, None, Some}
use Rattle.nav_eph.specs.declared.galileo.GalHealth.{GalHealth}
use Rattle.nav_eph.specs.declared.tag.SentTag.{SentTag}
use Rattle.nav_eph.specs.declared.part.Part.{Part}
use Rattle.periods.specs.declared.key.PeriodKey.{PeriodKey}
use Rattle.periods.specs.declared.key.PeriodKey.TheVariants.{Gps, Gal, GpsIon, GalIon}
use Rattle.periods.specs.declared.digest.Seen.{Seen}
use Rattle.periods.specs.declared.digest.Seen.TheVariants.{Nothing, One, Different}
use Rattle.periods.specs.declared.digest.GpsDigest.{GpsDigest}
use Rattle.periods.specs.declared.digest.GalDigest.{GalDigest}
use Rattle.periods.specs.declared.digest.Digest.{Digest}
use Rattle.periods.specs.declared.digest.Digest.TheVariants.{Gps as GpsForm, Gal as GalForm, Ion as IonForm}
use Rattle.periods.specs.Items.{IsHealth}
use Rattle.periods.specs.Values.{IsEmpty, IsOnly, Differ, IsBest, IsFirstBy, IsEarlier, IsLater}
use Rattle.periods.specs.Parts.{HasValue, Clock, OrbitA, OrbitB, Word1, Word2, Word3, Word4, Side, FitFlag, TransmissionTag, ToeTag, IonTransmission, side_numbers, fit_numbers, tag_numbers, transmission_numbers}

-- there is no value, exactly one, or two that differ
abbrev pub IsSeen : {X : Type 0} → (X → Type 0) → Seen X → Type 0
IsSeen values Nothing = IsEmpty values
IsSeen values (One x) = IsOnly values x
IsSeen values Different = Differ values

-- the digest of members of a GPS key: the contents, the latest SV status and fit flag, the earliest time tags
pub record IsGpsDigest (members : Part → Type 0) (d : GpsDigest) : Type 0 where
  pub clock : IsSeen (HasValue Clock members) d.clock
  pub a : IsSeen (HasValue OrbitA members) d.a
  pub b : IsSeen (HasValue OrbitB members) d.b
  pub side : IsBest (IsLater side_numbers) (HasValue Side members) d.side
  pub fit : IsBest (IsLater fit_numbers) (HasValue FitFlag members) d.fit
  pub sent : IsBest (IsEarlier tag_numbers) (HasValue TransmissionTag members) d.sent
  pub toe : IsBest (IsEarlier tag_numbers) (HasValue ToeTag members) d.toe

-- the digest of members of a Galileo key: the contents of word types 1 to 4
pub record IsGalDigest (members : Part → Type 0) (d : GalDigest) : Type 0 where
  pub w1 : IsSeen (HasValue Word1 members) d.w1
  pub w2 : IsSeen (HasValue Word2 members) d.w2
  pub w3 : IsSeen (HasValue Word3 members) d.w3
  pub w4 : IsSeen (HasValue Word4 members) d.w4

-- the digest of the members of a key
abbrev pub IsDigest : PeriodKey → (Part → Type 0) → Digest → Type 0
IsDigest (Gps sat issue) members (GpsForm d) = IsGpsDigest members d
IsDigest (Gal sat issue) members (GalForm d) = IsGalDigest members d
IsDigest (GpsIon content) members (IonForm s) = IsFirstBy (IsEarlier transmission_numbers) (HasValue IonTransmission members) s
IsDigest (GalIon content) members (IonForm s) = IsFirstBy (IsEarlier transmission_numbers) (HasValue IonTransmission members) s
IsDigest key members digest = ⊥

-- the health that a period takes; none if there is none in the window up to the end nor in that
-- after it
abbrev pub IsBestHealth : (ℕ × GalHealth × SentTag → Type 0) → (ℕ × GalHealth × SentTag → Type 0) → Option (ℕ × GalHealth × SentTag) → Type 0
IsBestHealth before behind None = IsEmpty before × IsEmpty behind
IsBestHealth before behind (Some h) = IsHealth before behind h
