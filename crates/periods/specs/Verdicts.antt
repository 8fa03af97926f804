-- The finding of a period by itself, and the verdict on it.
use Rattle.std.specs.Prelude.{◌≡◌, ℕ, ◌+◌, ◌<◌, ◌≤◌, ◌⊎◌}
use Rattle.nav_eph.specs.Items.{IsAlike}
use Rattle.nav_eph.specs.declared.galileo.GalHealth.{GalHealth}
use Rattle.nav_eph.specs.declared.tag.SentTag.{SentTag}
use Rattle.nav_eph.specs.declared.ion.IonContent.TheVariants.{Gps as OfGps, Gal as OfGal}
use Rattle.nav_eph.specs.declared.items.NavItem.{NavItem}
use Rattle.nav_eph.specs.declared.items.NavItem.TheVariants.{Gps as GpsItem, Gal as GalItem, Ion as IonItem}
use Rattle.nav_eph.specs.declared.part.Part.{Part}
use Rattle.periods.specs.declared.key.PeriodKey.{PeriodKey}
use Rattle.periods.specs.declared.key.PeriodKey.TheVariants.{Gps, Gal, GpsIon, GalIon}
use Rattle.periods.specs.declared.key.PeriodId.{PeriodId}
use Rattle.periods.specs.declared.closed.Finding.{Finding}
use Rattle.periods.specs.declared.closed.Finding.TheVariants.{Differs, Misses, LacksHealth, Complete}
use Rattle.periods.specs.declared.closed.Verdict.{Verdict}
use Rattle.periods.specs.declared.closed.Verdict.TheVariants.{Whole, Partial, Contradicted, NoHealth, Again}
use Rattle.periods.specs.declared.closed.Closed.{Closed}
use Rattle.periods.specs.Values.{IsEmpty, Differ}
use Rattle.periods.specs.Parts.{HealthOf, HasValue, kinds_of, AnyOf}
use Rattle.periods.specs.Periods.{IsPeriod, IsMember}
use Rattle.periods.specs.Items.{IsGpsItemOf, IsGalItemOf, IsIonItemOf, gps_ion_moment, gal_ion_moment}

-- two parts of one kind differ in content
abbrev pub IsContradicted : PeriodKey → (Part → Type 0) → Type 0
IsContradicted key members = AnyOf (λ k. Differ (HasValue k members)) (kinds_of key)

-- a part is missing: subframe 1, 2 or 3 of GPS, or one of Galileo's word types 1 to 4
abbrev pub IsPartial : PeriodKey → (Part → Type 0) → Type 0
IsPartial key members = AnyOf (λ k. IsEmpty (HasValue k members)) (kinds_of key)

-- a Galileo ephemeris key has no health of its satellite in the window
abbrev pub IsWithoutHealth : PeriodKey → (ℕ × GalHealth × SentTag → Type 0) → (ℕ × GalHealth × SentTag → Type 0) → Type 0
IsWithoutHealth (Gps sat issue) before behind = ⊥
IsWithoutHealth (Gal sat issue) before behind = IsEmpty before × IsEmpty behind
IsWithoutHealth (GpsIon content) before behind = ⊥
IsWithoutHealth (GalIon content) before behind = ⊥

-- the item that the members of a key make
abbrev pub IsItemOf : ℕ → PeriodKey → (Part → Type 0) → (ℕ × GalHealth × SentTag → Type 0) → (ℕ × GalHealth × SentTag → Type 0) → NavItem → Type 0
IsItemOf r (Gps sat issue) members before behind (GpsItem e) = IsGpsItemOf r sat members e
IsItemOf r (Gal sat issue) members before behind (GalItem e) = IsGalItemOf r sat members before behind e
IsItemOf r (GpsIon content) members before behind (IonItem e) = IsIonItemOf (gps_ion_moment r) (OfGps content) members e
IsItemOf r (GalIon content) members before behind (IonItem e) = IsIonItemOf (gal_ion_moment r) (OfGal content) members e
IsItemOf r key members before behind item = ⊥

-- the finding of the members of a key with the health up to the end and after it
abbrev pub IsFoundIn : ℕ → PeriodKey → (Part → Type 0) → (ℕ × GalHealth × SentTag → Type 0) → (ℕ × GalHealth × SentTag → Type 0) → Finding → Type 0
IsFoundIn r key members before behind Differs = IsContradicted key members
IsFoundIn r key members before behind Misses = (IsContradicted key members → ⊥) × IsPartial key members
IsFoundIn r key members before behind LacksHealth = (IsContradicted key members → ⊥) × (IsPartial key members → ⊥) × IsWithoutHealth key before behind
IsFoundIn r key members before behind (Complete item) = IsItemOf r key members before behind item

-- a part carries this health of the satellite of a Galileo ephemeris key
abbrev pub HasHealth : PeriodKey → (Part → Type 0) → ℕ × GalHealth × SentTag → Type 0
HasHealth (Gal sat issue) parts h = HasValue (HealthOf sat) parts h
HasHealth key parts h = ⊥

-- health of the key's satellite was received in the window up to the end
pub record IsUpToEnd (window : ℕ) (parts : Part → Type 0) (key : PeriodKey) (e : ℕ) (h : ℕ × GalHealth × SentTag) : Type 0 where
  pub heard : HasHealth key parts h
  pub by_end : h.0 ≤ e
  pub near : e ≤ h.0 + window

-- health of the key's satellite was received in the window after the end
pub record IsBehindEnd (window : ℕ) (parts : Part → Type 0) (key : PeriodKey) (e : ℕ) (h : ℕ × GalHealth × SentTag) : Type 0 where
  pub heard : HasHealth key parts h
  pub behind : e < h.0
  pub near : h.0 ≤ e + window

-- the finding of a period
abbrev pub IsFound : ℕ → ℕ → (Part → Type 0) → PeriodId → Finding → Type 0
IsFound r window parts place finding =
    IsFoundIn r place.key (IsMember window parts place) (IsUpToEnd window parts place.key place.end) (IsBehindEnd window parts place.key place.end) finding

-- the key is of an ephemeris, not of an ionosphere
abbrev pub IsOfEphemeris : PeriodKey → Type 0
IsOfEphemeris (Gps sat issue) = Unit {0}
IsOfEphemeris (Gal sat issue) = Unit {0}
IsOfEphemeris (GpsIon content) = ⊥
IsOfEphemeris (GalIon content) = ⊥

-- the key has a period with this end, whose parts are all there and agree, and this is its item
pub record IsComplete (r window : ℕ) (parts : Part → Type 0) (key : PeriodKey) (e : ℕ) (item : NavItem) : Type 0 where
  pub period : IsPeriod window parts (record { end = e; key = key })
  pub found : IsFound r window parts (record { end = e; key = key }) (Complete item)

-- the item of the key's last complete period with an end before e
pub record IsLastBefore (r window : ℕ) (parts : Part → Type 0) (key : PeriodKey) (e : ℕ) (item : NavItem) : Type 0 where
  pub at : ℕ
  pub earlier : at < e
  pub complete : IsComplete r window parts key at item
  pub last : (f : ℕ) (other : NavItem) → IsComplete r window parts key f other → f < e → f ≤ at

-- an ephemeris equal, in every field but the transmission time, to that of the key's last complete period before
pub record Repeats (r window : ℕ) (parts : Part → Type 0) (place : PeriodId) (item : NavItem) : Type 0 where
  pub ephemeris : IsOfEphemeris place.key
  pub before : NavItem
  pub is_before : IsLastBefore r window parts place.key place.end before
  pub alike : IsAlike before item

-- the verdict on a finding, where `repeats` holds of items that equal an earlier one
abbrev pub IsJudged : (NavItem → Type 0) → Finding → Verdict → Type 0
IsJudged repeats Differs verdict = verdict ≡ Contradicted
IsJudged repeats Misses verdict = verdict ≡ Partial
IsJudged repeats LacksHealth verdict = verdict ≡ NoHealth
IsJudged repeats (Complete item) verdict = (repeats item × (verdict ≡ Again)) ⊎ ((repeats item → ⊥) × (verdict ≡ Whole item))

-- the verdict on a period
pub record IsVerdict (r window : ℕ) (parts : Part → Type 0) (place : PeriodId) (verdict : Verdict) : Type 0 where
  pub finding : Finding
  pub found : IsFound r window parts place finding
  pub judged : IsJudged (Repeats r window parts place) finding verdict

-- the end and the key of a period
abbrev pub closed_place : Closed → PeriodId
closed_place c = record { end = c.end; key = c.key }

-- a period, with its verdict
pub record IsClosed (r window : ℕ) (parts : Part → Type 0) (closed : Closed) : Type 0 where
  pub period : IsPeriod window parts (closed_place closed)
  pub verdict : IsVerdict r window parts (closed_place closed) closed.verdict
