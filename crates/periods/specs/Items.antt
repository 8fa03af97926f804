-- The item that the members of a period make.
use Rattle.std.specs.Prelude.{◌≡◌, ℕ, ◌+◌, ◌*◌, pos, ◌-ℤ◌}
use Rattle.nav_eph.specs.Weeks.{week_of}
use Rattle.nav_eph.specs.Functions.{gps_week_to, galileo_week_to, moment_near}
use Rattle.nav_eph.specs.Satellite.{Satellite}
use Rattle.nav_eph.specs.Conditions.{wn_of}
use Rattle.nav_eph.specs.declared.galileo.GalHealth.{GalHealth}
use Rattle.nav_eph.specs.declared.ion.IonContent.{IonContent}
use Rattle.nav_eph.specs.declared.tag.SentTag.{SentTag}
use Rattle.nav_eph.specs.declared.tag.SentTag.TheVariants.{Sent, Toe}
use Rattle.nav_eph.specs.declared.items.SentSecond.{SentSecond}
use Rattle.nav_eph.specs.declared.items.SentSecond.TheVariants.{Unknown, At}
use Rattle.nav_eph.specs.declared.items.GpsEph.{GpsEph}
use Rattle.nav_eph.specs.declared.items.GalEph.{GalEph}
use Rattle.nav_eph.specs.declared.items.IonEph.{IonEph}
use Rattle.nav_eph.specs.declared.part.Part.{Part}
use Rattle.periods.specs.declared.key.Transmission.{Transmission}
use Rattle.periods.specs.Values.{IsOnly, IsFirstBy, IsFirstOrElse, IsEarlier, IsLater}
use Rattle.periods.specs.Parts.{HasValue, Clock, OrbitA, OrbitB, Word1, Word2, Word3, Word4, Side, FitFlag, TransmissionTag, ToeTag, IonTransmission, side_numbers, fit_numbers, tag_numbers, health_numbers, transmission_numbers}

-- the second of the week in a tag
abbrev pub tag_second : SentTag → ℕ
tag_second (Sent wn second) = second
tag_second (Toe wn second) = second

-- the GPS time of a GPS tag, its week number resolved near the reference week r
abbrev pub gps_moment : ℕ → SentTag → ℕ
gps_moment r tag = 604800 * gps_week_to r (wn_of tag) + tag_second tag

-- the GPS time of a Galileo tag, its week number resolved near the reference week r
abbrev pub gal_moment : ℕ → SentTag → ℕ
gal_moment r tag = 604800 * galileo_week_to r (wn_of tag) + tag_second tag

-- the week of toe: of the GPS time nearest to the tag's that has the second of week of toe
abbrev pub toe_week_of : ℕ → ℕ → ℕ
toe_week_of moment toe_second = week_of (moment_near moment toe_second)

-- the transmission time in seconds from the start of the week of toe; unknown from a tag that names a toe
abbrev pub sent_second : SentTag → ℕ → ℕ → SentSecond
sent_second (Sent wn second) moment toe_week = At (pos moment -ℤ pos (604800 * toe_week))
sent_second (Toe wn second) moment toe_week = Unknown

-- the satellite's health: the last one up to the end or, if there is none, the first one after it
abbrev pub IsHealth : (ℕ × GalHealth × SentTag → Type 0) → (ℕ × GalHealth × SentTag → Type 0) → ℕ × GalHealth × SentTag → Type 0
IsHealth before behind health = IsFirstOrElse (IsLater health_numbers) (IsEarlier health_numbers) before behind health

-- the tag of GPS: the earliest that names the transmission time or, if there is none, the earliest
-- that names a toe
abbrev pub IsGpsTag : (Part → Type 0) → ℕ × SentTag → Type 0
IsGpsTag members tag = IsFirstOrElse (IsEarlier tag_numbers) (IsEarlier tag_numbers) (HasValue TransmissionTag members) (HasValue ToeTag members) tag

-- a GPS ephemeris: the contents of the members, the latest SV status and fit flag, and the week of toe and transmission time by
-- the tag
pub record IsGpsItemOf (r : ℕ) (satellite : Satellite) (members : Part → Type 0) (e : GpsEph) : Type 0 where
  pub sat : e.sat ≡ satellite
  pub clock : IsOnly (HasValue Clock members) e.clock
  pub a : IsOnly (HasValue OrbitA members) e.a
  pub b : IsOnly (HasValue OrbitB members) e.b
  pub side_stamp : ℕ
  pub side : IsFirstBy (IsLater side_numbers) (HasValue Side members) (side_stamp, e.side)
  pub fit_stamp : ℕ
  pub fit : IsFirstBy (IsLater fit_numbers) (HasValue FitFlag members) (fit_stamp, e.fit)
  pub tag : ℕ × SentTag
  pub tag_is : IsGpsTag members tag
  pub toe_week : e.toe_week ≡ toe_week_of (gps_moment r tag.1) (16 * e.a.toe)
  pub sent : e.sent ≡ sent_second tag.1 (gps_moment r tag.1) e.toe_week

-- a Galileo ephemeris: the contents of the members, and health, week of toe and transmission time by the health part
pub record IsGalItemOf (r : ℕ) (satellite : Satellite) (members : Part → Type 0) (before behind : ℕ × GalHealth × SentTag → Type 0) (e : GalEph) : Type 0 where
  pub sat : e.sat ≡ satellite
  pub w1 : IsOnly (HasValue Word1 members) e.w1
  pub w2 : IsOnly (HasValue Word2 members) e.w2
  pub w3 : IsOnly (HasValue Word3 members) e.w3
  pub w4 : IsOnly (HasValue Word4 members) e.w4
  pub heard : ℕ × GalHealth × SentTag
  pub received_is : IsHealth before behind heard
  pub health : e.health ≡ heard.1
  pub toe_week : e.toe_week ≡ toe_week_of (gal_moment r heard.2) (60 * e.w1.toe)
  pub sent : e.sent ≡ sent_second heard.2 (gal_moment r heard.2) e.toe_week

-- the GPS time of a GPS ionosphere, sent without a week: the one nearest to the time tag counted
-- from the start of reference week r
abbrev pub gps_ion_moment : ℕ → Transmission → ℕ
gps_ion_moment r s = moment_near (604800 * r + s.stamp) s.second

-- the GPS time of a Galileo ionosphere, its week number resolved near the reference week r
abbrev pub gal_ion_moment : ℕ → Transmission → ℕ
gal_ion_moment r s = 604800 * galileo_week_to r s.wn + s.second

-- an ionosphere: the content, and satellite and GPS time of the earliest transmission
pub record IsIonItemOf (moment_of : Transmission → ℕ) (said : IonContent) (members : Part → Type 0) (e : IonEph) : Type 0 where
  pub content : e.content ≡ said
  pub transmission : Transmission
  pub first : IsFirstBy (IsEarlier transmission_numbers) (HasValue IonTransmission members) transmission
  pub sat : e.sat ≡ transmission.sat
  pub moment : e.moment ≡ moment_of transmission
