-- What the theorems about the round trip assume: consistent ephemerides, and bytes.
use Rattle.std.specs.Prelude.{ℕ, ◌<◌, ◌≤◌, List, length, slice_index}
use Rattle.nav_bits.specs.Fields.{StandFrom}
use Rattle.nav_eph.specs.Items.{IsGalEph, IsGpsEph}
use Rattle.nav_eph.specs.Satellite.{IsSat}
use Rattle.nav_eph.specs.Steps.{IsSisa, IsStep16, IsStep60}
use Rattle.nav_eph.specs.declared.items.GpsEph.{GpsEph}
use Rattle.nav_eph.specs.declared.items.GalEph.{GalEph}
use Rattle.rtcm_eph.specs.Messages.{fields_1019, fields_1046}
use Rattle.rtcm_eph.specs.Writing.{message_1019, message_1046}

-- a consistent GPS ephemeris: one IODE, a GPS satellite, times within the week
pub record IsGps (e : GpsEph) : Type 0 where
  pub whole : IsGpsEph e.sat e.a e.b e.sent
  pub number : IsSat e.sat.system e.sat.number
  pub toe : IsStep16 e.a.toe
  pub toc : IsStep16 e.clock.toc

-- a consistent Galileo ephemeris: one IODnav, a Galileo satellite, times within the week, a SISA index that is not spare
pub record IsGal (e : GalEph) : Type 0 where
  pub whole : IsGalEph e.sat e.w1 e.w2 e.w3 e.w4 e.sent
  pub number : IsSat e.sat.system e.sat.number
  pub toe : IsStep60 e.w1.toe
  pub toc : IsStep60 e.w4.toc
  pub sisa : IsSisa e.w3.sisa

-- each number of the list is a byte
pub record AreBytes (bytes : List ℕ) : Type 0 where
  pub each : (k : ℕ) → slice_index bytes k < 256

-- the payload begins with message 1019 of the ephemeris
pub record Begins1019 (payload : List ℕ) (e : GpsEph) : Type 0 where
  pub long : 61 ≤ length payload
  pub fields : StandFrom payload 0 0 (fields_1019 (message_1019 e))

-- the payload begins with message 1046 of the ephemeris
pub record Begins1046 (payload : List ℕ) (e : GalEph) : Type 0 where
  pub long : 63 ≤ length payload
  pub fields : StandFrom payload 0 0 (fields_1046 (message_1046 e))
