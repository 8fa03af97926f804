-- What the payload of an ephemeris message carries, or its first error.
use Rattle.std.specs.Prelude.{◌≡◌, ℕ, ◌*◌, ◌&&◌, ◌||◌, Bool, List, [], ◌∷◌, length, nat_eq, nat_le, nat_lt, if◌then◌else◌, Result, Ok, Err}
use Rattle.nav_bits.specs.Bits.{number_at}
use Rattle.nav_eph.specs.Functions.{galileo_week_to, gps_week_to}
use Rattle.nav_eph.specs.Weeks.{IsGpsWeek, IsGalileoWeek}
use Rattle.nav_eph.specs.declared.part.Part.{Part}
use Rattle.nav_eph.specs.Conditions.{IsPart}
use Rattle.nav_eph.specs.declared.sat.System.TheVariants.{Gps, Gal}
use Rattle.nav_eph.specs.declared.tag.SentTag.TheVariants.{Toe}
use Rattle.nav_eph.specs.declared.part.Body.TheVariants.{GpsClock, GpsA, GpsB, GalW1, GalW2, GalW3, GalW4, GalHealth}
use Rattle.nav_eph.specs.declared.items.GpsEph.{GpsEph}
use Rattle.nav_eph.specs.declared.items.GalEph.{GalEph}
use Rattle.nav_eph.specs.declared.items.SentSecond.TheVariants.{Unknown}
use Rattle.nav_eph.specs.declared.items.NavItem.{NavItem}
use Rattle.nav_eph.specs.declared.items.NavItem.TheVariants.{Gps as GpsItem, Gal as GalItem}
use Rattle.rtcm_eph.specs.declared.message1019.Message1019.{Message1019}
use Rattle.rtcm_eph.specs.declared.message1046.Message1046.{Message1046}
use Rattle.rtcm_eph.specs.declared.content.GpsContent.{GpsContent}
use Rattle.rtcm_eph.specs.declared.content.GalContent.{GalContent}
use Rattle.rtcm_eph.specs.declared.content.EphemerisMessage.{EphemerisMessage}
use Rattle.rtcm_eph.specs.declared.content.EphemerisMessage.TheVariants.{Gps as OfGps, Gal as OfGal}
use Rattle.rtcm_eph.specs.declared.fault.MessageFault.{MessageFault}
use Rattle.rtcm_eph.specs.declared.fault.MessageFault.TheVariants.{NoNumber, OtherMessage, Short, BadSat, BadTime, SpareSisa}
use Rattle.rtcm_eph.specs.declared.read.MessageParts.{MessageParts}
use Rattle.rtcm_eph.specs.declared.read.MessageParts.TheVariants.{Gps as GpsParts, Gal as GalParts}
use Rattle.rtcm_eph.specs.Messages.{message1019_at, message1046_at}

-- the parts of the ephemeris in message 1019
abbrev pub content_1019 : Message1019 → GpsContent
content_1019 m = record {
  sat = record { system = Gps; number = m.satellite };
  week = m.week;
  clock = record { iodc = m.iodc; toc = m.toc; af2 = m.af2; af1 = m.af1; af0 = m.af0; tgd = m.tgd };
  side = record { l2_code = m.l2_code; ura = m.ura; health = m.health; l2p = m.l2p };
  a = record {
    iode = m.iode;
    crs = m.crs;
    delta_n = m.delta_n;
    m0 = m.m0;
    cuc = m.cuc;
    e = m.e;
    cus = m.cus;
    root_a = m.root_a;
    toe = m.toe;
  };
  fit = m.fit;
  b = record {
    iode = m.iode;
    cic = m.cic;
    omega0 = m.omega0;
    cis = m.cis;
    i0 = m.i0;
    crc = m.crc;
    omega = m.omega;
    omega_dot = m.omega_dot;
    idot = m.idot;
  };
}

-- the parts of the ephemeris in message 1046
abbrev pub content_1046 : Message1046 → GalContent
content_1046 m = record {
  sat = record { system = Gal; number = m.satellite };
  week = m.week;
  w1 = record { iodnav = m.iodnav; toe = m.toe; m0 = m.m0; e = m.e; root_a = m.root_a };
  w2 = record { iodnav = m.iodnav; omega0 = m.omega0; i0 = m.i0; omega = m.omega; idot = m.idot };
  w3 = record {
    iodnav = m.iodnav;
    omega_dot = m.omega_dot;
    delta_n = m.delta_n;
    cuc = m.cuc;
    cus = m.cus;
    crc = m.crc;
    crs = m.crs;
    sisa = m.sisa;
  };
  w4 = record {
    iodnav = m.iodnav;
    cic = m.cic;
    cis = m.cis;
    toc = m.toc;
    af0 = m.af0;
    af1 = m.af1;
    af2 = m.af2;
  };
  health = record {
    bgd_a = m.bgd_a;
    bgd_b = m.bgd_b;
    hs_e5b = m.hs_e5b;
    hs_e1b = m.hs_e1b;
    dvs_e5b = m.dvs_e5b;
    dvs_e1b = m.dvs_e1b;
  };
}

-- message 1019 is accepted if its satellite is 1 to 32 and its times are within the week, in steps
-- of 16 s
abbrev pub judged_1019 : Message1019 → Result EphemerisMessage MessageFault
judged_1019 m =
    if nat_le 1 m.satellite && nat_le m.satellite 32
    then (if nat_lt m.toe 37800 && nat_lt m.toc 37800 then Ok (OfGps (content_1019 m)) else Err BadTime)
    else Err BadSat

-- the SISA index is not a spare one
abbrev pub is_sisa : ℕ → Bool
is_sisa n = nat_le n 125 || nat_eq n 255

-- message 1046 is accepted if its satellite is 1 to 36, its times are within the week, in steps of
-- 60 s, and its SISA index is not spare
abbrev pub judged_1046 : Message1046 → Result EphemerisMessage MessageFault
judged_1046 m =
    if nat_le 1 m.satellite && nat_le m.satellite 36
    then (if nat_lt m.toe 10080 && nat_lt m.toc 10080
    then (if is_sisa m.sisa then Ok (OfGal (content_1046 m)) else Err SpareSisa) else Err BadTime)
    else Err BadSat

-- what a payload of this many bytes with this message number carries, gps and gal being its fields
-- as either message. The first of: fewer than two bytes, another message, fewer bytes than the
-- message takes, an error of its fields
abbrev pub content_by : ℕ → ℕ → Message1019 → Message1046 → Result EphemerisMessage MessageFault
content_by bytes number gps gal =
    if nat_lt bytes 2 then Err NoNumber
    else (if nat_eq number 1019 then (if nat_lt bytes 61 then Err Short else judged_1019 gps)
    else (if nat_eq number 1046 then (if nat_lt bytes 63 then Err Short else judged_1046 gal)
    else Err (OtherMessage number)))

-- what a payload carries, or its first error
abbrev pub content_of : List ℕ → Result EphemerisMessage MessageFault
content_of payload = content_by (length payload) (number_at payload 0 12) (message1019_at payload 0) (message1046_at payload 0)

-- the parts of an ephemeris received at a second of the logger; the clock names the week and toe
abbrev pub gps_parts : ℕ → GpsContent → MessageParts
gps_parts stamp c = GpsParts
    (record { stamp = stamp; sat = c.sat; body = GpsClock c.clock c.side (Toe c.week (16 * c.a.toe)) })
    (record { stamp = stamp; sat = c.sat; body = GpsA c.a c.fit })
    (record { stamp = stamp; sat = c.sat; body = GpsB c.b })

abbrev pub gal_parts : ℕ → GalContent → MessageParts
gal_parts stamp c = GalParts
    (record { stamp = stamp; sat = c.sat; body = GalW1 c.w1 })
    (record { stamp = stamp; sat = c.sat; body = GalW2 c.w2 })
    (record { stamp = stamp; sat = c.sat; body = GalW3 c.w3 })
    (record { stamp = stamp; sat = c.sat; body = GalW4 c.w4 })
    (record { stamp = stamp; sat = c.sat; body = GalHealth c.health (Toe c.week (60 * c.w1.toe)) })

abbrev pub parts_of : ℕ → Result EphemerisMessage MessageFault → Result MessageParts MessageFault
parts_of stamp (Ok (OfGps c)) = Ok (gps_parts stamp c)
parts_of stamp (Ok (OfGal c)) = Ok (gal_parts stamp c)
parts_of stamp (Err fault) = Err fault

-- each part is one that its satellite can send
abbrev pub ArePartsOf : MessageParts → Type 0
ArePartsOf (GpsParts clock a b) = IsPart clock.sat clock.body × IsPart a.sat a.body × IsPart b.sat b.body
ArePartsOf (GalParts w1 w2 w3 w4 health) =
    IsPart w1.sat w1.body × IsPart w2.sat w2.body × IsPart w3.sat w3.body × IsPart w4.sat w4.body × IsPart health.sat health.body

-- the satellite is one of the message's system
abbrev pub IsOfSystem : EphemerisMessage → Type 0
IsOfSystem (OfGps c) = c.sat.system ≡ Gps
IsOfSystem (OfGal c) = c.sat.system ≡ Gal

-- the ephemeris with this full week of toe; a message has no transmission time
abbrev pub gps_eph : GpsContent → ℕ → GpsEph
gps_eph c week = record {
  sat = c.sat;
  clock = c.clock;
  side = c.side;
  a = c.a;
  fit = c.fit;
  b = c.b;
  toe_week = week;
  sent = Unknown;
}

abbrev pub gal_eph : GalContent → ℕ → GalEph
gal_eph c week = record {
  sat = c.sat;
  w1 = c.w1;
  w2 = c.w2;
  w3 = c.w3;
  w4 = c.w4;
  health = c.health;
  toe_week = week;
  sent = Unknown;
}

-- the item is the content's ephemeris, its week being the one near reference week r with the message's week number
abbrev pub IsItemOf : ℕ → EphemerisMessage → NavItem → Type 0
IsItemOf r (OfGps c) (GpsItem e) = IsGpsWeek r c.week e.toe_week × (e ≡ gps_eph c e.toe_week)
IsItemOf r (OfGal c) (GalItem e) = IsGalileoWeek r c.week e.toe_week × (e ≡ gal_eph c e.toe_week)
IsItemOf _ _ _ = ⊥

-- the result for a payload: an item of its content, or its error
abbrev pub GivesItem : ℕ → Result EphemerisMessage MessageFault → Result NavItem MessageFault → Type 0
GivesItem r (Ok content) (Ok item) = IsItemOf r content item
GivesItem r (Err fault) (Err answer) = answer ≡ fault
GivesItem _ _ _ = ⊥

-- ---- the same as functions

-- the ephemeris of a content near reference week r
abbrev pub item_with : ℕ → EphemerisMessage → NavItem
item_with r (OfGps c) = GpsItem (gps_eph c (gps_week_to r c.week))
item_with r (OfGal c) = GalItem (gal_eph c (galileo_week_to r c.week))

abbrev pub item_of : ℕ → Result EphemerisMessage MessageFault → Result NavItem MessageFault
item_of r (Ok content) = Ok (item_with r content)
item_of r (Err fault) = Err fault

-- the ephemeris of a payload near reference week r, or its first error
unfoldable pub item_in : ℕ → List ℕ → Result NavItem MessageFault
item_in r payload = item_of r (content_of payload)

-- the parts of a message as one list
abbrev pub all_parts : MessageParts → List Part
all_parts (GpsParts clock a b) = clock ∷ a ∷ b ∷ []
all_parts (GalParts w1 w2 w3 w4 health) = w1 ∷ w2 ∷ w3 ∷ w4 ∷ health ∷ []
