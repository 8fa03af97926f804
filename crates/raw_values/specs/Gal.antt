-- An ephemeris of Galileo in the numbers that C has of it: each field is the number of the same name.
use Rattle.nav_eph.specs.declared.sat.System.TheVariants.{Gal}
use Rattle.nav_eph.specs.declared.galileo.GalWord1.{GalWord1}
use Rattle.nav_eph.specs.declared.galileo.GalWord2.{GalWord2}
use Rattle.nav_eph.specs.declared.galileo.GalWord3.{GalWord3}
use Rattle.nav_eph.specs.declared.galileo.GalWord4.{GalWord4}
use Rattle.nav_eph.specs.declared.galileo.GalHealth.{GalHealth}
use Rattle.nav_eph.specs.declared.items.GalEph.{GalEph}
use Rattle.raw_values.specs.declared.gal_raw.GalWord1Raw.{GalWord1Raw}
use Rattle.raw_values.specs.declared.gal_raw.GalWord2Raw.{GalWord2Raw}
use Rattle.raw_values.specs.declared.gal_raw.GalWord3Raw.{GalWord3Raw}
use Rattle.raw_values.specs.declared.gal_raw.GalWord4Raw.{GalWord4Raw}
use Rattle.raw_values.specs.declared.gal_raw.GalHealthRaw.{GalHealthRaw}
use Rattle.raw_values.specs.declared.gal_raw.GalRaw.{GalRaw}
use Rattle.raw_values.specs.Sent.{raw_sent, sent_in}

abbrev pub word1_in : GalWord1Raw → GalWord1
word1_in raw = record { iodnav = raw.iodnav; toe = raw.toe; m0 = raw.m0; e = raw.e; root_a = raw.root_a }

abbrev pub raw_word1 : GalWord1 → GalWord1Raw
raw_word1 value = record { iodnav = value.iodnav; toe = value.toe; m0 = value.m0; e = value.e; root_a = value.root_a }

abbrev pub word2_in : GalWord2Raw → GalWord2
word2_in raw = record { iodnav = raw.iodnav; omega0 = raw.omega0; i0 = raw.i0; omega = raw.omega; idot = raw.idot }

abbrev pub raw_word2 : GalWord2 → GalWord2Raw
raw_word2 value = record { iodnav = value.iodnav; omega0 = value.omega0; i0 = value.i0; omega = value.omega; idot = value.idot }

abbrev pub word3_in : GalWord3Raw → GalWord3
word3_in raw = record { iodnav = raw.iodnav; omega_dot = raw.omega_dot; delta_n = raw.delta_n; cuc = raw.cuc; cus = raw.cus; crc = raw.crc; crs = raw.crs; sisa = raw.sisa }

abbrev pub raw_word3 : GalWord3 → GalWord3Raw
raw_word3 value = record { iodnav = value.iodnav; omega_dot = value.omega_dot; delta_n = value.delta_n; cuc = value.cuc; cus = value.cus; crc = value.crc; crs = value.crs; sisa = value.sisa }

abbrev pub word4_in : GalWord4Raw → GalWord4
word4_in raw = record { iodnav = raw.iodnav; cic = raw.cic; cis = raw.cis; toc = raw.toc; af0 = raw.af0; af1 = raw.af1; af2 = raw.af2 }

abbrev pub raw_word4 : GalWord4 → GalWord4Raw
raw_word4 value = record { iodnav = value.iodnav; cic = value.cic; cis = value.cis; toc = value.toc; af0 = value.af0; af1 = value.af1; af2 = value.af2 }

abbrev pub health_in : GalHealthRaw → GalHealth
health_in raw = record { bgd_a = raw.bgd_a; bgd_b = raw.bgd_b; hs_e5b = raw.hs_e5b; hs_e1b = raw.hs_e1b; dvs_e5b = raw.dvs_e5b; dvs_e1b = raw.dvs_e1b }

abbrev pub raw_health : GalHealth → GalHealthRaw
raw_health value = record { bgd_a = value.bgd_a; bgd_b = value.bgd_b; hs_e5b = value.hs_e5b; hs_e1b = value.hs_e1b; dvs_e5b = value.dvs_e5b; dvs_e1b = value.dvs_e1b }

-- the ephemeris of the numbers; whether each is within its digits is another question
abbrev pub gal_in : GalRaw → GalEph
gal_in raw = record {
  sat = record { system = Gal; number = raw.satellite };
  w1 = word1_in raw.w1;
  w2 = word2_in raw.w2;
  w3 = word3_in raw.w3;
  w4 = word4_in raw.w4;
  health = health_in raw.health;
  toe_week = raw.toe_week;
  sent = sent_in raw.sent;
}

-- its numbers
abbrev pub raw_gal : GalEph → GalRaw
raw_gal value = record {
  satellite = value.sat.number;
  toe_week = value.toe_week;
  sent = raw_sent value.sent;
  w1 = raw_word1 value.w1;
  w2 = raw_word2 value.w2;
  w3 = raw_word3 value.w3;
  w4 = raw_word4 value.w4;
  health = raw_health value.health;
}
