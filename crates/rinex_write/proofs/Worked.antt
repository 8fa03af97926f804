-- The definitions compute known records, character by character.
use Rattle.std.proofs.Common.{◌≡◌, refl, [], ◌∷◌, pos, negsuc, codes}
use Rattle.scaled_decimal.specs.NumberText.{number_text, digits, place_from, parts_to}
use Rattle.nav_eph.specs.Functions.{civil_to, moment_near, year_from, month_from}
use Rattle.nav_eph.specs.declared.sat.System.TheVariants.{Gps, Gal}
use Rattle.nav_eph.specs.declared.items.SentSecond.TheVariants.{At}
use Rattle.nav_eph.specs.declared.ion.IonContent.TheVariants.{Gps as OfGps, Gal as OfGal}
use Rattle.nav_eph.specs.declared.items.NavItem.{NavItem}
use Rattle.nav_eph.specs.declared.items.NavItem.TheVariants.{Gps as GpsItem, Gal as GalItem, Ion as IonItem}
use Rattle.rinex_write.specs.Accuracies.{ura_nominal, sisa_nominal}
use Rattle.rinex_write.specs.Layouts.{gps_rows, galileo_rows, gps_ionosphere_rows, galileo_ionosphere_rows, gps_kind, galileo_kind, gps_ionosphere_kind, galileo_ionosphere_kind}
use Rattle.rinex_write.specs.Fields.{gps_epoch, galileo_epoch}
use Rattle.rinex_write.specs.Texts.{date_text, item_lines}

-- an ephemeris of GPS of week 2295 with each parameter 0
abbrev pub zero_gps : NavItem
zero_gps = GpsItem (record {
  sat = record { system = Gps; number = 5 };
  clock = record { iodc = 0; toc = 0; af2 = pos 0; af1 = pos 0; af0 = pos 0; tgd = pos 0 };
  side = record { l2_code = 0; ura = 0; health = 0; l2p = 0 };
  a = record { iode = 0; crs = pos 0; delta_n = pos 0; m0 = pos 0; cuc = pos 0; e = 0; cus = pos 0; root_a = 0; toe = 0 };
  fit = 0;
  b = record { iode = 0; cic = pos 0; omega0 = pos 0; cis = pos 0; i0 = pos 0; crc = pos 0; omega = pos 0; omega_dot = pos 0; idot = pos 0 };
  toe_week = 2295;
  sent = At (pos 0);
})

pub record_of_zeroes : item_lines zero_gps ≡
    codes "> EPH G05 LNAV"
    ∷ codes "G05 2023 12 31 00 00 00 0.000000000000D+00 0.000000000000D+00 0.000000000000D+00"
    ∷ codes "     0.000000000000D+00 0.000000000000D+00 0.000000000000D+00 0.000000000000D+00"
    ∷ codes "     0.000000000000D+00 0.000000000000D+00 0.000000000000D+00 0.000000000000D+00"
    ∷ codes "     0.000000000000D+00 0.000000000000D+00 0.000000000000D+00 0.000000000000D+00"
    ∷ codes "     0.000000000000D+00 0.000000000000D+00 0.000000000000D+00 0.000000000000D+00"
    ∷ codes "     0.000000000000D+00 0.000000000000D+00 2.295000000000D+03 0.000000000000D+00"
    ∷ codes "     2.000000000000D+00 0.000000000000D+00 0.000000000000D+00 0.000000000000D+00"
    ∷ codes "     0.000000000000D+00 4.000000000000D+00"
    ∷ []
unfolding item_lines gps_kind gps_rows gps_epoch moment_near civil_to year_from month_from date_text digits number_text place_from parts_to ura_nominal
record_of_zeroes = refl

-- the record that a Galileo satellite's words of the same time give
abbrev pub worked_galileo : NavItem
worked_galileo = GalItem (record {
  sat = record { system = Gal; number = 11 };
  w1 = record { iodnav = 5; toe = 0; m0 = pos 0; e = 0; root_a = 0 };
  w2 = record { iodnav = 5; omega0 = pos 0; i0 = pos 0; omega = pos 0; idot = pos 0 };
  w3 = record { iodnav = 5; omega_dot = pos 0; delta_n = pos 0; cuc = pos 0; cus = pos 0; crc = pos 0; crs = pos 0; sisa = 107 };
  w4 = record { iodnav = 5; cic = pos 0; cis = pos 0; toc = 0; af0 = pos 0; af1 = pos 0; af2 = pos 0 };
  health = record { bgd_a = pos 0; bgd_b = pos 0; hs_e5b = 0; hs_e1b = 0; dvs_e5b = 0; dvs_e1b = 0 };
  toe_week = 2295;
  sent = At (pos 8);
})

pub record_of_galileo : item_lines worked_galileo ≡
    codes "> EPH E11 INAV"
    ∷ codes "E11 2023 12 31 00 00 00 0.000000000000D+00 0.000000000000D+00 0.000000000000D+00"
    ∷ codes "     5.000000000000D+00 0.000000000000D+00 0.000000000000D+00 0.000000000000D+00"
    ∷ codes "     0.000000000000D+00 0.000000000000D+00 0.000000000000D+00 0.000000000000D+00"
    ∷ codes "     0.000000000000D+00 0.000000000000D+00 0.000000000000D+00 0.000000000000D+00"
    ∷ codes "     0.000000000000D+00 0.000000000000D+00 0.000000000000D+00 0.000000000000D+00"
    ∷ codes "     0.000000000000D+00 5.170000000000D+02 2.295000000000D+03"
    ∷ codes "     3.120000000000D+00 0.000000000000D+00 0.000000000000D+00 0.000000000000D+00"
    ∷ codes "     8.000000000000D+00"
    ∷ []
unfolding item_lines galileo_kind galileo_rows galileo_epoch moment_near civil_to year_from month_from date_text digits number_text place_from parts_to sisa_nominal
record_of_galileo = refl

pub ionosphere_of_gps : item_lines (IonItem (record {
  sat = record { system = Gps; number = 5 };
  moment = 1388016018;
  content = OfGps (record { alpha0 = pos 11; alpha1 = pos 0; alpha2 = pos 0; alpha3 = pos 0; beta0 = pos 44; beta1 = pos 0; beta2 = pos 0; beta3 = pos 0 });
})) ≡
    codes "> ION G05 LNAV"
    ∷ codes "    2023 12 31 00 00 18 1.024454832077D-08 0.000000000000D+00 0.000000000000D+00"
    ∷ codes "     0.000000000000D+00 9.011200000000D+04 0.000000000000D+00 0.000000000000D+00"
    ∷ codes "     0.000000000000D+00 0.000000000000D+00"
    ∷ []
unfolding item_lines gps_ionosphere_kind gps_ionosphere_rows civil_to year_from month_from date_text digits number_text place_from parts_to
ionosphere_of_gps = refl

-- an ionosphere with negative numbers and each region's flag
pub ionosphere_of_galileo : item_lines (IonItem (record {
  sat = record { system = Gal; number = 36 };
  moment = 1387411200;
  content = OfGal (record { ai0 = 1300; ai1 = negsuc 533; ai2 = pos 1; regions = 0 });
})) ≡
    codes "> ION E36 IFNV"
    ∷ codes "    2023 12 24 00 00 00 3.250000000000D+02-2.085937500000D+00 3.051757812500D-05"
    ∷ codes "     0.000000000000D+00"
    ∷ []
unfolding item_lines galileo_ionosphere_kind galileo_ionosphere_rows civil_to year_from month_from date_text digits number_text place_from parts_to
ionosphere_of_galileo = refl
