-- Lemmas that proofs of other crates cite.
pub use Rattle.nav_eph.proofs.EphSurface.{clock_decided, gal_ion_decided, gps_ion_decided, is_alike-decides, one_galileo_ionosphere, one_gps_ionosphere}
pub use Rattle.nav_eph.proofs.EphSurface.{one_health, one_side, one_tag, one_transmission, orbit_a_decided, orbit_b_decided}
pub use Rattle.nav_eph.proofs.EphSurface.{ranks_alike, same_item-decides, same_numbers-decides, word2_decided, word3_decided, word4_decided}
pub use Rattle.nav_eph.proofs.GnssWeekSurface.{civil_to-date, galileo_number-means, galileo_week-meant, galileo_week-only, gps_number-means, gps_week-meant}
pub use Rattle.nav_eph.proofs.GnssWeekSurface.{gps_week-only, moment_near-nearest, moment_near-only, moment_to-again, moment_to-answer, near_galileo-decides}
pub use Rattle.nav_eph.proofs.GnssWeekSurface.{near_gps-decides, short_date}
