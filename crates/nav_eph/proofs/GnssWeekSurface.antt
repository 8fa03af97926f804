-- What proofs of other crates cite: the functions of weeks, GPS times and dates give what the relations describe.
pub use Rattle.nav_eph.proofs.WeekFunctions.{gps_week-meant, gps_week-only, galileo_week-meant, galileo_week-only, moment_near-nearest, moment_near-only}
pub use Rattle.nav_eph.proofs.DateFunctions.{civil_to-date, civil_to-only, moment_to-answer, moment_to-only, moment_to-again, short_date}
pub use Rattle.nav_eph.proofs.NearWeeks.{near_gps-decides, near_galileo-decides, gps_number-means, galileo_number-means}
