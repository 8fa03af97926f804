use Rattle.nav_eph.proofs.NearWeeks.{galileo_number-means, gps_number-means, near_galileo-decides, near_gps-decides}
use Rattle.nav_eph.proofs.laws.near_weeks.Goals as goal

pub returns-clause-gps : goal.returns-clause-gps
returns-clause-gps c = near_gps-decides

pub returns-clause-galileo : goal.returns-clause-galileo
returns-clause-galileo c = near_galileo-decides

pub returns-clause-gps_number : goal.returns-clause-gps_number
returns-clause-gps_number c = gps_number-means

pub returns-clause-galileo_number : goal.returns-clause-galileo_number
returns-clause-galileo_number c = galileo_number-means
