use Rattle.rinex_write.proofs.ItemFields.{gps_fit, galileo_fit, gps_ionosphere_fit, galileo_ionosphere_fit}
use Rattle.rinex_write.proofs.laws.fields_fit_their_columns.Goals as goal

pub returns-clause-gps : goal.returns-clause-gps
returns-clause-gps c = gps_fit

pub returns-clause-galileo : goal.returns-clause-galileo
returns-clause-galileo c = galileo_fit

pub returns-clause-gps_ionosphere : goal.returns-clause-gps_ionosphere
returns-clause-gps_ionosphere c = gps_ionosphere_fit

pub returns-clause-galileo_ionosphere : goal.returns-clause-galileo_ionosphere
returns-clause-galileo_ionosphere c = galileo_ionosphere_fit
