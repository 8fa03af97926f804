use Rattle.rinex_write.proofs.ItemFields.{good_gps, good_galileo, good_gps_ionosphere, good_galileo_ionosphere}
use Rattle.rinex_write.proofs.laws.columns_are_good.Goals as goal

pub returns-clause-gps : goal.returns-clause-gps
returns-clause-gps c = good_gps

pub returns-clause-galileo : goal.returns-clause-galileo
returns-clause-galileo c = good_galileo

pub returns-clause-gps_ionosphere : goal.returns-clause-gps_ionosphere
returns-clause-gps_ionosphere c = good_gps_ionosphere

pub returns-clause-galileo_ionosphere : goal.returns-clause-galileo_ionosphere
returns-clause-galileo_ionosphere c = good_galileo_ionosphere
