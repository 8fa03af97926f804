use Rattle.receiver_log.proofs.Readings.{one_reading, good_is_read}
use Rattle.receiver_log.proofs.laws.one_reading_is_good.Goals as goal

pub returns-clause-one : goal.returns-clause-one
returns-clause-one c = λ words a b x y g h. one_reading words a b x y g h

pub returns-clause-is_read : goal.returns-clause-is_read
returns-clause-is_read c = λ words mask x g. good_is_read words mask x g
