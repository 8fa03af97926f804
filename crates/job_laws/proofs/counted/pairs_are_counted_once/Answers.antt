use Rattle.job_laws.proofs.Counts.{one_length, one_sum}
use Rattle.job_laws.proofs.counted.pairs_are_counted_once.Goals as goal

pub returns-clause-length : goal.returns-clause-length
returns-clause-length c = one_length

pub returns-clause-sum : goal.returns-clause-sum
returns-clause-sum c = one_sum
