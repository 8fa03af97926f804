use Rattle.bridge_engine.proofs.OneJob.{one_job}
use Rattle.bridge_engine.proofs.laws.words_give_one_job.Goals as goal

pub returns : goal.returns
returns c = one_job
