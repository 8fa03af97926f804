use Rattle.bridge_engine.proofs.TableRows.{gives}
use Rattle.bridge_engine.proofs.job.job_of.Goals as goal

pub returns-in-None : goal.returns-in-None
returns-in-None c = λ given. (rw c.in-None.is at c.in_ok-spelled.ensures) given.1.given given.1.options

pub returns-in-Some : goal.returns-in-Some
returns-in-Some c = gives _ _ c.job_with.result (rw c.in-Some.is at c.in_ok-spelled.ensures) c.job_with.ensures
