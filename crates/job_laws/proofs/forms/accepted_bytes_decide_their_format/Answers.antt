use Rattle.job_laws.proofs.FormatsDecided.{job_told}
use Rattle.job_laws.proofs.forms.accepted_bytes_decide_their_format.Goals as goal

pub returns : goal.returns
returns c = job_told
