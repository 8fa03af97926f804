use Rattle.job_laws.proofs.TakenLogs.{taken}
use Rattle.job_laws.proofs.logs.a_received_log_is_a_capture.Goals as goal

pub returns : goal.returns
returns c = taken
