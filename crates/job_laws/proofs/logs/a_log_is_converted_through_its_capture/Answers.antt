use Rattle.job_laws.proofs.TakenLogs.{taken_by}
use Rattle.job_laws.proofs.logs.a_log_is_converted_through_its_capture.Goals as goal

pub returns : goal.returns
returns c = record {
  ubx = λ bytes. taken_by _ _ _ (c.a_log_is_received_through_its_capture.ensures.ubx bytes);
  sbf = λ bytes. taken_by _ _ _ (c.a_log_is_received_through_its_capture.ensures.sbf bytes);
}
