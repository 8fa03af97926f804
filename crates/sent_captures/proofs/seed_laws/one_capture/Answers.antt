use Rattle.sent_captures.proofs.TextIs.{one_capture_of}
use Rattle.sent_captures.proofs.seed_laws.one_capture.Goals as goal

pub returns : goal.returns
returns c = one_capture_of
