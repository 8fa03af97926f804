use Rattle.rtcm_eph.proofs.RoundTrip.{read_is_sent_1046}
use Rattle.rtcm_eph.proofs.laws.read_1046_is_sent.Goals as goal

pub returns : goal.returns
returns c = read_is_sent_1046
