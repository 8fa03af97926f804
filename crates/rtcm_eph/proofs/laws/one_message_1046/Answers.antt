use Rattle.rtcm_eph.proofs.RoundTrip.{one_1046}
use Rattle.rtcm_eph.proofs.laws.one_message_1046.Goals as goal

pub returns : goal.returns
returns c = one_1046
