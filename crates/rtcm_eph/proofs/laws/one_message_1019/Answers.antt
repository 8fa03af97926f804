use Rattle.rtcm_eph.proofs.RoundTrip.{one_1019}
use Rattle.rtcm_eph.proofs.laws.one_message_1019.Goals as goal

pub returns : goal.returns
returns c = one_1019
