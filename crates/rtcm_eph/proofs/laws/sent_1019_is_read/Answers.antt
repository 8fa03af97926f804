use Rattle.rtcm_eph.proofs.RoundTrip.{sent_is_read_1019}
use Rattle.rtcm_eph.proofs.laws.sent_1019_is_read.Goals as goal

pub returns : goal.returns
returns c = sent_is_read_1019
