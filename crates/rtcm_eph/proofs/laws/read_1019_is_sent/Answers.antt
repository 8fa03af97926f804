use Rattle.rtcm_eph.proofs.RoundTrip.{read_1019_is_sent}
use Rattle.rtcm_eph.proofs.laws.read_1019_is_sent.Goals as goal

pub returns : goal.returns
returns c = read_1019_is_sent
