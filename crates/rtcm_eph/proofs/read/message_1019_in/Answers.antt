use Rattle.std.proofs.Common.{◌∙◌}
use Rattle.rtcm_eph.specs.Messages.{message1019_own_bits}
use Rattle.rtcm_eph.proofs.Heads.{head_bits}
use Rattle.rtcm_eph.proofs.read.message_1019_in.Goals as goal

pub returns : goal.returns
returns c = c.read_bits.ensures ∙ message1019_own_bits _ c.args.payload.now 0 (head_bits c.args.payload.now 61)
