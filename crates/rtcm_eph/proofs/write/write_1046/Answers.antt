use Rattle.std.proofs.Common.{◌∙◌}
use Rattle.rtcm_eph.proofs.MessageBytes.{is_1046}
use Rattle.rtcm_eph.proofs.write.write_1046.Goals as goal

pub returns-clause-bytes : goal.returns-clause-bytes
returns-clause-bytes c =
    is_1046 c.args.eph.now c.pack.new.into c.gal_ranges.ensures c.are_bytes.ensures (c.pack.ensures.stands ∙ c.message_of.ensures) c.pack.ensures.rest
