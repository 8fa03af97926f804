use Rattle.std.proofs.Common.{◌∙◌, arith}
use Rattle.nav_bits.specs.Laws.{number_at-same}
use Rattle.rtcm_eph.proofs.Heads.{head_bits}
use Rattle.rtcm_eph.proofs.read.number_in.Goals as goal

pub returns : goal.returns
returns c =
    c.value.ensures.same ∙ c.read_bits-number.ensures
    ∙ number_at-same _ c.args.payload.now 0 12 (record { same = λ i low high. (head_bits c.args.payload.now 2).same i low (omega arith) })
