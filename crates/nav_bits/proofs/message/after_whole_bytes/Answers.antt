use Rattle.nav_bits.specs.Bits.{number_at}
use Rattle.nav_bits.proofs.DivisionLemmas.{zero_is}
use Rattle.nav_bits.proofs.MessageLemmas.{byte_more}
use Rattle.nav_bits.proofs.message.after_whole_bytes.Goals as goal

pub loop-i-init : goal.loop-i-init
unfolding number_at
loop-i-init c = zero_is

pub loop-i-preserved : goal.loop-i-preserved
loop-i-preserved c =
    byte_more c.args.bytes.now c.args.from c.loop-i.i c.loop-i.state c.byte_at.result c.with_byte-state.result c.loop-i.invariant c.byte_at.ensures
    c.with_byte-state.ensures.value
