use Rattle.nav_bits.proofs.MessageLemmas.{whole_run}
use Rattle.nav_bits.proofs.message.crc_of_run.Goals as goal

pub returns : goal.returns
returns c =
    whole_run c.args.bytes.now c.args.from c.args.count c.after_last_bits.result (c.after_last_bits.ensures _ c.after_whole_bytes-state.ensures)
