use Rattle.nav_bits.proofs.MessageLemmas.{crc_of_bytes}
use Rattle.nav_bits.proofs.crc_laws.the_register_holds_the_crc.Goals as goal

pub returns : goal.returns
returns c = crc_of_bytes
