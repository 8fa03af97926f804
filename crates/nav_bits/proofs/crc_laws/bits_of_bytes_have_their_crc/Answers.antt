use Rattle.nav_bits.proofs.MessageLemmas.{same_bits}
use Rattle.nav_bits.proofs.crc_laws.bits_of_bytes_have_their_crc.Goals as goal

pub returns : goal.returns
returns c = same_bits
