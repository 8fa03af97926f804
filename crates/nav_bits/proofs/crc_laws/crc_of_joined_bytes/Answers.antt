use Rattle.nav_bits.proofs.MessageLemmas.{joined}
use Rattle.nav_bits.proofs.crc_laws.crc_of_joined_bytes.Goals as goal

pub returns : goal.returns
returns c = joined
