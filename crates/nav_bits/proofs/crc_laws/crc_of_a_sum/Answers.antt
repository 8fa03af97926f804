use Rattle.nav_bits.proofs.BitLemmas.{crc_of_sum}
use Rattle.nav_bits.proofs.crc_laws.crc_of_a_sum.Goals as goal

pub returns : goal.returns
returns c = crc_of_sum
