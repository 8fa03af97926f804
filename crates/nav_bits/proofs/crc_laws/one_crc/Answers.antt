use Rattle.nav_bits.proofs.DivisionLemmas.{one_remainder}
use Rattle.nav_bits.proofs.crc_laws.one_crc.Goals as goal

pub returns : goal.returns
returns c = one_remainder
