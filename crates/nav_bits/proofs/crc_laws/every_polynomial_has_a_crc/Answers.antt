use Rattle.nav_bits.proofs.DivisionLemmas.{has_crc}
use Rattle.nav_bits.proofs.crc_laws.every_polynomial_has_a_crc.Goals as goal

pub returns : goal.returns
returns c = has_crc
