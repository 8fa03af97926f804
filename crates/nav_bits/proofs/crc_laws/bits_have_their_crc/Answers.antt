use Rattle.nav_bits.proofs.BitLemmas.{bits_have_crc, bits_of_run}
use Rattle.nav_bits.proofs.crc_laws.bits_have_their_crc.Goals as goal

pub returns-clause-crc : goal.returns-clause-crc
returns-clause-crc c = bits_have_crc

pub returns-clause-run : goal.returns-clause-run
returns-clause-run c = bits_of_run
