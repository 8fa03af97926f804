use Rattle.nav_bits.proofs.TwosComplement.{signed_of-same}
use Rattle.nav_bits.proofs.laws.one_number_for_bits.Goals as goal

pub returns : goal.returns
returns c = signed_of-same
