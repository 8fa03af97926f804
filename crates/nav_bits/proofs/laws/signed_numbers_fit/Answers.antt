use Rattle.nav_bits.proofs.TwosComplement.{signed_of-fits}
use Rattle.nav_bits.proofs.laws.signed_numbers_fit.Goals as goal

pub returns : goal.returns
returns c = signed_of-fits
