use Rattle.nav_bits.proofs.PackedFields.{signed_of-unsigned, unsigned_of-lt}
use Rattle.nav_bits.proofs.laws.bits_of_signed_numbers.Goals as goal

pub returns-clause-stand : goal.returns-clause-stand
returns-clause-stand c = signed_of-unsigned

pub returns-clause-fit : goal.returns-clause-fit
returns-clause-fit c = unsigned_of-lt
