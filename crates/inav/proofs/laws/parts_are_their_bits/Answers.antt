use Rattle.inav.proofs.PageNumbers.{digits_of_bits}
use Rattle.inav.proofs.laws.parts_are_their_bits.Goals as goal

pub returns : goal.returns
returns c = digits_of_bits
