use Rattle.inav.proofs.PageNumbers.{half_again}
use Rattle.inav.proofs.laws.halves_are_read_again.Goals as goal

pub returns : goal.returns
returns c = half_again
