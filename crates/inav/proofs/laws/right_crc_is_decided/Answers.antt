use Rattle.inav.proofs.PageNumbers.{right_to, right_from}
use Rattle.inav.proofs.laws.right_crc_is_decided.Goals as goal

pub returns : goal.returns
returns c even odd = (right_to even odd, right_from even odd)
