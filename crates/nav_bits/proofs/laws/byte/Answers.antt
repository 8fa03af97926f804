use Rattle.nav_bits.specs.Laws.{number_at-byte}
use Rattle.nav_bits.proofs.laws.byte.Goals as goal

pub returns : goal.returns
returns c = number_at-byte
