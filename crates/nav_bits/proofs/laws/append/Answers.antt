use Rattle.nav_bits.specs.Laws.{number_at-append}
use Rattle.nav_bits.proofs.laws.append.Goals as goal

pub returns : goal.returns
returns c = number_at-append
