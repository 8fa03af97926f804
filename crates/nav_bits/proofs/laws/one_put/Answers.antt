use Rattle.nav_bits.proofs.OnePut.{one_put}
use Rattle.nav_bits.proofs.laws.one_put.Goals as goal

pub returns : goal.returns
returns c = one_put
