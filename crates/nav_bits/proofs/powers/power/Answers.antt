use Rattle.nav_bits.proofs.EntryLemmas.{power_is}
use Rattle.nav_bits.proofs.powers.power.Goals as goal

pub returns : goal.returns
returns c = power_is c.args.count c.requires
