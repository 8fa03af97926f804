use Rattle.scaled_decimal.proofs.TableLemmas.{five_is}
use Rattle.scaled_decimal.proofs.powers.power_of_five.Goals as goal

pub returns : goal.returns
returns c = five_is c.args.exponent c.requires
