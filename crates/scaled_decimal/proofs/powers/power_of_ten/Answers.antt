use Rattle.scaled_decimal.proofs.TableLemmas.{ten_is}
use Rattle.scaled_decimal.proofs.powers.power_of_ten.Goals as goal

pub returns : goal.returns
returns c = ten_is c.args.exponent c.requires
