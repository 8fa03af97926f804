use Rattle.std.proofs.Common.{arith}
use Rattle.scaled_decimal.proofs.TableLemmas.{wide_five_is}
use Rattle.scaled_decimal.proofs.powers.wide_power_of_five.Goals as goal

pub returns : goal.returns
returns c = wide_five_is c.args.exponent (omega (arith, c.requires))
