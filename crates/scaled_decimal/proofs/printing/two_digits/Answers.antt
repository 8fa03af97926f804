use Rattle.scaled_decimal.proofs.TableLemmas.{two_is}
use Rattle.scaled_decimal.proofs.printing.two_digits.Goals as goal

pub returns : goal.returns
returns c = two_is c.args.number c.requires
