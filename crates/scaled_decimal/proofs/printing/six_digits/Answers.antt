use Rattle.scaled_decimal.proofs.DigitLemmas.{six_few}
use Rattle.scaled_decimal.proofs.printing.six_digits.Goals as goal

pub returns : goal.returns
returns c = six_few c.args.number _ _ _ c.requires c.two_digits.ensures c.two_digits-2.ensures c.two_digits-3.ensures
