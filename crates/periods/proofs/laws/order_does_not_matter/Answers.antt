use Rattle.periods.proofs.ExistLemmas.{all_values, order_nothing}
use Rattle.periods.proofs.laws.order_does_not_matter.Goals as goal

pub returns : goal.returns
returns c = λ r w some other all s. order_nothing r w some other (all_values some all) (record { to = λ p. (s p).0; from = λ p. (s p).1 })
