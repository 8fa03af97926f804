use Rattle.periods.proofs.KeyLemmas.{is_of-is, is-is_of}
use Rattle.periods.proofs.laws.keys_are_decided.Goals as goal

pub returns : goal.returns
returns c = λ key p. (is_of-is key p, is-is_of key p)
