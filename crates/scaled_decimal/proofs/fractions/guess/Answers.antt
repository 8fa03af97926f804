use Rattle.std.proofs.Common.{refl}
use Rattle.scaled_decimal.proofs.QuotientLemmas.{guess_taken}
use Rattle.scaled_decimal.proofs.fractions.guess.Goals as goal

pub returns : goal.returns
returns c = guess_taken c.args.over c.args.under _ _ refl
