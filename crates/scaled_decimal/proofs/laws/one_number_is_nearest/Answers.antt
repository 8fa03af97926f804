use Rattle.std.proofs.Common.{sym, subst}
use Rattle.scaled_decimal.specs.Fractions.{IsNearest, nearest_to}
use Rattle.scaled_decimal.proofs.NearestLemmas.{nearest_is, one_nearest}
use Rattle.scaled_decimal.proofs.laws.one_number_is_nearest.Goals as goal

pub returns : goal.returns
returns c = λ a n some. (λ h. one_nearest a n (nearest_to a) some h (nearest_is a some), λ e. subst (IsNearest a) (sym e) (nearest_is a some))
