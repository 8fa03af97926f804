use Rattle.std.proofs.Common.{Contains}
use Rattle.periods.proofs.EndLemmas.{covered, IsEndOf-one}
use Rattle.periods.proofs.Lists.{known_stamps}
use Rattle.periods.proofs.ends.each_stamp_has_one_end.Goals as goal

pub returns : goal.returns
returns c = record {
  some = λ w stamps s h. covered w (Contains stamps) (known_stamps w stamps) s h;
  only = λ w stamps d e s a b. IsEndOf-one w (Contains stamps) d e s a b;
}
