use Rattle.std.proofs.Common.{Contains, ◌++◌, ◌∷◌, []}
use Rattle.periods.proofs.JoinLemmas.{joined, at_most_two, other_stays}
use Rattle.periods.proofs.Lists.{known_stamps, with_stamp}
use Rattle.periods.proofs.ends.one_more_stamp.Goals as goal

pub returns : goal.returns
returns c = record {
  one = λ w stamps s. joined w s (Contains stamps) (Contains (stamps ++ s ∷ [])) (known_stamps w stamps) (known_stamps w (stamps ++ s ∷ [])) (with_stamp stamps s);
  at_most_two = λ w stamps s a b d ta tb td l m. at_most_two w s (Contains stamps) a b d ta tb td l m;
  rest = λ w stamps s e h none. other_stays w s (Contains stamps) (Contains (stamps ++ s ∷ [])) e (known_stamps w stamps) (known_stamps w (stamps ++ s ∷ [])) (with_stamp stamps s) h none;
}
