use Rattle.std.proofs.Common.{Contains, ◌++◌, ◌∷◌, []}
use Rattle.periods.proofs.TouchLemmas.{known_parts, with_part, joined_part, two_at_most, rest_stays}
use Rattle.periods.proofs.laws.one_more_part.Goals as goal

pub returns : goal.returns
returns c = record {
  one = λ w parts p key k. joined_part w (Contains parts) (Contains (parts ++ p ∷ [])) p key (known_parts w parts key) (known_parts w (parts ++ p ∷ []) key) (with_part parts p) k;
  at_most_two = λ w parts p a b d ta tb td l m. two_at_most w (Contains parts) p a b d ta tb td l m;
  rest = λ w parts p q h none. rest_stays w (Contains parts) (Contains (parts ++ p ∷ [])) p q (known_parts w parts q.key) (known_parts w (parts ++ p ∷ []) q.key) (with_part parts p) h none;
}
