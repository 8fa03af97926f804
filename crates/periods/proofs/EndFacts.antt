-- What ends and membership give, in one place: over sets of stamps, which a law over lists cannot state.
pub use Rattle.periods.proofs.Membership.{In, In-from_contains, contains_from_In}
pub use Rattle.periods.proofs.EndLemmas.{Same, same_sym, IsEnd-same, IsEndOf-same, own_end, IsEndOf-one, carried, covered, bridge, IsKnown, IsKnown-same, ReadOf, known_list, IsEnd-later, IsEnd-was, IsEndOf-later, IsEndOf-was}
pub use Rattle.periods.proofs.JoinLemmas.{joined, joined_touched, other_stays, at_most_two}
pub use Rattle.periods.proofs.Lists.{known_stamps}
pub use Rattle.periods.proofs.EndsApart.{AreApart, left_end, right_end, end_cases, left_end_of, end_of_left, right_end_of, end_of_right, none_across}
