-- Lemmas that other crates cite: over sets of parts and of stamps, which a law over lists cannot state, and membership
-- by recursion.
pub use Rattle.periods.proofs.EndFacts.{In, In-from_contains, contains_from_In, Same, same_sym, IsEnd-same, IsEndOf-same, own_end, bridge, IsKnown, covered}
pub use Rattle.periods.proofs.Orders.{Decides, earlier_decides, is_below-true, below-is_below}
pub use Rattle.periods.proofs.Folds.{some_is, none_some, Grows, best_join-is, Passing, best_among-is, IsBest-same}
pub use Rattle.periods.proofs.KeyLemmas.{same_sat-is, is-same_sat, same_key-is, is-same_key, is_of-is, is-is_of, IsKeyValue, key_value, cases_key, cases_place, same_place}
pub use Rattle.periods.proofs.ReadingLemmas.{said_of, reading_of}
pub use Rattle.periods.proofs.ValueLemmas.{IsUnion, HasValue-to, same_values, IsFirstBy-same, IsFirstOrElse-same}
pub use Rattle.periods.proofs.ValueFindings.{IsHealthValue, health_value}
pub use Rattle.periods.proofs.HealthLemmas.{best_health, no_health, health_at-is}
pub use Rattle.periods.proofs.DigestLemmas.{digest_some, digest_none, digest_of-is, digest_join-is, IsDigest-same}
pub use Rattle.periods.proofs.DigestFindings.{digest_finding-is}
pub use Rattle.periods.proofs.PeriodLemmas.{AreLater, heard_same, members_same, before_same, behind_same, members_later, before_later, behind_later, before_value, behind_value, IsPeriod-same, IsPeriod-was, IsPeriod-keeps, IsFound-same, IsFound-keeps, IsFound-was, IsFound-one}
pub use Rattle.periods.proofs.AgainLemmas.{IsComplete-same, IsComplete-keeps, IsComplete-was, IsComplete-one, IsLastBefore-same, IsLastBefore-keeps, IsLastBefore-was, IsLastBefore-one, Repeats-same, Repeats-keeps, Repeats-was, IsJudged-same, IsJudged-one}
pub use Rattle.periods.proofs.VerdictLemmas.{IsVerdict-same, IsVerdict-keeps, IsVerdict-one, IsClosed-same, IsClosed-one, IsClosed-keeps}
pub use Rattle.periods.proofs.ListLemmas.{ascending_one, closed_at-are, items_append, before_irr, before_trans, before_end, Precedes, All-in, all_of, ArePeriods-one, ArePeriods-same, AreClosed-one}
pub use Rattle.periods.proofs.SearchLemmas.{stamp_of-is, is-stamp_of, IsAbove, above_decides, IsEndBelow, end_before-is, end_from_quiet, quiet_from_end, finding_at-is}
pub use Rattle.periods.proofs.LastLemmas.{IsKnownBefore, last_item-is, Compares, compares_known, judged_by, verdict_at-is}
pub use Rattle.periods.proofs.ExistLemmas.{all_values, later_parts, later_part, period_key, place_at-is, is-place_at, periods_of-are, periods_of-only, closed_of-are, closed_of-only, closed_of-later, closed_of-rise, closed_of-prefix, closed_of-all}
pub use Rattle.periods.proofs.TouchLemmas.{known_parts, IsWithPart, with_part, joined_part, rest_stays, two_at_most}
pub use Rattle.periods.proofs.ApartLemmas.{Splits, splits_same, splits_lists, left_low, right_high, left_period, right_period, period_cases, left_members, right_members, found_left, found_right, complete_left, complete_right, complete_cases}
