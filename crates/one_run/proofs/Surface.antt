-- What proofs of other crates cite: the prefixes of what a run writes and reports, and what follows from how it ended.
pub use Rattle.one_run.proofs.Prefixes.{between, between_behind, between_whole, between_within, prefix_after, prefix_behind, prefix_longer, prefix_more, prefix_nil, prefix_of, prefix_same, prefix_trans, prefix_within, no_prefix, whole_prefix}
pub use Rattle.one_run.proofs.Facts.{accepted_of, ahead_at_end, ahead_by, broke_by, by_status, complete_of, counts_of, done_by, end_of, leaves_of, long_of, no_fault, none_failed, nothing_ahead, nothing_told, read_failed, report_failed, taken_all, text_of, outcome_of, with_rest, write_failed}
pub use Rattle.one_run.proofs.Givings.{ahead_forgotten, ahead_given, ahead_given_by, forget, forgotten, given_as, status_forgotten}
pub use Rattle.one_run.proofs.Stops.{BeginsWith, all_nothing, all_of, all_stopped, all_whole, all_within, no_more_or_beyond, nothing_stopped, stopped_in}
