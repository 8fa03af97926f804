-- What proofs of other crates cite: weeks and their numbers, and the times of frames.
pub use Rattle.nav_tables.proofs.WeekLemmas.{good_rule, near_is, number_again, week_again}
pub use Rattle.nav_tables.proofs.DayLemmas.{times_near}
pub use Rattle.nav_tables.proofs.FrameLemmas.{frame_epoch, frame_is, ok_same, passed}
