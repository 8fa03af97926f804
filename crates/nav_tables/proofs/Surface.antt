-- Lemmas that proofs of other crates cite.
pub use Rattle.nav_tables.proofs.DaySurface.{frame_epoch, frame_is, good_rule, near_is, number_again, ok_same}
pub use Rattle.nav_tables.proofs.DaySurface.{passed, times_near, week_again}
pub use Rattle.nav_tables.proofs.LinkSurface.{back_all, column_at, columns_append, columns_length, filled_append, filled_length}
pub use Rattle.nav_tables.proofs.LinkSurface.{fit_all, fit_append, fit_parts, inside_at, joined-lt, links_append}
pub use Rattle.nav_tables.proofs.LinkSurface.{right_all, said_append}
pub use Rattle.nav_tables.proofs.NavTablesSurface.{all_in_range, both, good, good_table, in_range_true, le_z_true}
pub use Rattle.nav_tables.proofs.NavTablesSurface.{long_is, none_outside, ok_is, range_length, read_in_range, read_written}
pub use Rattle.nav_tables.proofs.NavTablesSurface.{start_is, starts_length, written_read}
