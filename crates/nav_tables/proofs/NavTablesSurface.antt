-- What proofs of other crates cite: what the tests of fields say, and what is known of a message
-- that is read or written.
pub use Rattle.nav_tables.proofs.FieldLemmas.{both, good, le_z_true}
pub use Rattle.nav_tables.proofs.MessageLemmas.{all_in_range, in_range_true, none_outside, ok_is}
pub use Rattle.nav_tables.proofs.MessageLemmas.{read_in_range}
pub use Rattle.nav_tables.proofs.MessageLemmas.{good_table, read_written, start_is, starts_length}
pub use Rattle.nav_tables.proofs.MessageLemmas.{written_read}
pub use Rattle.nav_tables.proofs.LoopLemmas.{long_is, range_length}
