-- What proofs of other crates cite: the lengths of lines and of rows of a record.
pub use Rattle.c_calls.proofs.Lengths.{length-date, length-digits, length-rows, never_full, rows_size}
