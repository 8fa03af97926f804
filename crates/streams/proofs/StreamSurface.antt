-- What proofs of other crates cite: ephemerides that are given once, and counts.
pub use Rattle.streams.proofs.AlikeLemmas.{Laws, looked_for, read_own}
pub use Rattle.streams.proofs.KnownLemmas.{adds_nothing, is_known, known_more, none_known}
pub use Rattle.streams.proofs.StreamLemmas.{any_more, counts_are, items_more, items_same, readings_more}
