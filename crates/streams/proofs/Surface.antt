-- Lemmas that proofs of other crates cite.
pub use Rattle.streams.proofs.OutletsSurface.{times_behind}
pub use Rattle.streams.proofs.StreamSurface.{Laws, adds_nothing, any_more, counts_are, is_known, items_more}
pub use Rattle.streams.proofs.StreamSurface.{items_same, known_more, looked_for, none_known, read_own, readings_more}
