-- What proofs of other crates cite: columns of lines, lines that agree in what matters, records and headers as they are
-- written, and consecutive steps of a reader.
pub use Rattle.rinex_read.proofs.ColumnLemmas.{IsAlike, columns_at, columns_alike, padded_alike, alike_itself}
pub use Rattle.rinex_read.proofs.AlikeLemmas.{AreAlike, all_alike, fewer_alike, judged_alike, looked_alike}
pub use Rattle.rinex_read.proofs.RecordLemmas.{item_again}
pub use Rattle.rinex_read.proofs.WrittenLemmas.{date_passes, leap_passes, header_ends}
pub use Rattle.rinex_read.proofs.WholeLemmas.{judged_whole}
pub use Rattle.rinex_read.proofs.StepLemmas.{steps_none, steps_more, header_steps_none, header_steps_more}
