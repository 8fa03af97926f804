-- What proofs of other crates cite: scales, texts and their columns, leading and trailing blanks, leading digits.
pub use Rattle.scaled_decimal.proofs.FarLemmas.{is_scale}
pub use Rattle.scaled_decimal.proofs.TextLemmas.{text_seen, kept_behind, no_blank}
pub use Rattle.scaled_decimal.proofs.ColumnLemmas.{length-number_text, AreShown-number_text}
pub use Rattle.scaled_decimal.proofs.SpanLemmas.{span-digits}
