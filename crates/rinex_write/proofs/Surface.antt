-- What proofs of other crates cite: columns past the end of a row, fields that columns take, and the lines of records and headers.
pub use Rattle.rinex_write.proofs.Rows.{length-column_text, no_column}
pub use Rattle.rinex_write.proofs.ItemFields.{kept_ready}
pub use Rattle.rinex_write.proofs.WrittenLemmas.{lines_more, title_and_body, title_begins, title_of_shown, body_untitled, body_shown, item_shown, header_untitled, header_shown, length-header, text_more}
