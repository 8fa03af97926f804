-- What proofs of other crates cite: lines that are spelt are read as their items.
pub use Rattle.nav_laws.proofs.SentTexts.{AreSpelt, LineLaws, lines_are, no_cr, no_end, spelt_append}
