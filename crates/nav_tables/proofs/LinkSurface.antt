-- What proofs of other crates cite: numbers in the ranges of their fields, columns and numbers
-- that come back, and links
-- behind others.
pub use Rattle.nav_tables.proofs.LinkLemmas.{joined-lt, inside_at, fit_parts, fit_all}
pub use Rattle.nav_tables.proofs.LinkLemmas.{right_all, back_all, column_at}
pub use Rattle.nav_tables.proofs.LinkLemmas.{columns_append, columns_length, filled_append}
pub use Rattle.nav_tables.proofs.LinkLemmas.{filled_length, links_append, fit_append, said_append}
