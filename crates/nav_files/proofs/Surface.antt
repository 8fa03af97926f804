-- What proofs of other crates cite: the texts and the counts of records with one more.
pub use Rattle.nav_files.proofs.RecordLemmas.{counts_more}
pub use Rattle.nav_files.proofs.FileEnds.{texts_prefix}
pub use Rattle.nav_files.proofs.ConvertLemmas.{grew_between, grew_more}
pub use Rattle.nav_files.proofs.KeptLemmas.{finish_as}
