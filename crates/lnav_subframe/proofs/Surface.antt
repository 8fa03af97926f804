-- Lemmas that proofs of other crates cite: the bytes of a subframe are those in which it is written, and no others
-- are; the source bits of a word, and the functions of words.
pub use Rattle.lnav_subframe.proofs.Bytes.{written_is}
pub use Rattle.lnav_subframe.proofs.Stand.{are_subframe_bytes, bytes_read, is_written}
pub use Rattle.lnav_subframe.proofs.ParityWords.{checked_source}
pub use Rattle.lnav_subframe.proofs.Equations.{one_word}
pub use Rattle.lnav_subframe.proofs.Choice.{one_solved}
pub use Rattle.lnav_subframe.proofs.ParityFunctions.{good-decides, one_source, source-is, source-only}
pub use Rattle.lnav_subframe.proofs.ParityFunctions.{made-good, made-source, made-lt, solved-is, solved-lt}
