-- Lemmas that proofs of other crates cite: the bytes of words, their tables, and that no other bytes hold them.
pub use Rattle.inav.proofs.WordBytes.{stand1, zeros1, bytes1, only_word1, stand2, zeros2, bytes2, only_word2}
pub use Rattle.inav.proofs.WordBytes.{stand3, zeros3, bytes3, only_word3, stand4, zeros4, bytes4, only_word4}
pub use Rattle.inav.proofs.WordBytes.{stand5, zeros5, bytes5, only_word5}
