-- Lemmas that proofs of other crates cite.
pub use Rattle.inav.proofs.InavPageSurface.{heard_with_one_more, not_both, one_list_of, only_parts, parts_split, still_heard}
pub use Rattle.inav.proofs.WordSurface.{bytes1, bytes2, bytes3, bytes4, bytes5, only_word1}
pub use Rattle.inav.proofs.WordSurface.{only_word2, only_word3, only_word4, only_word5, stand1, stand2}
pub use Rattle.inav.proofs.WordSurface.{stand3, stand4, stand5, zeros1, zeros2, zeros4}
pub use Rattle.inav.proofs.WordSurface.{zeros5}
