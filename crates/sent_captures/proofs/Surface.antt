-- What other crates cite: the text of two concatenated lists of what is sent.
pub use Rattle.sent_captures.proofs.Texts.{texts_append, slots_append, sendable_append}
