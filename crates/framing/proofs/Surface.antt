-- What proofs of other crates cite: what one step of the deframer leaves of the decided messages, whatever bytes follow.
pub use Rattle.framing.proofs.Going.{decided_message, decided_none}
