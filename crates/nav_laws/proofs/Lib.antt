pub mod AppendLemmas
pub mod Slots
pub mod SlotPeriods
pub mod History
pub mod Circle
pub mod SentTexts
pub mod Received
pub mod SentSlots
pub mod Sendable
pub mod Fewer
pub mod Repeats
mod DueLemmas
mod PlainLemmas
pub mod Surface
