pub mod SlotParts
pub mod SentCapture
pub mod SentAgain
pub mod Plain
pub mod PlainLaws
