pub mod ExactText
pub mod CarriedLines
pub mod Mirrors
pub mod Columns
pub mod Dates
pub mod Lines
pub mod Files
pub mod OlderMirrors
