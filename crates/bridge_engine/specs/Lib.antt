pub mod Options
pub mod WordsFound
pub mod Commands
pub mod Job
pub mod Meanings
pub mod Counts
pub mod CaptureBytes
pub mod Found
