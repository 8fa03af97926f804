pub mod Spellings
pub mod Rules
pub mod Turns
pub mod Lexed
pub mod Readings
pub mod Listings
pub mod Outcomes
pub mod Given
mod Beside
mod Dates
mod DigitTexts
mod Ends
mod Headlines
mod OneJob
mod RowJobs
pub mod Surface
mod TableRows
mod Told
