mod KeptLemmas
pub mod Tolds
pub mod SentLemmas
pub mod RecordLemmas
pub mod FileLemmas
pub mod FileEnds
pub mod Stopping
pub mod ConvertLemmas
mod TakenLemmas
pub mod Surface
mod ListTexts
mod ReadLemmas
mod WriteLemmas
mod SetLemmas
mod WalkLemmas
mod NumberLemmas
