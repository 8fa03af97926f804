mod Cuts
mod Prefixes
mod LaterCalls
pub mod LineCounts
mod LineEnds
pub mod LineLaws
mod PieceLaws
mod Reading
pub mod ReadsLaws
mod Rests
pub mod Surface
mod WrittenLines
