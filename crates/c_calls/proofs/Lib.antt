mod LinesOfText
pub mod Lengths
mod Prefixes
mod SubframesAgain
mod PagesAgain
mod RecordsAgain
mod RecordCuts
mod SameHeader
mod HeaderLabels
pub mod Surface
mod RowLengths
mod CallLemmas
mod GrowLemmas
mod Marks
mod PageLemmas
mod PushLemmas
mod RunLemmas
mod TakeLemmas
mod TextWords
