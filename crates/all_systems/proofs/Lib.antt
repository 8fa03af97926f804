mod Lemmas
mod Ranks
mod Taking
mod Parts
pub mod Records
pub mod CarriedTexts
pub mod HeldTexts
pub mod Items
pub mod KeptLines
pub mod RowOrder
pub mod Merges
pub mod Cells
pub mod NavLaws
pub mod NextEntries
pub mod MergeLaws
pub mod CarriedLaws
pub mod CarriedFronts
pub mod Wrote
