pub mod Accuracies
pub mod Columns
pub mod Fields
pub mod Layouts
pub mod Mirrors
pub mod Texts
pub mod Texts3
pub mod RowTexts
