pub mod Texts
pub mod Reports
pub mod Causes
pub mod Runs
pub mod Ends
