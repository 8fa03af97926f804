pub mod Files
pub mod Steps
pub mod Entries
pub mod Faults
pub mod Units
pub mod Kinds
