pub mod Covering
pub mod Ranges
pub mod Merging
pub mod Fronts
pub mod Ranks
