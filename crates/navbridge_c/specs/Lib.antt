pub mod Conversions
pub mod Mirrors
