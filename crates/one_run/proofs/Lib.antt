mod Digits
pub mod Facts
pub mod Givings
pub mod Prefixes
pub mod Stops
pub mod Surface
