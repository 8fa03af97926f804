pub mod Spans
pub mod Digits
pub mod Texts
pub mod Places
pub mod PartsLemmas
pub mod Alike
mod Cuts
mod Steps
