pub mod Messages
pub mod Reading
pub mod Writing
pub mod RoundTrip
pub mod Faults
