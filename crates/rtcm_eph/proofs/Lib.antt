pub mod Tables
pub mod Heads
pub mod Contents
pub mod RoundTrip
pub mod MessageBytes
pub mod Items
pub mod Order
