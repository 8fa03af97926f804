pub mod Sent
pub mod Gps
pub mod Gal
pub mod Ion
pub mod Items
pub mod Laws
pub mod Rooms
