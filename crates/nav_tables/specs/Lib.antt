pub mod Fields
pub mod Messages
pub mod Mirrors
pub mod Links
pub mod Weeks
pub mod Days
pub mod Times
pub mod Pieces
