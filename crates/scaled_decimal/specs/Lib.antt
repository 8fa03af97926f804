pub mod Fractions
pub mod ScaleValue
pub mod NumberText
pub mod NumberReading
pub mod Grammar
pub mod Mirrors
pub mod Values
