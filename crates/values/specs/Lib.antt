pub mod Values
pub mod Areas
