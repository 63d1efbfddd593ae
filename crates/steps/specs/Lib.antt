pub mod Resting
pub mod Areas
