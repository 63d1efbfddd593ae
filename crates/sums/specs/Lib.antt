pub mod Sums
pub mod Areas
pub mod Summands
