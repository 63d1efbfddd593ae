pub mod Families
pub mod Generalizing
pub mod Areas
