pub mod Members
pub mod Soundness
pub mod Areas
