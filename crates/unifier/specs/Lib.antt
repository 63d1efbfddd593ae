pub mod Running
pub mod Matched
pub mod Areas
