pub mod Indices
pub mod Searching
pub mod Fresh
pub mod Areas
