pub mod Choices
pub mod Areas
pub mod Making
