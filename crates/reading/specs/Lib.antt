pub mod Parsing
pub mod Areas
pub mod Stacks
