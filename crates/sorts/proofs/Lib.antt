pub mod Symbols
pub mod Testing
