pub mod Areas
pub mod Building
pub mod Values
