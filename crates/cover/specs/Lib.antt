pub mod Covering
pub mod Covered
pub mod Areas
