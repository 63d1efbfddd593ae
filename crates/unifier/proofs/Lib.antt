pub mod Resuming
pub mod Taking
pub mod Sparing
