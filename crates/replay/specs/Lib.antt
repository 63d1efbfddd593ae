pub mod Records
pub mod Replaying
