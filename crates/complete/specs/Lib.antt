pub mod Judging
pub mod Completing
pub mod Areas
