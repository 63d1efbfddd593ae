pub mod Held
pub mod Giving
